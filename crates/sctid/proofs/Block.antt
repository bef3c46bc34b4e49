-- Eight digits, read as four numbers of two digits: their value and their check product.
use Rattle.std.proofs.Common.{◌≡◌, ℕ, ◌+◌, ◌-◌, ◌*◌, ◌/◌, ◌%◌, ◌<◌, ◌≤◌, zero, suc, true, w64, List, [], ◌∷◌, map}
use Rattle.std.proofs.Common.{length, get_or, refl, ap, ◌∙◌, arith}
use Rattle.std.specs.Char.{is_ascii_digit, digit_value}
use Rattle.std.specs.Int.{from_le_bytes, to_le_bytes}
use Rattle.std.specs.List.{list_all, range_with_len}
use Rattle.std.specs.Str.Parse.{digits_value}
use Rattle.std.proofs.lemmas.Bool.{and_parts, leb-true}
use Rattle.std.proofs.lemmas.Grind.{same_number_lists}
use Rattle.std.proofs.lemmas.List.FromFn.{get_or-map-range_with_len}
use Rattle.std.proofs.lemmas.Nat.{le_bytes_8}
use Rattle.std.proofs.lemmas.Str.{digit_value_digit}
use Rattle.sctid.specs.Identifier.{times, permuted, check_product}
use Rattle.sctid.proofs.Group.{times-lt, times_assoc, zero-times, permuted-lt}
use Rattle.sctid.proofs.Product.{digit-lt}
use Rattle.numerals.proofs.DigitLemmas.{digit_in}

-- the text of the eight digits `digit 0` to `digit 7`
abbrev pub block_text : (ℕ → ℕ) → List ℕ
block_text digit = map (λ i. digit i + 48) (range_with_len 0 8)

-- each of the eight numbers `digit 0` to `digit 7` is below 10
abbrev pub AreDigits : (ℕ → ℕ) → Type 0
AreDigits digit = (i : ℕ) → i < 8 → digit i < 10

-- the digit at index `i` of a text, counted from the left
abbrev pub digit_in_text : List ℕ → ℕ → ℕ
digit_in_text bytes i = get_or bytes i 0 - 48

-- if a text has eight bytes, all of them ASCII digits, each of its digits is below 10
pub are_digits : (bytes : List ℕ) → length bytes ≡ 8 → list_all is_ascii_digit bytes ≡ true
    → AreDigits (digit_in_text bytes)
are_digits bytes eight digits i within = digit-lt (get_or bytes i 0) (digit_in bytes i (omega arith) digits)

-- a text of eight ASCII digits is `block_text` of its digits
pub spelled : (bytes : List ℕ) → length bytes ≡ 8 → list_all is_ascii_digit bytes ≡ true
    → bytes ≡ block_text (digit_in_text bytes)
spelled bytes eight digits =
    same_number_lists bytes (block_text (digit_in_text bytes)) eight (λ k within.
    let at_least : 48 ≤ get_or bytes k 0 = leb-true 48 _ (and_parts _ _ (digit_in bytes k within digits)).0 in
    omega (arith, get_or-map-range_with_len (λ i. digit_in_text bytes i + 48) 0 8 k k 0 (omega arith) (omega arith)))

-- the number that eight bytes make, the first byte the lowest
abbrev word : ℕ → ℕ → ℕ → ℕ → ℕ → ℕ → ℕ → ℕ → ℕ
word a b c d e f g h = a + 256 * (b + 256 * (c + 256 * (d + 256 * (e + 256 * (f + 256 * (g + 256 * h))))))

-- the number that eight bytes make is the one that `from_le_bytes` reads from them
word_sum : (n a b c d e f g h : ℕ) → n ≡ word a b c d e f g h
    → n ≡ from_le_bytes w64 (a ∷ b ∷ c ∷ d ∷ e ∷ f ∷ g ∷ h ∷ [])
word_sum n a b c d e f g h n_is = omega arith

-- the number that `from_le_bytes` reads from eight bytes is the one that they make
sum_word : (n a b c d e f g h : ℕ) → n ≡ from_le_bytes w64 (a ∷ b ∷ c ∷ d ∷ e ∷ f ∷ g ∷ h ∷ [])
    → n ≡ word a b c d e f g h
sum_word n a b c d e f g h n_is = omega arith

-- if a word has a digit in each byte, ten times the word plus the word shifted down by a byte has in each byte the
-- number of a digit and its right neighbour
pairs_word : (n a b c d e f g h : ℕ) → a < 10
    → n ≡ word (a + 48) (b + 48) (c + 48) (d + 48) (e + 48) (f + 48) (g + 48) (h + 48) →
    (n - 3472328296227680304) * 10 + (n - 3472328296227680304) / 256
    ≡ word (a * 10 + b) (b * 10 + c) (c * 10 + d) (d * 10 + e) (e * 10 + f) (f * 10 + g) (g * 10 + h) (h * 10)
pairs_word n a b c d e f g h a_in n_is =
    let right : ℕ = b + 256 * (c + 256 * (d + 256 * (e + 256 * (f + 256 * (g + 256 * h))))) in
    let digits : n - 3472328296227680304 ≡ a + 256 * right = omega arith in
    let shifted : (n - 3472328296227680304) / 256 ≡ right = omega arith in
    omega arith

-- eight factors are multiplied as two halves of two pairs each
halves : (a b c d e f g h : ℕ) → a < 10 → b < 10 → c < 10 → d < 10 → e < 10 → f < 10 → g < 10 → h < 10 →
    times (times (times (times (times (times (times (times 0 h) g) f) e) d) c) b) a
    ≡ times (times (times h g) (times f e)) (times (times d c) (times b a))
halves a b c d e f g h a_in b_in c_in d_in e_in f_in g_in h_in =
    let last = times h g in
    let last_in = times-lt h g h_in g_in in
    let third_in = times-lt f e f_in e_in in
    let second_in = times-lt d c d_in c_in in
    let first_in = times-lt b a b_in a_in in
    let right_in = times-lt last (times f e) last_in third_in in
    ap (λ p. times (times (times (times (times (times (times p g) f) e) d) c) b) a) (zero-times h h_in)
    ∙ ap (λ p. times (times (times (times p d) c) b) a) (times_assoc last f e last_in f_in e_in)
    ∙ ap (λ p. times (times p b) a) (times_assoc (times last (times f e)) d c right_in d_in c_in)
    ∙ times_assoc (times (times last (times f e)) (times d c)) b a (times-lt _ _ right_in second_in) b_in a_in
    ∙ times_assoc (times last (times f e)) (times d c) (times b a) right_in second_in first_in

-- if `x` and every byte of a list are below 256, every byte of `x` followed by the list is
byte_more : (x : ℕ) (xs : List ℕ) → x < 256 → ((i : ℕ) → get_or xs i 0 < 256) → (i : ℕ) → get_or (x ∷ xs) i 0 < 256
byte_more x xs first rest zero = first
byte_more x xs first rest (suc i) = rest i

-- the bytes of the number that eight bytes make are these bytes
bytes_of_word : (n a b c d e f g h : ℕ) → a < 256 → b < 256 → c < 256 → d < 256 → e < 256 → f < 256 → g < 256 → h < 256
    → n ≡ word a b c d e f g h →
    to_le_bytes w64 n ≡ a ∷ b ∷ c ∷ d ∷ e ∷ f ∷ g ∷ h ∷ []
bytes_of_word n a b c d e f g h a_in b_in c_in d_in e_in f_in g_in h_in n_is =
    let bytes_8 = byte_more h [] h_in (λ i. omega arith) in
    let bytes_7 = byte_more g (h ∷ []) g_in bytes_8 in
    let bytes_6 = byte_more f (g ∷ h ∷ []) f_in bytes_7 in
    let bytes_5 = byte_more e (f ∷ g ∷ h ∷ []) e_in bytes_6 in
    let bytes_4 = byte_more d (e ∷ f ∷ g ∷ h ∷ []) d_in bytes_5 in
    let bytes_3 = byte_more c (d ∷ e ∷ f ∷ g ∷ h ∷ []) c_in bytes_4 in
    let bytes_2 = byte_more b (c ∷ d ∷ e ∷ f ∷ g ∷ h ∷ []) b_in bytes_3 in
    let bytes_1 = byte_more a (b ∷ c ∷ d ∷ e ∷ f ∷ g ∷ h ∷ []) a_in bytes_2 in
    le_bytes_8 (a ∷ b ∷ c ∷ d ∷ e ∷ f ∷ g ∷ h ∷ []) n refl bytes_1 (word_sum n a b c d e f g h n_is)

-- the number of two digits: digit `i`, and its right neighbour
abbrev pub pair : (ℕ → ℕ) → ℕ → ℕ
pair digit i = digit i * 10 + digit (i + 1)

-- the number of digit `i` and its right neighbour is below 100
pub pair-lt : (digit : ℕ → ℕ) (i : ℕ) → AreDigits digit → i < 7 → pair digit i < 100
pair-lt digit i small within = omega (arith, small i (omega arith), small (i + 1) (omega arith))

-- for each of eight digits the number of it and its right neighbour, which is 0 for the last
abbrev pub pairs : (ℕ → ℕ) → List ℕ
pairs digit = pair digit 0 ∷ pair digit 1 ∷ pair digit 2 ∷ pair digit 3 ∷ pair digit 4 ∷ pair digit 5 ∷ pair digit 6
    ∷ digit 7 * 10 ∷ []

-- the word that `read_block` makes of eight digits has as its bytes, for each digit, the number of it and its right
-- neighbour
pub block_pairs : (bytes : List ℕ) (n : ℕ) → length bytes ≡ 8 → list_all is_ascii_digit bytes ≡ true
    → n ≡ from_le_bytes w64 bytes →
    to_le_bytes w64 ((n - 3472328296227680304) * 10 + (n - 3472328296227680304) / 256) ≡ pairs (digit_in_text bytes)
block_pairs bytes n eight digits n_is =
    let digit : ℕ → ℕ = digit_in_text bytes in
    let small = are_digits bytes eight digits in
    let lt = λ (i : ℕ) (within : i < 7). pair-lt digit i small within in
    bytes_of_word _ (pair digit 0) (pair digit 1) (pair digit 2) (pair digit 3) (pair digit 4) (pair digit 5)
    (pair digit 6) (digit 7 * 10)
    (omega (arith, lt 0 (omega arith))) (omega (arith, lt 1 (omega arith))) (omega (arith, lt 2 (omega arith)))
    (omega (arith, lt 3 (omega arith))) (omega (arith, lt 4 (omega arith))) (omega (arith, lt 5 (omega arith)))
    (omega (arith, lt 6 (omega arith))) (omega (arith, small 7 (omega arith)))
    (pairs_word n (digit 0) (digit 1) (digit 2) (digit 3) (digit 4) (digit 5) (digit 6) (digit 7)
    (small 0 (omega arith))
    (sum_word n (digit 0 + 48) (digit 1 + 48) (digit 2 + 48) (digit 3 + 48) (digit 4 + 48) (digit 5 + 48)
    (digit 6 + 48) (digit 7 + 48) (n_is ∙ ap (from_le_bytes w64) (spelled bytes eight digits))))

-- the byte of a digit has the value of this digit
value_is : (digit : ℕ) → digit < 10 → digit_value (digit + 48) ≡ digit
value_is digit is_digit = omega (arith, digit_value_digit (digit + 48) (omega arith, omega arith))

-- the value of eight digits is made of the numbers of their four pairs
pub block_value : (bytes : List ℕ) → length bytes ≡ 8 → list_all is_ascii_digit bytes ≡ true →
    digits_value 10 bytes ≡ ((pair (digit_in_text bytes) 0 * 100 + pair (digit_in_text bytes) 2) * 100
    + pair (digit_in_text bytes) 4) * 100 + pair (digit_in_text bytes) 6
block_value bytes eight digits =
    let digit : ℕ → ℕ = digit_in_text bytes in
    let value = λ (i : ℕ) (within : i < 8). value_is (digit i) (are_digits bytes eight digits i within) in
    ap (digits_value 10) (spelled bytes eight digits)
    ∙ omega (arith, value 0, value 1, value 2, value 3, value 4, value 5, value 6, value 7)

-- the product of the permuted digits of a text of eight, multiplied pair by pair
abbrev pub paired : (ℕ → ℕ) → ℕ
paired digit =
    times (times (times (permuted 0 (digit 7)) (permuted 1 (digit 6)))
    (times (permuted 2 (digit 5)) (permuted 3 (digit 4))))
    (times (times (permuted 4 (digit 3)) (permuted 5 (digit 2))) (times (permuted 6 (digit 1)) (permuted 7 (digit 0))))

-- a digit is its byte less the byte of 0
less : (digit : ℕ) → digit + 48 - 48 ≡ digit
less digit = omega arith

-- the check product of a text of eight digits is the product of its pairs
text_product : (digit : ℕ → ℕ) → AreDigits digit → check_product (block_text digit) ≡ paired digit
text_product digit small =
    let lt = λ (place i : ℕ) (within : i < 8). permuted-lt place (digit i) (small i within) in
    let multiplied = halves (permuted 7 (digit 0)) (permuted 6 (digit 1)) (permuted 5 (digit 2))
    (permuted 4 (digit 3)) (permuted 3 (digit 4)) (permuted 2 (digit 5)) (permuted 1 (digit 6)) (permuted 0 (digit 7))
    (lt 7 0 (omega arith)) (lt 6 1 (omega arith)) (lt 5 2 (omega arith)) (lt 4 3 (omega arith))
    (lt 3 4 (omega arith)) (lt 2 5 (omega arith)) (lt 1 6 (omega arith)) (lt 0 7 (omega arith)) in
    simp less multiplied

-- the check product of a text of eight digits is `paired` of the digits
pub block_product : (bytes : List ℕ) → length bytes ≡ 8 → list_all is_ascii_digit bytes ≡ true
    → check_product bytes ≡ paired (digit_in_text bytes)
block_product bytes eight digits =
    let small = are_digits bytes eight digits in
    ap check_product (spelled bytes eight digits) ∙ text_product (digit_in_text bytes) small

-- the product that `pair_product` gives for the number of two digits is that of the permuted digits: the right one
-- at place `2 * index`, and the left one at the next place
pub pair_factors : (digit : ℕ → ℕ) (index i value : ℕ) → AreDigits digit → i < 7 → value ≡ pair digit i →
    times (permuted (2 * index) (value % 10)) (permuted (2 * index + 1) (value / 10))
    ≡ times (permuted (2 * index) (digit (i + 1))) (permuted (2 * index + 1) (digit i))
pair_factors digit index i value small within value_is_pair =
    let ones : value % 10 ≡ digit (i + 1) = omega (arith, small (i + 1) (omega arith)) in
    let tens : value / 10 ≡ digit i = omega (arith, small (i + 1) (omega arith)) in
    ap (λ d. times (permuted (2 * index) d) (permuted (2 * index + 1) (value / 10))) ones
    ∙ ap (λ d. times (permuted (2 * index) (digit (i + 1))) (permuted (2 * index + 1) d)) tens

-- if `a`, `b`, `c` and `d` are `w`, `x`, `y` and `z`, the product of `a * b` and `c * d` is the product of `w * x`
-- and `y * z`
pub four_pairs : (a b c d left right all w x y z : ℕ) → all ≡ times right left → right ≡ times a b → left ≡ times c d
    → a ≡ w → b ≡ x → c ≡ y → d ≡ z →
    all ≡ times (times w x) (times y z)
four_pairs a b c d left right all w x y z all_is right_is left_is a_is b_is c_is d_is = cc
