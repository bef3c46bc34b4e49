-- The check product of a text of digits, which is defined from the right and computed from the left.
use Rattle.std.proofs.Common.{◌≡◌, ℕ, ◌+◌, ◌-◌, ◌<◌, ◌≤◌, nat_le, zero, suc, true, List, [], ◌∷◌, ◌++◌, length, get_or}
use Rattle.std.proofs.Common.{drop, length-append, length-drop, sym, ap, ◌∙◌, arith}
use Rattle.std.specs.Char.{is_ascii_digit}
use Rattle.std.specs.List.{list_all}
use Rattle.std.proofs.lemmas.Bool.{and_parts, leb-true}
use Rattle.std.proofs.lemmas.List.{at_drop_more}
use Rattle.numerals.proofs.DigitLemmas.{digit_in}
use Rattle.sctid.specs.Identifier.{times, permuted, check_product}
use Rattle.sctid.proofs.Group.{times-lt, times_assoc, times-zero, permuted-lt, permuted-eight}

-- the value of a digit is below ten
pub digit-lt : (byte : ℕ) → is_ascii_digit byte ≡ true → byte - 48 < 10
digit-lt byte digit = let at_most : byte ≤ 57 =
    leb-true byte 57 (and_parts (nat_le 48 byte) (nat_le byte 57) digit).1 in omega arith

-- the check product of a text of digits is an element of the group
pub check_product-lt : (text : List ℕ) → list_all is_ascii_digit text ≡ true → check_product text < 10
check_product-lt [] digits = omega arith
check_product-lt (byte ∷ right) digits =
    let parts = and_parts _ _ digits in
    times-lt (check_product right) _ (check_product-lt right parts.1)
    (permuted-lt (length right) (byte - 48) (digit-lt byte parts.0))

-- a text of digits without its first `i` bytes is digits
digits-drop : (i : ℕ) (text : List ℕ) → list_all is_ascii_digit text ≡ true
    → list_all is_ascii_digit (drop i text) ≡ true
digits-drop zero text digits = digits
digits-drop (suc i) [] digits = digits
digits-drop (suc i) (byte ∷ right) digits = digits-drop i right (and_parts _ _ digits).1

-- if the check product of a text is that of the text from `i` on times `product`, it is that of the text from `i +
-- 1` on times the product of digit `i`, permuted as at its place, and `product`
pub check_product-more : (text : List ℕ) (i place product : ℕ) → i < length text
    → list_all is_ascii_digit text ≡ true → place + (i + 1) ≡ length text → product < 10 →
    check_product text ≡ times (check_product (drop i text)) product →
    check_product text ≡ times (check_product (drop (i + 1) text))
    (times (permuted place (get_or text i 0 - 48)) product)
check_product-more text i place product within digits placed element so_far =
    let digit = get_or text i 0 - 48 in
    let right = drop (i + 1) text in
    let place_is : length right ≡ place = omega (arith, length-drop (i + 1) text) in
    let step = at_drop_more check_product text i 0 within
    ∙ ap (λ p. times (check_product right) (permuted p digit)) place_is in
    let factor_in = permuted-lt place digit (digit-lt (get_or text i 0) (digit_in text i within digits)) in
    let right_in = check_product-lt right (digits-drop (i + 1) text digits) in
    so_far ∙ ap (λ p. times p product) step
    ∙ times_assoc (check_product right) (permuted place digit) product right_in factor_in element

-- the check product of digits followed by eight digits is that of the eight digits times that of the first digits
-- alone
pub check_product-block : (left right : List ℕ) → list_all is_ascii_digit left ≡ true
    → list_all is_ascii_digit right ≡ true → length right ≡ 8
    → check_product (left ++ right) ≡ times (check_product right) (check_product left)
check_product-block [] right left_digits right_digits eight =
    sym (times-zero (check_product right) (check_product-lt right right_digits))
check_product-block (byte ∷ rest) right left_digits right_digits eight =
    let parts = and_parts _ _ left_digits in
    let is_digit = digit-lt byte parts.0 in
    let length_is : length (rest ++ right) ≡ length rest + 8 = omega (arith, length-append rest right) in
    let factor_is = ap (λ place. permuted place (byte - 48)) length_is
    ∙ permuted-eight (length rest) (byte - 48) is_digit in
    ap (λ p. times p (permuted (length (rest ++ right)) (byte - 48)))
    (check_product-block rest right parts.1 right_digits eight)
    ∙ ap (times (times (check_product right) (check_product rest))) factor_is
    ∙ times_assoc (check_product right) (check_product rest) (permuted (length rest) (byte - 48))
    (check_product-lt right right_digits) (check_product-lt rest parts.1)
    (permuted-lt (length rest) (byte - 48) is_digit)
