-- The number after a `#`.
use Rattle.std.proofs.Common.{ℕ, ◌≡◌, ◌+◌, ◌<◌, ◌++◌, ◌&&◌, ◌∙◌, ◌⊎◌, inl, inr, List, [], ◌∷◌, Bool, length, drop}
use Rattle.std.proofs.Common.{Option, Some, sym, ap, arith}
use Rattle.std.specs.Prelude.{nat_le, option_map}
use Rattle.std.proofs.lemmas.List.{length-append}
use Rattle.ecl_lexer.specs.declared.lexemes.Lexeme.{Lexeme as Found}
use Rattle.ecl_lexer.specs.declared.token.TokenKind.TheVariants.{Number}
use Rattle.ecl_lexer.specs.Lexemes.{Sign, unsigned, plus, minus, number, fraction_text, sign_text, bytes_of}
use Rattle.ecl_lexer.specs.Reading.{found, fraction_at, number_at, number_lexeme, plain_at, sign_at, sign_length}
use Rattle.ecl_lexer.proofs.CommentLemmas.{option_map-Some}

-- the number of bytes of the point before the digits of a fraction: 1, or 0 if there are no digits
abbrev pub point_length : List ℕ → ℕ
point_length [] = 0
point_length (digit ∷ more) = 1

length-fraction_text : (fraction rest : List ℕ)
    → length (fraction_text fraction rest) ≡ point_length fraction + length fraction + length rest
length-fraction_text [] rest = omega arith
length-fraction_text (digit ∷ more) rest = omega (arith, length-append more rest)

length-sign_text : (sign : Sign) (rest : List ℕ) → length (sign_text sign rest) ≡ sign_length sign + length rest
length-sign_text unsigned rest = omega arith
length-sign_text plus rest = omega arith
length-sign_text minus rest = omega arith

-- the length of a number is the sum of 1 for its `#` and the lengths of its sign, its digits, its point and its
-- fraction
pub length-number : (sign : Sign) (whole fraction : List ℕ)
    → length (bytes_of (number sign whole fraction)) ≡ 1 + sign_length sign + length whole + point_length fraction
    + length fraction
length-number sign whole fraction =
    let following : List ℕ = whole ++ fraction_text fraction [] in
    omega (
      arith,
      length-sign_text sign following,
      length-append whole (fraction_text fraction []),
      length-fraction_text
          fraction [],
    )

point_is : (fraction : List ℕ) (count point : ℕ) → count ≡ length fraction
    → ((0 < count) × (point ≡ 1)) ⊎ ((count ≡ 0) × (point ≡ 0)) → point ≡ point_length fraction
point_is [] count point is (inl (some, one)) = absurd (omega (arith, some))
point_is [] count point is (inr (none, zero_is)) = zero_is
point_is (digit ∷ more) count point is (inl (some, one)) = one
point_is (digit ∷ more) count point is (inr (none, zero_is)) = absurd (omega (arith, none))

-- a number as the code returns it
abbrev number_found : ℕ → Bool → Option Found
number_found size within = Some (record { kind = Some Number; length = size; is_within_limit = within })

-- if the code has counted the bytes of the sign, the digits before the point, the point and the digits after it, the
-- token with the sum of these and 1 as its length is the one that `number_at` finds
pub number_is : (text : List ℕ) (sign whole point fraction : ℕ) (within : Bool)
    → sign ≡ sign_length (sign_at text)
    → Some whole ≡ option_map length (plain_at (drop sign text))
    → fraction ≡ length (fraction_at (drop whole (drop sign text)))
    → ((0 < fraction) × (point ≡ 1)) ⊎ ((fraction ≡ 0) × (point ≡ 0))
    → within ≡ (nat_le whole 18 && nat_le fraction 18)
    → number_found (1 + sign + whole + point + fraction) within ≡ option_map found (number_at text)
number_is text sign whole point fraction within sign_is whole_is fraction_is point_cases within_is =
    let plain = option_map-Some length (plain_at (drop sign text)) whole (sym whole_is) in
    let following : List ℕ = drop sign text in
    let parts : List ℕ = fraction_at (drop (length plain.0) following) in
    let counted : fraction ≡ length parts =
    fraction_is ∙ ap (λ (n : ℕ). length (fraction_at (drop n following))) (sym plain.2) in
    let size : 1 + sign + whole + point + fraction ≡ length (bytes_of (number (sign_at text) plain.0 parts)) =
    omega (
      arith,
      length-number (sign_at text) plain.0 parts,
      point_is parts fraction point counted point_cases,
      sign_is,
      plain.2,
      counted,
    ) in
    let limit : within ≡ (nat_le (length plain.0) 18 && nat_le (length parts) 18) =
    within_is ∙ ap (λ (n : ℕ). nat_le n 18 && nat_le fraction 18) (sym plain.2)
    ∙ ap (λ (n : ℕ). nat_le (length plain.0) 18 && nat_le n 18) counted in
    ap (λ (n : ℕ). number_found n within) size
    ∙ ap (number_found (length (bytes_of (number (sign_at text) plain.0 parts)))) limit
    ∙ ap (λ (o : Option (List ℕ)). option_map found (number_lexeme (sign_at text) following o)) (sym plain.1)
    ∙ ap (λ (n : ℕ). option_map found (number_lexeme (sign_at text) (drop n text) (plain_at (drop n text)))) sign_is
