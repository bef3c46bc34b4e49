-- `lexeme_at` finds each lexeme that stands where a text begins.
use Rattle.std.proofs.Common.{ℕ, ◌≡◌, ◌+◌, ◌<◌, ◌++◌, ◌==◌, ◌&&◌, ◌∙◌, inl, inr, List, [], ◌∷◌, Bool, true, false}
use Rattle.std.proofs.Common.{length, take, drop, Option, None, Some, cond, refl, sym, ap, subst, arith}
use Rattle.std.specs.Prelude.{nat_lt, option_map, is_some}
use Rattle.std.specs.Char.{is_ascii_alphabetic, is_ascii_digit}
use Rattle.std.specs.List.{list_all, prefix_len, take_while}
use Rattle.std.proofs.lemmas.Bool.{cond-false, cond-true, cases_Bool, and_parts, and_from, lt-ltb}
use Rattle.std.proofs.lemmas.List.{length-append, take_at, drop_at}
use Rattle.ecl_lexer.specs.declared.token.TokenKind.{TokenKind}
use Rattle.ecl_lexer.specs.declared.token.TokenKind.TheVariants.{Reverse}
use Rattle.ecl_lexer.specs.Bytes.{begins, begins_with, is_space, is_term_byte, IsRun}
use Rattle.ecl_lexer.specs.Lexemes.{Lexeme, space, comment, symbol, word, digits, number, term, Sign, unsigned, plus}
use Rattle.ecl_lexer.specs.Lexemes.{minus, is_plain, sign_text, fraction_text, lexeme_text, word_kind, BeginsBlank}
use Rattle.ecl_lexer.specs.Lexemes.{FollowsWord, FollowsWhole, Stands}
use Rattle.ecl_lexer.specs.Reading.{begins_blank, close_place, digits_at, follows_word, fraction_at, number_lexeme}
use Rattle.ecl_lexer.specs.Reading.{lexeme_at, plain_at, sign_at, sign_length, word_at, word_before}
use Rattle.ecl_lexer.proofs.ByteLemmas.{digit-not, letter-not_digit, space_cases}
use Rattle.ecl_lexer.proofs.CommentLemmas.{close_place-read}
use Rattle.ecl_lexer.proofs.RunLemmas.{prefix_len-run}
use Rattle.ecl_lexer.proofs.SymbolLemmas.{lexeme_at-symbol, symbol_at-read}

-- if each byte of `run` passes `test` and the first byte of `rest` does not, `take_while` takes `run` from the front
-- of `run` and `rest`
pub take_while-run : (test : ℕ → Bool) (run rest : List ℕ) → list_all test run ≡ true → begins test rest ≡ false
    → take_while test (run ++ rest) ≡ run
take_while-run test run rest each ended =
    take_at run rest (prefix_len test (run ++ rest)) (sym (prefix_len-run test run rest each ended))

-- if each byte of `run` passes `test` and the first byte of `rest` does not, dropping the bytes that `prefix_len`
-- counts from `run` and `rest` leaves `rest`
pub drop_while-run : (test : ℕ → Bool) (run rest : List ℕ) → list_all test run ≡ true → begins test rest ≡ false
    → drop (prefix_len test (run ++ rest)) (run ++ rest) ≡ rest
drop_while-run test run rest each ended =
    drop_at run rest (prefix_len test (run ++ rest)) (sym (prefix_len-run test run rest each ended))

space-found : (byte : ℕ) (rest : List ℕ) → is_space byte ≡ true → lexeme_at (byte ∷ rest) ≡ Some (space byte)
space-found byte rest is = elim (space_cases byte is) [
  | inl blank ↦ found 32 refl blank
  | inr (inl tab) ↦ found 9 refl tab
  | inr (inr (inl return)) ↦ found 13 refl return
  | inr (inr (inr feed)) ↦ found 10 refl feed
] where
  found : (value : ℕ) → lexeme_at (value ∷ rest) ≡ Some (space value) → byte ≡ value
      → lexeme_at (byte ∷ rest) ≡ Some (space byte)
  found value here same = subst (λ (n : ℕ). lexeme_at (n ∷ rest) ≡ Some (space n)) (sym same) here

comment-found : (inside rest : List ℕ) → Stands (comment inside) rest
    → lexeme_at (lexeme_text (comment inside) rest) ≡ Some (comment inside)
comment-found inside rest stands =
    let following : List ℕ = inside ++ 42 ∷ 47 ∷ rest in
    ap (option_map (λ (n : ℕ). comment (take n following))) (close_place-read inside rest stands)
    ∙ ap (λ (front : List ℕ). Some (comment front)) (take_at inside (42 ∷ 47 ∷ rest) (length inside) refl)

-- `close_place` finds a place in a text that has a close
close_place-some : (inside rest : List ℕ) → is_some (close_place (inside ++ 42 ∷ 47 ∷ rest)) ≡ true
close_place-some [] rest = refl
close_place-some (x ∷ inside) rest = elim (cases_Bool (x == 42 && begins_with 47 (inside ++ 42 ∷ 47 ∷ rest))) [
  | inl here ↦ rw here refl
  | inr other ↦ rw other (mapped (close_place (inside ++ 42 ∷ 47 ∷ rest)) (close_place-some inside rest))
] where
  mapped : (o : Option ℕ) → is_some o ≡ true → is_some (option_map (λ (n : ℕ). 1 + n) o) ≡ true
  mapped None some = some
  mapped (Some n) some = some

-- if `text` begins with a blank, `begins_blank` is true for it
pub begins_blank-true : (text : List ℕ) → BeginsBlank text → begins_blank text ≡ true
begins_blank-true text (inl blank) = rw blank refl
begins_blank-true text (inr (inside, rest, is)) =
    subst (λ (all : List ℕ). begins_blank all ≡ true) (sym is) (close_place-some inside rest)

follows_word-true : (kind : TokenKind) (rest : List ℕ) → FollowsWord kind rest → follows_word kind rest ≡ true
follows_word-true Reverse rest follows = refl
follows_word-true kind rest follows = begins_blank-true rest follows

word-found : (letters rest : List ℕ) (kind : TokenKind) → Stands (word letters kind) rest
    → lexeme_at (letters ++ rest) ≡ Some (word letters kind)
word-found [] rest kind stands = absurd (omega (arith, stands.0.some))
word-found (first ∷ more) rest kind stands =
    let run = stands.0 in
    let letter : is_ascii_alphabetic first ≡ true = (and_parts (is_ascii_alphabetic first) _ run.each).0 in
    let no_digit = letter-not_digit first letter in
    let letters : List ℕ = first ∷ more in
    let front = take_while-run is_ascii_alphabetic letters rest run.each run.ended in
    let back = drop_while-run is_ascii_alphabetic letters rest run.each run.ended in
    let here : lexeme_at (letters ++ rest) ≡ word_at (letters ++ rest) =
    cond-false (is_ascii_digit first) _ _ no_digit ∙ cond-true (is_ascii_alphabetic first) _ _ letter in
    here
    ∙ ap (λ (front : List ℕ). word_before front (drop (prefix_len is_ascii_alphabetic (letters ++ rest))
    (letters ++ rest)) (word_kind front)) front
    ∙ ap (λ (back : List ℕ). word_before letters back (word_kind letters)) back
    ∙ ap (word_before letters rest) stands.1
    ∙ ap (λ (b : Bool). cond b (Some (word letters kind)) None) (follows_word-true kind rest stands.2)

-- if `run` is a whole run of digits before `rest`, and its first digit is 0 only if it is the only one, `plain_at`
-- returns `run` for the text of both
pub plain_at-found : (run rest : List ℕ) → IsRun is_ascii_digit run rest → is_plain run ≡ true
    → plain_at (run ++ rest) ≡ Some run
plain_at-found run rest is plain =
    let front = take_while-run is_ascii_digit run rest is.each is.ended in
    let good : (nat_lt 0 (length run) && is_plain run) ≡ true =
    and_from (nat_lt 0 (length run)) (is_plain run) (lt-ltb 0 (length run) is.some) plain in
    ap (λ (front : List ℕ). cond (nat_lt 0 (length front) && is_plain front) (Some front) None) front
    ∙ ap (λ (b : Bool). cond b (Some run) None) good

digits-found : (run rest : List ℕ) → Stands (digits run) rest → lexeme_at (run ++ rest) ≡ Some (digits run)
digits-found [] rest stands = absurd (omega (arith, stands.0.some))
digits-found (first ∷ more) rest stands =
    let digit : is_ascii_digit first ≡ true = (and_parts (is_ascii_digit first) _ stands.0.each).0 in
    let here : lexeme_at ((first ∷ more) ++ rest) ≡ digits_at ((first ∷ more) ++ rest) =
    cond-true (is_ascii_digit first) _ _ digit in
    here ∙ ap (option_map digits) (plain_at-found (first ∷ more) rest stands.0 stands.1)

-- `sign_at` finds the sign before digits, and `unsigned` if digits begin the text
sign_at-found : (sign : Sign) (whole following : List ℕ) → 0 < length whole → list_all is_ascii_digit whole ≡ true
    → sign_at (sign_text sign (whole ++ following)) ≡ sign
sign_at-found plus whole following some each = refl
sign_at-found minus whole following some each = refl
sign_at-found unsigned [] following some each = absurd (omega arith)
sign_at-found unsigned (first ∷ more) following some each =
    let digit : is_ascii_digit first ≡ true = (and_parts (is_ascii_digit first) _ each).0 in
    let no_plus = digit-not first 43 digit (omega arith) in
    let no_minus = digit-not first 45 digit (omega arith) in
    rw (no_plus, no_minus) refl

drop-sign : (sign : Sign) (rest : List ℕ) → drop (sign_length sign) (sign_text sign rest) ≡ rest
drop-sign unsigned rest = refl
drop-sign plus rest = refl
drop-sign minus rest = refl

take_while-none : (test : ℕ → Bool) (text : List ℕ) → begins test text ≡ false → take_while test text ≡ []
take_while-none test [] ended = refl
take_while-none test (x ∷ text) ended = rw ended refl

fraction_at-found : (fraction rest : List ℕ) → FollowsWhole fraction rest
    → fraction_at (fraction_text fraction rest) ≡ fraction
fraction_at-found [] rest follows = elim (cases_Bool (begins_with 46 rest)) [
  | inr other ↦ rw other refl
  | inl point ↦
      let none : begins is_ascii_digit (drop 1 rest) ≡ false = rw point at follows in
      rw point (take_while-none is_ascii_digit (drop 1 rest) none)
]
fraction_at-found (digit ∷ more) rest follows =
    take_while-run is_ascii_digit (digit ∷ more) rest follows.each follows.ended

number-found : (sign : Sign) (whole fraction rest : List ℕ) → Stands (number sign whole fraction) rest
    → lexeme_at (lexeme_text (number sign whole fraction) rest) ≡ Some (number sign whole fraction)
number-found sign whole fraction rest stands =
    let following : List ℕ = fraction_text fraction rest in
    let text : List ℕ = sign_text sign (whole ++ following) in
    let run = stands.0 in
    let signed = sign_at-found sign whole following run.some run.each in
    ap (λ (s : Sign). number_lexeme s (drop (sign_length s) text) (plain_at (drop (sign_length s) text))) signed
    ∙ ap (λ (after : List ℕ). number_lexeme sign after (plain_at after)) (drop-sign sign (whole ++ following))
    ∙ ap (number_lexeme sign (whole ++ following)) (plain_at-found whole following run stands.1)
    ∙ ap (λ (after : List ℕ). Some (number sign whole (fraction_at after)))
    (drop_at whole following (length whole) refl)
    ∙ ap (λ (fraction : List ℕ). Some (number sign whole fraction)) (fraction_at-found fraction rest stands.2)

term-found : (inside rest : List ℕ) → Stands (term inside) rest
    → lexeme_at (lexeme_text (term inside) rest) ≡ Some (term inside)
term-found inside rest stands =
    let text : List ℕ = inside ++ 124 ∷ rest in
    let count = prefix_len-run is_term_byte inside (124 ∷ rest) stands refl in
    let fits : nat_lt (length inside) (length text) ≡ true =
    lt-ltb (length inside) (length text) (omega (arith, length-append inside (124 ∷ rest))) in
    ap (λ (n : ℕ). cond (nat_lt n (length text)) (Some (term (take n text))) None) count
    ∙ rw fits (ap (λ (front : List ℕ). Some (term front)) (take_at inside (124 ∷ rest) (length inside) refl))

-- if `lexeme` stands before `rest`, `lexeme_at` returns `lexeme` for the text of both
pub lexeme_at-read : (lexeme : Lexeme) (rest : List ℕ) → Stands lexeme rest
    → lexeme_at (lexeme_text lexeme rest) ≡ Some lexeme
lexeme_at-read (space byte) rest stands = space-found byte rest stands
lexeme_at-read (comment inside) rest stands = comment-found inside rest stands
lexeme_at-read (symbol bytes kind) rest stands = lexeme_at-symbol bytes rest kind stands.0
    ∙ symbol_at-read bytes rest kind stands.0 stands.1
lexeme_at-read (word letters kind) rest stands = word-found letters rest kind stands
lexeme_at-read (digits run) rest stands = digits-found run rest stands
lexeme_at-read (number sign whole fraction) rest stands = number-found sign whole fraction rest stands
lexeme_at-read (term inside) rest stands = term-found inside rest stands
