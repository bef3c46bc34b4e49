-- The numbers of a printed text as lexemes.
use Rattle.std.proofs.Common.{ℕ, ℤ, pos, negsuc, ◌≡◌, ◌==◌, ◌&&◌, ◌||◌, ◌/◌, ◌%◌, ◌^◌, ◌≤◌, ◌<◌, Bool, true, false}
use Rattle.std.proofs.Common.{List, [], ◌∷◌, ◌++◌, Option, None, Some, length, map, drop, get_or, zero, suc, nat_le}
use Rattle.std.proofs.Common.{decimal, refl, ap, ◌∙◌, sym, subst, arith}
use Rattle.std.specs.Prelude.{nat_lt}
use Rattle.std.specs.Char.{is_ascii_alphabetic, is_ascii_digit}
use Rattle.std.specs.List.{list_all}
use Rattle.std.specs.Str.{IsUtf8}
use Rattle.std.proofs.lemmas.Bool.{and_from, and_parts, false_from_ne_true, le-leb, leb-true, lt-ltb, or_parts}
use Rattle.std.proofs.lemmas.Bool.Decides.{nat_tests}
use Rattle.std.proofs.lemmas.Fmt.{decimal_digit, first_decimal}
use Rattle.std.proofs.lemmas.List.{append-nil, append_assoc}
use Rattle.std.proofs.lemmas.Str.{IsUtf8-append, IsUtf8-nil}
use Rattle.std.proofs.lemmas.Str.Parse.{digits_value_short}
use Rattle.numerals.proofs.DigitLemmas.{numerals}
use Rattle.ecl_lexer.specs.Bytes.{begins, begins_with}
use Rattle.ecl_lexer.specs.Lexemes.{digits as digits_lexeme, number as number_lexeme, fraction_text as point_text}
use Rattle.ecl_lexer.specs.Lexemes.{bytes_of, is_plain, Sign, unsigned, plus, minus, sign_text, Stands}
use Rattle.ecl_lexer.specs.Refusals.{IsRead, unsupported}
use Rattle.ecl_lexer.proofs.ByteLemmas.{letter-not_digit}
use Rattle.ecl_lexer.proofs.ReadLemmas.{lexeme_text-bytes}
use Rattle.numerals.specs.Numbers.{is_number, number_of}
use Rattle.numerals.specs.Decimals.{decimal_of}
use Rattle.constraint_tree.specs.Grammar.{Symbol, symbol_of, digits, decimal as decimal_symbol}
use Rattle.constraint_tree.specs.Text.{count_text, fraction_digits, fraction_text, most_text, number_text, range_text}
use Rattle.constraint_tree.specs.Text.{unsigned_text}
use Rattle.constraint_tree.proofs.FractionLemmas.{fraction_written}
use Rattle.constraint_tree.proofs.NumberLemmas.{number_is_small, whole_written}
use Rattle.constraint_tree.proofs.LexemeLemmas.{Reads, along, bracket_close, bracket_open, dots, low_bytes, lexeme_then}
use Rattle.constraint_tree.proofs.LexemeLemmas.{wildcard}
use Rattle.constraint_tree.proofs.SymbolLemmas.{other_byte, swapped}
use Rattle.constraint_tree.proofs.Symbols.{HasDigits, IsPrintableMost, count_symbols, most_symbols, range_symbols}

-- `test || true` is true for every `test`
or_true : (test : Bool) → (test || true) ≡ true
or_true true = refl
or_true false = refl

-- a digit run whose first byte is greater than `0` is plain
plain_from : (run : List ℕ) → 48 < get_or run 0 0 → is_plain run ≡ true
plain_from [] first = absurd (omega arith)
plain_from (byte ∷ run) first =
    let apart : (byte == 48) ≡ false = grind (arith, nat_tests) in
    rw apart (or_true (length (byte ∷ run) == 1))

-- the decimal digits of a number below 10^18 are plain: they have no leading zero
decimal_plain : (number : ℕ) → number < 10 ^ 18 → is_plain (decimal number) ≡ true
decimal_plain zero small = ap is_plain (decimal_digit 0 (omega arith))
decimal_plain (suc number) small =
    plain_from (decimal (suc number)) (first_decimal (suc number) (omega arith) (omega arith))

-- no digit is a letter
digit-not_letter : (byte : ℕ) → is_ascii_digit byte ≡ true → is_ascii_alphabetic byte ≡ false
digit-not_letter byte is =
    false_from_ne_true (is_ascii_alphabetic byte) (λ letter. let none = letter-not_digit byte letter in absurd (cc))

-- no unsupported form begins with a digit
digit_supported : (byte : ℕ) (rest : List ℕ) → is_ascii_digit byte ≡ true → unsupported (byte ∷ rest) ≡ None
digit_supported byte rest is =
    let no_letter = digit-not_letter byte is in
    let no_brace = swapped byte 123 (other_byte is_ascii_digit byte 123 is refl) in
    let no_caret = other_byte is_ascii_digit byte 94 is refl in
    let no_quote = other_byte is_ascii_digit byte 34 is refl in
    rw (no_letter, no_brace, no_caret, no_quote) refl

-- no unsupported form begins with a digit run
run_supported : (run rest : List ℕ) → 0 < length run → list_all is_ascii_digit run ≡ true
    → unsupported (run ++ rest) ≡ None
run_supported [] rest some each = absurd (omega arith)
run_supported (byte ∷ run) rest some each =
    digit_supported byte (run ++ rest) (and_parts (is_ascii_digit byte) (list_all is_ascii_digit run) each).0

-- every digit is a byte below 128
low_digit : (byte : ℕ) → is_ascii_digit byte ≡ true → nat_lt byte 128 ≡ true
low_digit byte is = let high =
    leb-true byte 57 (and_parts (nat_le 48 byte) (nat_le byte 57) is).1 in lt-ltb byte 128 (omega arith)

-- every byte of a digit run is below 128
low_digits : (run : List ℕ) → list_all is_ascii_digit run ≡ true → list_all (λ byte. nat_lt byte 128) run ≡ true
low_digits [] each = refl
low_digits (byte ∷ run) each =
    let parts = and_parts (is_ascii_digit byte) (list_all is_ascii_digit run) each in
    and_from (nat_lt byte 128) (list_all (λ other. nat_lt other 128) run) (low_digit byte parts.0)
    (low_digits run parts.1)

-- the decimal digits of `number` can be read as digits of a text: there are 1 to 18 of them, without a leading zero
pub record WritesDigits (number : ℕ) : Type 0 where
  -- there is at least one digit
  pub some : 0 < length (decimal number)
  -- there are at most 18 digits
  pub few : length (decimal number) ≤ 18
  -- every byte is a digit
  pub each : list_all is_ascii_digit (decimal number) ≡ true
  -- the digits have no leading zero
  pub plain : is_plain (decimal number) ≡ true

-- if `number` has `least` to 18 decimal digits, with `least` above 0, its decimal text is 1 to 18 digits without a
-- leading zero
pub digits_written : (least number : ℕ) → 0 < least → HasDigits least 18 number → WritesDigits number
digits_written least number some written =
    let tests = and_parts (nat_le least (length (decimal number)) && nat_le (length (decimal number)) 18)
    (list_all is_ascii_digit (decimal number)) written.is in
    let lengths = and_parts (nat_le least (length (decimal number))) (nat_le (length (decimal number)) 18) tests.0 in
    let few : length (decimal number) ≤ 18 = leb-true (length (decimal number)) 18 lengths.1 in
    let long : least ≤ length (decimal number) = leb-true least (length (decimal number)) lengths.0 in
    let small : number_of (decimal number) < 10 ^ 18 = digits_value_short numerals (decimal number) 18 tests.1 few in
    let below : number < 10 ^ 18 = subst (λ (n : ℕ). n < 10 ^ 18) written.value small in
    record { some = omega arith; few = few; each = tests.1; plain = decimal_plain number below }

-- if the digits of `number` can be read, `rest` begins with no digit, and the lexer reads `rest` as `symbols`, then
-- it reads the digits and `rest` as the symbol of the digits and `symbols`
pub digits_read : (number : ℕ) (rest : List ℕ) (symbols : List Symbol) → WritesDigits number
    → begins is_ascii_digit rest ≡ false → Reads rest symbols
    → Reads (decimal number ++ rest) (digits (decimal number) ∷ symbols)
digits_read number rest symbols written ends more =
    let read : IsRead (digits_lexeme (decimal number)) rest = record {
      stands = (record { some = written.some; each = written.each; ended = ends }, written.plain);
      supported = run_supported (decimal number) rest written.some written.each;
      within = le-leb (length (decimal number)) 18 written.few;
    } in
    lexeme_then (digits_lexeme (decimal number)) rest (λ found. digits (decimal number) ∷ found) symbols
    (λ tokens. ap (λ (run : List ℕ). digits run ∷ map symbol_of tokens) (append-nil (decimal number))) read
    (subst IsUtf8 (sym (append-nil (decimal number)))
    (low_bytes (decimal number) (low_digits (decimal number) written.each))) more

-- a text is a point and digits after it, or nothing
record WritesPoint (text : List ℕ) : Type 0 where
  fraction : List ℕ
  is : (rest : List ℕ) → text ++ rest ≡ point_text fraction rest
  each : list_all is_ascii_digit fraction ≡ true
  few : length fraction ≤ 18

-- a point in front of a digit run is the text of a fraction
point_then : (run rest : List ℕ) → 0 < length run → 46 ∷ run ++ rest ≡ point_text run rest
point_then [] rest some = absurd (omega arith)
point_then (digit ∷ run) rest some = refl

-- the text of a fraction below 10^18 is a point and digits, or nothing
point_written : (fraction : ℕ) → fraction < 10 ^ 18 → WritesPoint (fraction_text fraction)
point_written fraction small = by (fraction == 0) refl
  where
    by : (test : Bool) → (fraction == 0) ≡ test → WritesPoint (fraction_text fraction)
    by true test = record { fraction = []; is = λ rest. rw test refl; each = refl; few = omega arith }
    by false test =
        let other : (fraction ≡ 0) → ⊥ = λ none. grind (arith, nat_tests, test) in
        let written = fraction_written 18 fraction small in
        record {
          fraction = fraction_digits 18 fraction;
          is = λ rest. rw test (point_then (fraction_digits 18 fraction) rest (written.some other));
          each = written.each;
          few = written.few;
        }

-- whether a byte may not follow a number: a digit, or a point, because a digit might follow it
abbrev pub number_byte : ℕ → Bool
number_byte byte = is_ascii_digit byte || byte == 46

-- a text may follow a number: it begins with no digit and no point
abbrev pub EndsNumber : List ℕ → Type 0
EndsNumber rest = begins number_byte rest ≡ false

-- if `rest` may follow a number, it begins with no digit
pub ends_digits : (rest : List ℕ) → EndsNumber rest → begins is_ascii_digit rest ≡ false
ends_digits [] ends = refl
ends_digits (byte ∷ rest) ends = (or_parts (is_ascii_digit byte) (byte == 46) ends).0

-- a text that may follow a number begins with no point
ends_point : (rest : List ℕ) → EndsNumber rest → begins_with 46 rest ≡ false
ends_point [] ends = refl
ends_point (byte ∷ rest) ends = (or_parts (is_ascii_digit byte) (byte == 46) ends).1

-- the fraction of a number, in front of a text that may follow a number, begins with no digit
after_whole : (fraction rest : List ℕ) → EndsNumber rest → begins is_ascii_digit (point_text fraction rest) ≡ false
after_whole [] rest ends = ends_digits rest ends
after_whole (digit ∷ more) rest ends = refl

-- a number may stand in front of a text that may follow a number
number_stands : (sign : Sign) (whole fraction rest : List ℕ) → 0 < length whole
    → list_all is_ascii_digit whole ≡ true → is_plain whole ≡ true → list_all is_ascii_digit fraction ≡ true
    → EndsNumber rest → Stands (number_lexeme sign whole fraction) rest
number_stands sign whole [] rest some each plain following ends =
    let no_point = ends_point rest ends in
    (record { some = some; each = each; ended = ends_digits rest ends }, plain, rw no_point refl)
number_stands sign whole (digit ∷ more) rest some each plain following ends = (
  record { some = some; each = each; ended = refl },
  plain,
  record {
    some = omega arith;
    each = following;
    ended = ends_digits rest ends;
  },
)

-- the bytes of a fraction are UTF-8
point_utf8 : (fraction : List ℕ) → list_all is_ascii_digit fraction ≡ true → IsUtf8 (point_text fraction [])
point_utf8 [] each = IsUtf8-nil
point_utf8 (digit ∷ more) each =
    IsUtf8-append (46 ∷ []) ((digit ∷ more) ++ []) (low_bytes (46 ∷ []) refl)
    (subst IsUtf8 (sym (append-nil (digit ∷ more))) (low_bytes (digit ∷ more) (low_digits (digit ∷ more) each)))

-- a sign in front of UTF-8 bytes gives UTF-8 bytes
sign_utf8 : (sign : Sign) (text : List ℕ) → IsUtf8 text → IsUtf8 (sign_text sign text)
sign_utf8 unsigned text utf8 = utf8
sign_utf8 plus text utf8 = IsUtf8-append (43 ∷ []) text (low_bytes (43 ∷ []) refl) utf8
sign_utf8 minus text utf8 = IsUtf8-append (45 ∷ []) text (low_bytes (45 ∷ []) refl) utf8

-- the bytes of a number are UTF-8
number_utf8 : (sign : Sign) (whole fraction : List ℕ) → list_all is_ascii_digit whole ≡ true
    → list_all is_ascii_digit fraction ≡ true → IsUtf8 (bytes_of (number_lexeme sign whole fraction))
number_utf8 sign whole fraction each following =
    let unsigned_utf8 : IsUtf8 (whole ++ point_text fraction []) =
    IsUtf8-append whole (point_text fraction []) (low_bytes whole (low_digits whole each))
    (point_utf8 fraction following) in
    IsUtf8-append (35 ∷ []) (sign_text sign (whole ++ point_text fraction [])) (low_bytes (35 ∷ []) refl)
    (sign_utf8 sign (whole ++ point_text fraction []) unsigned_utf8)

-- a number with a sign is read in front of a text that may follow a number
signed_reads : (sign : Sign) (number : ℕ) (rest : List ℕ) (symbols : List Symbol) → number < 10 ^ 36
    → EndsNumber rest → Reads rest symbols
    → Reads (35 ∷ sign_text sign (unsigned_text number) ++ rest)
    (decimal_symbol (35 ∷ sign_text sign (unsigned_text number)) ∷ symbols)
signed_reads sign number rest symbols small ends more =
    let whole : List ℕ = decimal (number / 10 ^ 18) in
    let part : List ℕ = fraction_text (number % 10 ^ 18) in
    let text : List ℕ = 35 ∷ sign_text sign (unsigned_text number) in
    let written = whole_written (number / 10 ^ 18) (omega arith) in
    let plain = decimal_plain (number / 10 ^ 18) (omega arith) in
    let few : length whole ≤ 18 = number_few whole written.is in
    let point = point_written (number % 10 ^ 18) (omega arith) in
    let same : bytes_of (number_lexeme sign whole point.fraction) ≡ text =
    ap (λ (following : List ℕ). 35 ∷ sign_text sign (whole ++ following)) (sym (point.is []) ∙ append-nil part) in
    let read : IsRead (number_lexeme sign whole point.fraction) rest = record {
      stands = number_stands sign whole point.fraction rest written.some written.each plain point.each ends;
      supported = refl;
      within = and_from (nat_le (length whole) 18) (nat_le (length point.fraction) 18) (le-leb (length whole) 18 few)
          (le-leb (length point.fraction) 18 point.few);
    } in
    along (decimal_symbol text ∷ symbols) (lexeme_text-bytes (number_lexeme sign whole point.fraction) rest
    ∙ ap (λ (front : List ℕ). front ++ rest) same)
    (lexeme_then (number_lexeme sign whole point.fraction) rest (λ found. decimal_symbol text ∷ found) symbols
    (λ tokens. ap (λ (bytes : List ℕ). decimal_symbol bytes ∷ map symbol_of tokens) same) read
    (number_utf8 sign whole point.fraction written.each point.each) more)
  where
    number_few : (run : List ℕ) → is_number 1 18 run ≡ true → length run ≤ 18
    number_few run is =
        let tests = and_parts (nat_le 1 (length run) && nat_le (length run) 18) (list_all is_ascii_digit run) is in
        leb-true (length run) 18 (and_parts (nat_le 1 (length run)) (nat_le (length run) 18) tests.0).1

-- if `value` is read back from its printed text, `rest` may follow a number, and the lexer reads `rest` as `symbols`,
-- then it reads the text of `value` and `rest` as the symbol of the number and `symbols`
pub value_reads : (value : ℤ) (rest : List ℕ) (symbols : List Symbol)
    → decimal_of (drop 1 (number_text value)) ≡ Some value → EndsNumber rest → Reads rest symbols
    → Reads (number_text value ++ rest) (decimal_symbol (number_text value) ∷ symbols)
value_reads (pos number) rest symbols written ends more =
    signed_reads unsigned number rest symbols (number_is_small (drop 1 (number_text (pos number))) (pos number) written)
    ends more
value_reads (negsuc below) rest symbols written ends more =
    signed_reads minus (suc below) rest symbols
    (number_is_small (drop 1 (number_text (negsuc below))) (negsuc below) written) ends more

-- the maximum of a cardinality is read in front of a text that begins with no digit
most_reads : (most : Option ℕ) (rest : List ℕ) (symbols : List Symbol) → IsPrintableMost most
    → begins is_ascii_digit rest ≡ false → Reads rest symbols
    → Reads (most_text most ++ rest) (most_symbols most symbols)
most_reads None rest symbols written ends more = wildcard rest symbols more
most_reads (Some most) rest symbols written ends more =
    digits_read most rest symbols (digits_written 1 most (omega arith) written) ends more

-- a cardinality that is written out is read in front of any text that is read
range_reads : (least : ℕ) (most : Option ℕ) (rest : List ℕ) (symbols : List Symbol) → HasDigits 1 18 least
    → IsPrintableMost most → Reads rest symbols
    → Reads (range_text least most ++ rest) (range_symbols least most symbols)
range_reads least most rest symbols written most_written more =
    let upper = most_reads most (93 ∷ rest) _ most_written refl (bracket_close rest symbols more) in
    let lower = digits_read least _ _ (digits_written 1 least (omega arith) written) refl (dots _ _ upper) in
    along (range_symbols least most symbols) (regroup (decimal least) (most_text most)) (bracket_open _ _ lower)
  where
    regroup : (one other : List ℕ) → 91 ∷ one ++ (46 ∷ 46 ∷ other ++ 93 ∷ rest) ≡ 91 ∷ one ++ 46 ∷ 46 ∷ [] ++ other
        ++ 93 ∷ [] ++ rest
    regroup one other = simp append_assoc

-- if the bounds of a cardinality have 1 to 18 digits and the lexer reads `rest` as `symbols`, then it reads the text
-- of the cardinality and `rest` as the cardinality's symbols and `symbols`. The text of `[1..*]` is empty
pub count_reads : (least : ℕ) (most : Option ℕ) (rest : List ℕ) (symbols : List Symbol) → HasDigits 1 18 least
    → IsPrintableMost most → Reads rest symbols
    → Reads (count_text least most ++ rest) (count_symbols least most symbols)
count_reads least None rest symbols written most_written more = by (least == 1) refl
  where
    by : (test : Bool) → (least == 1) ≡ test → Reads (count_text least None ++ rest) (count_symbols least None symbols)
    by true same = rw same more
    by false same = rw same (range_reads least None rest symbols written most_written more)
count_reads least (Some most) rest symbols written most_written more =
    range_reads least (Some most) rest symbols written most_written more
