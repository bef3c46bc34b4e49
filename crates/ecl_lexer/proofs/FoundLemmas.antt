-- The lexeme that `lexeme_at` finds is the longest that begins the text.
use Rattle.std.proofs.Common.{ℕ, suc, ◌≡◌, ◌+◌, ◌<◌, ◌++◌, ◌==◌, ◌&&◌, ◌∙◌, inl, inr, List, [], ◌∷◌, Bool, true, false}
use Rattle.std.proofs.Common.{length, take, drop, Option, None, Some, refl, sym, ap, subst, arith}
use Rattle.std.specs.Prelude.{nat_eq, nat_lt, is_some, codes}
use Rattle.std.specs.Char.{is_ascii_alphabetic, is_ascii_digit}
use Rattle.std.specs.List.{prefix_len, starts_with, take_while}
use Rattle.std.proofs.lemmas.Bool.{cases_Bool, and_parts, ltb-true, eqb-true}
use Rattle.std.proofs.lemmas.Bool.Decides.{Decides-eqb}
use Rattle.std.proofs.lemmas.List.{length-drop, take_at, drop_at, take-append-drop}
use Rattle.std.proofs.lemmas.Slice.Eq.{starts_is}
use Rattle.ecl_lexer.specs.declared.token.TokenKind.{TokenKind}
use Rattle.ecl_lexer.specs.declared.token.TokenKind.TheVariants.{Reverse}
use Rattle.ecl_lexer.specs.Bytes.{begins, begins_with, is_space, is_term_byte, IsRun}
use Rattle.ecl_lexer.specs.Lexemes.{Lexeme, space, comment, symbol, word, digits, number, term, Sign, is_plain}
use Rattle.ecl_lexer.specs.Lexemes.{sign_text, fraction_text, lexeme_text, word_kind, BeginsBlank, BeginsComment}
use Rattle.ecl_lexer.specs.Lexemes.{FollowsWord, FollowsWhole, Stands}
use Rattle.ecl_lexer.specs.Reading.{begins_blank, close_place, comment_at, comment_inside, digits_at, follows_word}
use Rattle.ecl_lexer.specs.Reading.{fraction_at, number_at, number_lexeme, lexeme_at, lexeme_by, plain_at, sign_at}
use Rattle.ecl_lexer.specs.Reading.{sign_length, symbol_at, term_at, word_at, word_before}
use Rattle.ecl_lexer.proofs.CommentLemmas.{close_place-found, option_map-Some}
use Rattle.ecl_lexer.proofs.RunLemmas.{prefix_len-each, prefix_len-ended}
use Rattle.ecl_lexer.proofs.SymbolLemmas.{symbol_at-found}

-- `text` begins with `lexeme`, and with no longer lexeme
pub record StandsIn (text : List ℕ) (lexeme : Lexeme) : Type 0 where
  -- the text after the lexeme
  pub rest : List ℕ
  -- `text` is the bytes of `lexeme`, followed by `rest`
  pub is : text ≡ lexeme_text lexeme rest
  -- no longer lexeme begins there
  pub stands : Stands lexeme rest

-- if at least one byte at the front of `text` passes `test`, all such bytes at the front are a whole run
pub take_while-IsRun : (test : ℕ → Bool) (text : List ℕ) → 0 < length (take_while test text)
    → IsRun test (take_while test text) (drop (prefix_len test text) text)
take_while-IsRun test text some =
    record { some = some; each = prefix_len-each test text; ended = prefix_len-ended test text }

-- `text` begins with the digits `run`, no digit follows them, and the first is 0 only if it is the only one
pub record IsPlainRun (text run : List ℕ) : Type 0 where
  -- the text after the digits
  pub rest : List ℕ
  -- `text` is the digits, followed by `rest`
  pub is : text ≡ run ++ rest
  -- no digit follows the digits: `rest` does not begin with one
  pub maximal : IsRun is_ascii_digit run rest
  -- the first digit is 0 only if it is the only one
  pub plain : is_plain run ≡ true

plain_at-IsPlainRun : (text run : List ℕ) → plain_at text ≡ Some run → IsPlainRun text run
plain_at-IsPlainRun text run found =
    elim (cases_Bool (nat_lt 0 (length (take_while is_ascii_digit text))
    && is_plain (take_while is_ascii_digit text))) [
      | inr bad ↦ let none : None ≡ Some run = rw bad at found in absurd cc
      | inl good ↦
          let front : List ℕ = take_while is_ascii_digit text in
          let parts = and_parts (nat_lt 0 (length front)) (is_plain front) good in
          let some : Some front ≡ Some run = rw good at found in
          let same : front ≡ run = cc in
          let here : IsPlainRun text front = record {
            rest = drop (prefix_len is_ascii_digit text) text;
            is = sym (take-append-drop (prefix_len is_ascii_digit text) text);
            maximal = take_while-IsRun is_ascii_digit text (ltb-true 0 (length front) parts.0);
            plain = parts.1;
          } in
          subst (IsPlainRun text) same here
    ]

digits_at-stands : (text : List ℕ) (lexeme : Lexeme) → digits_at text ≡ Some lexeme → StandsIn text lexeme
digits_at-stands text lexeme found =
    let made = option_map-Some digits (plain_at text) lexeme found in
    let run = plain_at-IsPlainRun text made.0 made.1 in
    let here : StandsIn text (digits made.0) =
    record { rest = run.rest; is = run.is; stands = (run.maximal, run.plain) } in
    subst (StandsIn text) made.2 here

-- a text begins with the comment of which `comment_inside` counts the bytes inside
comment_inside-is : (text : List ℕ) (inside : ℕ) → comment_inside text ≡ Some inside
    → StandsIn text (comment (take inside (drop 2 text)))
comment_inside-is text inside found = elim (cases_Bool (starts_with nat_eq text (codes "/*"))) [
  | inr other ↦ let none : None ≡ Some inside = rw other at found in absurd cc
  | inl opens ↦
      let front : text ≡ 47 ∷ 42 ∷ drop 2 text = (starts_is Decides-eqb text (codes "/*") true (sym opens)).0 refl in
      let place : close_place (drop 2 text) ≡ Some inside = rw opens at found in
      let closes = close_place-found (drop 2 text) inside place in
      let same : take inside (drop 2 text) ≡ closes.inside =
      ap (take inside) closes.is ∙ take_at closes.inside (42 ∷ 47 ∷ closes.rest) inside closes.size in
      let here : StandsIn text (comment closes.inside) = record {
        rest = closes.rest;
        is = front ∙ ap (λ (following : List ℕ). 47 ∷ 42 ∷ following) closes.is;
        stands = closes.without;
      } in
      subst (λ (inside : List ℕ). StandsIn text (comment inside)) (sym same) here
]

comment_at-stands : (text : List ℕ) (lexeme : Lexeme) → comment_at text ≡ Some lexeme → StandsIn text lexeme
comment_at-stands text lexeme found =
    let made = option_map-Some (λ (n : ℕ). comment (take n (drop 2 text))) (comment_inside text) lexeme found in
    subst (StandsIn text) made.2 (comment_inside-is text made.0 made.1)

begins_blank-BeginsBlank : (text : List ℕ) → begins_blank text ≡ true → BeginsBlank text
begins_blank-BeginsBlank text is = elim (cases_Bool (begins is_space text)) [
  | inl blank ↦ inl blank
  | inr other ↦ let some : is_some (comment_inside text) ≡ true =
      rw other at is in inr (comment_of (comment_inside text) refl some)
] where
  comment_of : (o : Option ℕ) → comment_inside text ≡ o → is_some o ≡ true → BeginsComment text
  comment_of None is some = absurd cc
  comment_of (Some inside) is some =
      let here = comment_inside-is text inside is in
      (take inside (drop 2 text), here.rest, here.is)

follows_word-FollowsWord : (kind : TokenKind) (rest : List ℕ) → follows_word kind rest ≡ true → FollowsWord kind rest
follows_word-FollowsWord Reverse rest follows = tt
follows_word-FollowsWord kind rest follows = begins_blank-BeginsBlank rest follows

word_before-stands : (text letters rest : List ℕ) (lexeme : Lexeme) → text ≡ letters ++ rest
    → IsRun is_ascii_alphabetic letters rest
    → (o : Option TokenKind) → word_kind letters ≡ o → word_before letters rest o ≡ Some lexeme → StandsIn text lexeme
word_before-stands text letters rest lexeme whole run None is found = absurd cc
word_before-stands text letters rest lexeme whole run (Some kind) is found =
    elim (cases_Bool (follows_word kind rest)) [
      | inr not ↦ let none : None ≡ Some lexeme = rw not at found in absurd cc
      | inl follows ↦
          let same : Some (word letters kind) ≡ Some lexeme = rw follows at found in
          let here : StandsIn text (word letters kind) =
          record { rest = rest; is = whole; stands = (run, is, follows_word-FollowsWord kind rest follows) } in
          subst (StandsIn text) (cc) here
    ]

word_at-stands : (text : List ℕ) (lexeme : Lexeme) → 0 < length (take_while is_ascii_alphabetic text)
    → word_at text ≡ Some lexeme → StandsIn text lexeme
word_at-stands text lexeme some found =
    let n : ℕ = prefix_len is_ascii_alphabetic text in
    word_before-stands text (take n text) (drop n text) lexeme (sym (take-append-drop n text))
    (take_while-IsRun is_ascii_alphabetic text some)
    (word_kind (take n text)) refl found

-- a text is the sign that `sign_at` finds and then the rest
sign_at-is : (text : List ℕ) → text ≡ sign_text (sign_at text) (drop (sign_length (sign_at text)) text)
sign_at-is [] = refl
sign_at-is (x ∷ text) = elim (cases_Bool (x == 43)) [
  | inl signed ↦ let same = eqb-true x 43 signed in rw same refl
  | inr other ↦ elim (cases_Bool (x == 45)) [
    | inl signed ↦ let same = eqb-true x 45 signed in rw same refl
    | inr none ↦ rw (other, none) refl
  ]
]

-- a text begins with the fraction `fraction`, which may be empty
record IsFraction (text fraction : List ℕ) : Type 0 where
  rest : List ℕ
  is : text ≡ fraction_text fraction rest
  follows : FollowsWhole fraction rest

fraction_at-IsFraction : (text : List ℕ) → IsFraction text (fraction_at text)
fraction_at-IsFraction text = elim (cases_Bool (begins_with 46 text)) [
  | inr other ↦
      let none : fraction_at text ≡ [] = rw other refl in
      let here : IsFraction text [] = record { rest = text; is = refl; follows = rw other refl } in
      subst (IsFraction text) (sym none) here
  | inl point ↦
      let front : text ≡ 46 ∷ drop 1 text = pointed text point in
      let some : fraction_at text ≡ take_while is_ascii_digit (drop 1 text) = rw point refl in
      subst (IsFraction text) (sym some) (by_digits front point (take_while is_ascii_digit (drop 1 text)) refl)
] where
  pointed : (text : List ℕ) → begins_with 46 text ≡ true → text ≡ 46 ∷ drop 1 text
  pointed [] point = absurd cc
  pointed (x ∷ following) point = let same = eqb-true x 46 point in cc

  by_digits : text ≡ 46 ∷ drop 1 text → begins_with 46 text ≡ true → (run : List ℕ)
      → take_while is_ascii_digit (drop 1 text) ≡ run → IsFraction text run
  by_digits front point [] is = record { rest = text; is = refl; follows = rw point (none_first (drop 1 text) is) }
    where
      none_first : (text : List ℕ) → take_while is_ascii_digit text ≡ [] → begins is_ascii_digit text ≡ false
      none_first [] is = refl
      none_first (x ∷ following) is = elim (cases_Bool (is_ascii_digit x)) [
        | inr other ↦ other
        | inl digit ↦
            let one : 1 + prefix_len is_ascii_digit following ≡ suc (prefix_len is_ascii_digit following) =
            omega arith in
            let taken : x ∷ take (prefix_len is_ascii_digit following) following ≡ [] = rw (digit, one) at is in
            absurd cc
      ]
  by_digits front point (digit ∷ more) is =
      let after : List ℕ = drop (prefix_len is_ascii_digit (drop 1 text)) (drop 1 text) in
      let whole : drop 1 text ≡ (digit ∷ more) ++ after =
      sym (take-append-drop (prefix_len is_ascii_digit (drop 1 text)) (drop 1 text))
      ∙ ap (λ (run : List ℕ). run ++ after) is in
      let run : IsRun is_ascii_digit (digit ∷ more) after =
      subst (λ (run : List ℕ). IsRun is_ascii_digit run after) is
      (take_while-IsRun is_ascii_digit (drop 1 text) (rw is (omega arith))) in
      record { rest = after; is = front ∙ ap (λ (following : List ℕ). 46 ∷ following) whole; follows = run }

number_lexeme-stands : (text : List ℕ) (sign : Sign) (following : List ℕ) (lexeme : Lexeme)
    → text ≡ sign_text sign following
    → (o : Option (List ℕ)) → plain_at following ≡ o → number_lexeme sign following o ≡ Some lexeme
    → StandsIn (35 ∷ text) lexeme
number_lexeme-stands text sign following lexeme signed None is found = absurd cc
number_lexeme-stands text sign following lexeme signed (Some whole) is found =
    let run = plain_at-IsPlainRun following whole is in
    let back : drop (length whole) following ≡ run.rest = ap (drop (length whole)) run.is
    ∙ drop_at whole run.rest (length whole) refl in
    let read = fraction_at-IsFraction run.rest in
    let fraction : List ℕ = fraction_at run.rest in
    let same : Some (number sign whole fraction) ≡ Some lexeme =
    ap (λ (after : List ℕ). Some (number sign whole (fraction_at after))) (sym back) ∙ found in
    let digits_run : IsRun is_ascii_digit whole (fraction_text fraction read.rest) =
    subst (IsRun is_ascii_digit whole) read.is run.maximal in
    let here : StandsIn (35 ∷ text) (number sign whole fraction) = record {
      rest = read.rest;
      is = ap (λ (all : List ℕ). 35 ∷ all) (signed
          ∙ ap (sign_text sign) (run.is ∙ ap (λ (after : List ℕ). whole ++ after) read.is));
      stands = (digits_run, run.plain, read.follows);
    } in
    subst (StandsIn (35 ∷ text)) (cc) here

number_at-stands : (text : List ℕ) (lexeme : Lexeme) → number_at text ≡ Some lexeme → StandsIn (35 ∷ text) lexeme
number_at-stands text lexeme found =
    let following : List ℕ = drop (sign_length (sign_at text)) text in
    number_lexeme-stands text (sign_at text) following lexeme (sign_at-is text) (plain_at following) refl found

term_at-stands : (text : List ℕ) (lexeme : Lexeme) → term_at text ≡ Some lexeme → StandsIn (124 ∷ text) lexeme
term_at-stands text lexeme found = elim (cases_Bool (nat_lt (prefix_len is_term_byte text) (length text))) [
  | inr open_ended ↦ let none : None ≡ Some lexeme = rw open_ended at found in absurd cc
  | inl closed ↦
      let n : ℕ = prefix_len is_term_byte text in
      let fits = ltb-true n (length text) closed in
      let same : Some (term (take n text)) ≡ Some lexeme = rw closed at found in
      let bar = bar_first (drop n text) (omega (arith, length-drop n text)) (prefix_len-ended is_term_byte text) in
      let here : StandsIn (124 ∷ text) (term (take n text)) = record {
        rest = drop 1 (drop n text);
        is = ap (λ (all : List ℕ). 124 ∷ all) (sym (take-append-drop n text)
            ∙ ap (λ (after : List ℕ). take n text ++ after) bar);
        stands = prefix_len-each is_term_byte text;
      } in
      subst (StandsIn (124 ∷ text)) (cc) here
] where
  bar_first : (text : List ℕ) → 0 < length text → begins is_term_byte text ≡ false → text ≡ 124 ∷ drop 1 text
  bar_first [] some ended = absurd (omega arith)
  bar_first (x ∷ following) some ended = elim (cases_Bool (x == 124)) [
    | inl bar ↦ let same = eqb-true x 124 bar in cc
    | inr other ↦ let never : true ≡ false = rw other at ended in absurd cc
  ]

symbol_at-stands : (text : List ℕ) (lexeme : Lexeme) → symbol_at text ≡ Some lexeme → StandsIn text lexeme
symbol_at-stands text lexeme found =
    let made = symbol_at-found text lexeme found in
    let here : StandsIn text (symbol made.bytes made.kind) =
    record { rest = made.rest; is = made.is; stands = (made.known, made.longest) } in
    subst (StandsIn text) made.same here

-- if `lexeme_at` returns `lexeme` for `text`, then `text` begins with `lexeme`, and with no longer lexeme
pub lexeme_at-stands : (text : List ℕ) (lexeme : Lexeme) → lexeme_at text ≡ Some lexeme → StandsIn text lexeme
lexeme_at-stands [] lexeme found = absurd cc
lexeme_at-stands (first ∷ following) lexeme found = elim (cases_Bool (is_ascii_digit first)) [
  | inl digit ↦
      let here : lexeme_by first following ≡ digits_at (first ∷ following) = rw digit refl in
      digits_at-stands (first ∷ following) lexeme (sym here ∙ found)
  | inr no_digit ↦ elim (cases_Bool (is_ascii_alphabetic first)) [
    | inl letter ↦
        let some : 0 < length (take_while is_ascii_alphabetic (first ∷ following)) = one_letter letter in
        let here : lexeme_by first following ≡ word_at (first ∷ following) = rw (no_digit, letter) refl in
        word_at-stands (first ∷ following) lexeme some (sym here ∙ found)
    | inr no_letter ↦ elim (cases_Bool (first == 35)) [
      | inl hash ↦
          let same : 35 ≡ first = sym (eqb-true first 35 hash) in
          subst (λ (first : ℕ). StandsIn (first ∷ following) lexeme) same
          (number_at-stands following lexeme (rw (no_digit, no_letter, hash) at found))
      | inr no_hash ↦ elim (cases_Bool (first == 124)) [
        | inl bar ↦
            let same : 124 ≡ first = sym (eqb-true first 124 bar) in
            subst (λ (first : ℕ). StandsIn (first ∷ following) lexeme) same
            (term_at-stands following lexeme (rw (no_digit, no_letter, no_hash, bar) at found))
        | inr no_bar ↦ elim (cases_Bool (first == 47)) [
          | inl slash ↦
              let here : lexeme_by first following ≡ comment_at (first ∷ following) =
              rw (no_digit, no_letter, no_hash, no_bar, slash) refl in
              comment_at-stands (first ∷ following) lexeme (sym here ∙ found)
          | inr no_slash ↦ elim (cases_Bool (is_space first)) [
            | inl blank ↦
                let same : Some (space first) ≡ Some lexeme =
                rw (no_digit, no_letter, no_hash, no_bar, no_slash, blank) at found in
                let here : StandsIn (first ∷ following) (space first) =
                record { rest = following; is = refl; stands = blank } in
                subst (StandsIn (first ∷ following)) (cc) here
            | inr no_space ↦
                let here : lexeme_by first following ≡ symbol_at (first ∷ following) =
                rw (no_digit, no_letter, no_hash, no_bar, no_slash, no_space) refl in
                symbol_at-stands (first ∷ following) lexeme (sym here ∙ found)
          ]
        ]
      ]
    ]
  ]
] where
  one_letter : is_ascii_alphabetic first ≡ true → 0 < length (take_while is_ascii_alphabetic (first ∷ following))
  one_letter letter =
      let one : 1 + prefix_len is_ascii_alphabetic following ≡ suc (prefix_len is_ascii_alphabetic following) =
      omega arith in
      rw (letter, one) (omega arith)
