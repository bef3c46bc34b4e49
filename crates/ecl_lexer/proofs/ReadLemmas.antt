-- The lexeme that `reading` returns, and the reasons why it returns none.
use Rattle.std.proofs.Common.{ℕ, ◌≡◌, ◌+◌, ◌<◌, ◌++◌, ◌∙◌, List, [], ◌∷◌, length, take, drop, Option, None, Some, inl}
use Rattle.std.proofs.Common.{inr, refl, sym, ap, subst, arith}
use Rattle.std.specs.Prelude.{Ok, Err}
use Rattle.std.proofs.lemmas.Bool.{cases_Bool}
use Rattle.std.proofs.lemmas.Option.{none-some}
use Rattle.std.proofs.lemmas.List.{append_assoc, length-append, drop_at, take_at}
use Rattle.ecl_lexer.specs.declared.fault.Feature.{Feature}
use Rattle.ecl_lexer.specs.declared.fault.QueryFault.{QueryFault}
use Rattle.ecl_lexer.specs.declared.fault.QueryFault.TheVariants.{Limit}
use Rattle.ecl_lexer.specs.Lexemes.{Lexeme, space, comment, symbol, word, digits, number, term, Sign, unsigned, plus}
use Rattle.ecl_lexer.specs.Lexemes.{minus, sign_text, fraction_text, lexeme_text, bytes_of, Stands}
use Rattle.ecl_lexer.specs.Refusals.{Cause, form, nothing, limit, IsRead, Refuses, fault_at, is_within_limit}
use Rattle.ecl_lexer.specs.Refusals.{unsupported}
use Rattle.ecl_lexer.specs.Reading.{found, lexeme_at, reading, supported, within_limit}
use Rattle.ecl_lexer.proofs.FoundLemmas.{lexeme_at-stands}
use Rattle.ecl_lexer.proofs.SymbolLemmas.{symbol_some}
use Rattle.ecl_lexer.proofs.StandsLemmas.{lexeme_at-read}

-- the text of a lexeme and a rest

sign_text-append : (sign : Sign) (a b : List ℕ) → sign_text sign (a ++ b) ≡ sign_text sign a ++ b
sign_text-append unsigned a b = refl
sign_text-append plus a b = refl
sign_text-append minus a b = refl

fraction_text-append : (fraction a b : List ℕ) → fraction_text fraction (a ++ b) ≡ fraction_text fraction a ++ b
fraction_text-append [] a b = refl
fraction_text-append (digit ∷ more) a b = ap (λ (text : List ℕ). 46 ∷ digit ∷ text) (sym (append_assoc more a b))

lexeme_text-append : (lexeme : Lexeme) (a b : List ℕ) → lexeme_text lexeme (a ++ b) ≡ lexeme_text lexeme a ++ b
lexeme_text-append (space byte) a b = refl
lexeme_text-append (comment inside) a b =
    ap (λ (text : List ℕ). 47 ∷ 42 ∷ text) (sym (append_assoc inside (42 ∷ 47 ∷ a) b))
lexeme_text-append (symbol bytes kind) a b = sym (append_assoc bytes a b)
lexeme_text-append (word letters kind) a b = sym (append_assoc letters a b)
lexeme_text-append (digits run) a b = sym (append_assoc run a b)
lexeme_text-append (number sign whole fraction) a b =
    ap (λ (text : List ℕ). 35 ∷ text) (
    ap (λ (text : List ℕ). sign_text sign (whole ++ text)) (fraction_text-append fraction a b)
    ∙ ap (sign_text sign) (sym (append_assoc whole (fraction_text fraction a) b))
    ∙ sign_text-append sign (whole ++ fraction_text fraction a) b)
lexeme_text-append (term inside) a b = ap (λ (text : List ℕ). 124 ∷ text) (sym (append_assoc inside (124 ∷ a) b))

-- `lexeme_text lexeme rest` is the bytes of `lexeme`, followed by `rest`
pub lexeme_text-bytes : (lexeme : Lexeme) (rest : List ℕ) → lexeme_text lexeme rest ≡ bytes_of lexeme ++ rest
lexeme_text-bytes lexeme rest = lexeme_text-append lexeme [] rest

-- the length of `lexeme_text lexeme rest` is the number of bytes of `lexeme` plus the length of `rest`
pub length-lexeme_text : (lexeme : Lexeme) (rest : List ℕ)
    → length (lexeme_text lexeme rest) ≡ length (bytes_of lexeme) + length rest
length-lexeme_text lexeme rest = ap length (lexeme_text-bytes lexeme rest) ∙ length-append (bytes_of lexeme) rest

-- `lexeme_text lexeme rest` without the bytes of `lexeme` at its front is `rest`
pub drop-lexeme_text : (lexeme : Lexeme) (rest : List ℕ) → drop (length (bytes_of lexeme)) (lexeme_text lexeme rest)
    ≡ rest
drop-lexeme_text lexeme rest = ap (drop (length (bytes_of lexeme))) (lexeme_text-bytes lexeme rest)
    ∙ drop_at (bytes_of lexeme) rest (length (bytes_of lexeme)) refl

-- `lexeme_text lexeme rest` begins with the bytes of `lexeme`
pub take-lexeme_text : (lexeme : Lexeme) (rest : List ℕ) → take (length (bytes_of lexeme)) (lexeme_text lexeme rest)
    ≡ bytes_of lexeme
take-lexeme_text lexeme rest = ap (take (length (bytes_of lexeme))) (lexeme_text-bytes lexeme rest)
    ∙ take_at (bytes_of lexeme) rest (length (bytes_of lexeme)) refl

-- a lexeme that stands before some text has at least one byte
pub some_bytes : (lexeme : Lexeme) (rest : List ℕ) → Stands lexeme rest → 0 < length (bytes_of lexeme)
some_bytes (space byte) rest stands = omega arith
some_bytes (comment inside) rest stands = omega arith
some_bytes (symbol bytes kind) rest stands = symbol_length bytes (symbol_some bytes kind stands.0)
  where
    symbol_length : (bytes : List ℕ) → 0 < length bytes → 0 < length (bytes ++ [])
    symbol_length bytes some = omega (arith, length-append bytes [])
some_bytes (word letters kind) rest stands = omega (arith, stands.0.some, length-append letters [])
some_bytes (digits run) rest stands = omega (arith, stands.0.some, length-append run [])
some_bytes (number sign whole fraction) rest stands = omega arith
some_bytes (term inside) rest stands = omega arith

-- lexemes that are read

-- if the lexer may read `lexeme` before `rest` (`IsRead`), then `reading` returns `lexeme`
pub reading-read : (offset : ℕ) (lexeme : Lexeme) (rest : List ℕ) → IsRead lexeme rest
    → reading offset (lexeme_text lexeme rest) ≡ Ok lexeme
reading-read offset lexeme rest is =
    ap (λ (o : Option Feature). supported offset o (lexeme_at (lexeme_text lexeme rest))) is.supported
    ∙ ap (within_limit offset) (lexeme_at-read lexeme rest is.stands)
    ∙ rw is.within refl

-- the lexer may read `lexeme` at the beginning of `text`
pub record ReadIn (text : List ℕ) (lexeme : Lexeme) : Type 0 where
  -- the text after the lexeme
  pub rest : List ℕ
  -- `text` is the bytes of `lexeme`, followed by `rest`
  pub is : text ≡ lexeme_text lexeme rest
  -- the lexer may read `lexeme` before `rest`
  pub read : IsRead lexeme rest

-- if `reading` returns `lexeme` for `text`, the lexer may read `lexeme` at the beginning of `text`
pub reading-Ok : (offset : ℕ) (text : List ℕ) (lexeme : Lexeme) → reading offset text ≡ Ok lexeme → ReadIn text lexeme
reading-Ok offset text lexeme found = by_form (unsupported text) refl found
  where
    by_lexeme : unsupported text ≡ None → (o : Option Lexeme) → lexeme_at text ≡ o → within_limit offset o ≡ Ok lexeme
        → ReadIn text lexeme
    by_lexeme none None is found = absurd cc
    by_lexeme none (Some other) is found = elim (cases_Bool (is_within_limit other)) [
      | inr many ↦ let bad : Err (Limit offset) ≡ Ok lexeme = rw many at found in absurd cc
      | inl few ↦
          let good : Ok other ≡ Ok lexeme = rw few at found in
          let stands = lexeme_at-stands text other is in
          let here : ReadIn text other = record {
            rest = stands.rest;
            is = stands.is;
            read = record { stands = stands.stands; supported = ap unsupported (sym stands.is) ∙ none; within = few };
          } in
          subst (ReadIn text) (cc) here
    ]

    by_form : (o : Option Feature) → unsupported text ≡ o → supported offset o (lexeme_at text) ≡ Ok lexeme
        → ReadIn text lexeme
    by_form (Some feature) is found = absurd cc
    by_form None is found = by_lexeme is (lexeme_at text) refl found

-- refusals

-- if `text` is refused for `cause`, then `reading` returns the fault of this cause
pub reading-refused : (offset : ℕ) (text : List ℕ) (cause : Cause) → Refuses text cause
    → reading offset text ≡ Err (fault_at offset cause)
reading-refused offset text (form feature) refuses =
    ap (λ (o : Option Feature). supported offset o (lexeme_at text)) refuses
reading-refused offset text nothing refuses =
    ap (λ (o : Option Feature). supported offset o (lexeme_at text)) refuses.1
    ∙ ap (within_limit offset) (none (lexeme_at text) refl)
  where
    none : (o : Option Lexeme) → lexeme_at text ≡ o → lexeme_at text ≡ None
    none None is = is
    none (Some lexeme) is = let stands =
        lexeme_at-stands text lexeme is in absurd (refuses.2 lexeme stands.rest stands.is stands.stands)
reading-refused offset text limit (supports, lexeme, rest, is, stands, many) =
    ap (λ (o : Option Feature). supported offset o (lexeme_at text)) supports
    ∙ ap (λ (text : List ℕ). within_limit offset (lexeme_at text)) is
    ∙ ap (within_limit offset) (lexeme_at-read lexeme rest stands)
    ∙ rw many refl

-- `text` is refused for a cause whose fault at `offset` is `fault`
pub record RefusedFor (offset : ℕ) (text : List ℕ) (fault : QueryFault) : Type 0 where
  -- the cause for which the text is refused
  pub cause : Cause
  -- nothing is read where the text begins, for the cause
  pub refuses : Refuses text cause
  -- `fault` is the fault of the cause at the offset
  pub is : fault ≡ fault_at offset cause

-- if `text` is not empty and `reading` returns `fault`, then `text` is refused for a cause with this fault
pub reading-Err : (offset : ℕ) (text : List ℕ) (fault : QueryFault) → 0 < length text → reading offset text ≡ Err fault
    → RefusedFor offset text fault
reading-Err offset text fault some found = by_form (unsupported text) refl found
  where
    by_lexeme : unsupported text ≡ None → (o : Option Lexeme) → lexeme_at text ≡ o → within_limit offset o ≡ Err fault
        → RefusedFor offset text fault
    by_lexeme none None is found = record {
      cause = nothing;
      refuses = (
        some,
        none,
        λ (lexeme : Lexeme) (rest : List ℕ) (same : text ≡ lexeme_text lexeme rest) (stands : Stands lexeme rest).
            let read : Some lexeme ≡ None = sym (lexeme_at-read lexeme rest stands) ∙ ap lexeme_at (sym same)
            ∙ is in absurd cc,
      );
      is = cc;
    }
    by_lexeme none (Some lexeme) is found = elim (cases_Bool (is_within_limit lexeme)) [
      | inl few ↦ let good : Ok lexeme ≡ Err fault = rw few at found in absurd cc
      | inr many ↦
          let bad : Err (Limit offset) ≡ Err fault = rw many at found in
          let stands = lexeme_at-stands text lexeme is in
          record { cause = limit; refuses = (none, lexeme, stands.rest, stands.is, stands.stands, many); is = cc }
    ]

    by_form : (o : Option Feature) → unsupported text ≡ o → supported offset o (lexeme_at text) ≡ Err fault
        → RefusedFor offset text fault
    by_form (Some feature) is found = record { cause = form feature; refuses = is; is = cc }
    by_form None is found = by_lexeme is (lexeme_at text) refl found

-- a text that is refused for a cause is not empty
pub refused_some : (text : List ℕ) (cause : Cause) → Refuses text cause → 0 < length text
refused_some [] (form feature) refuses = absurd (none-some feature refuses)
refused_some (byte ∷ text) (form feature) _ = omega arith
refused_some text nothing refuses = refuses.0
refused_some text limit (supports, lexeme, rest, is, stands, many) =
    omega (arith, ap length is, length-lexeme_text lexeme rest, some_bytes lexeme rest stands)
