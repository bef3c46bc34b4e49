-- Matching brackets token by token: each bracket that was closed has its entry in `ends`, and for each open bracket
-- the tokens after its closing bracket are known.
use Rattle.std.proofs.Common.{◌≡◌, ◌⊎◌, inl, inr, ◌<◌, ◌+◌, ℕ, zero, suc, Bool, true, false, List, [], ◌∷◌, length}
use Rattle.std.proofs.Common.{drop, refl, ap, sym, ◌∙◌, subst, arith, get_or-set_other, get_or-set_same}
use Rattle.std.specs.Prelude.{◌&&◌, slice_index, slice_set}
use Rattle.std.proofs.lemmas.Bool.{cases_eq, false≢true}
use Rattle.std.proofs.lemmas.List.{length-replicate, length-set}
use Rattle.ecl_lexer.specs.declared.token.TokenKind.TheVariants as token
use Rattle.constraint_tree.specs.Grammar.{Symbol, digits, decimal, mark}
use Rattle.constraint_tree.proofs.LevelLemmas.{kind_of_symbol}
use Rattle.ecl_parser.specs.declared.brackets.OpenBracket.{OpenBracket}
use Rattle.ecl_parser.specs.declared.tokens.Mark.{Mark}
use Rattle.ecl_parser.specs.declared.tokens.Mark.TheVariants as marks
use Rattle.ecl_parser.specs.inside.Brackets.{AreEnds, Matching, agree, bracket_opened, closed_by, nothing_matched}
use Rattle.ecl_parser.specs.inside.Brackets.{token_matched}
use Rattle.ecl_parser.specs.inside.Reading.{after_close, stands}
use Rattle.ecl_parser.proofs.BracketLemmas.{all_matched}

-- if a token of the kind `wanted` stands at the index `place`, then `place` is below the number of tokens
pub stands_within : (wanted : Mark) (tokens : List Symbol) (place : ℕ) → stands wanted (drop place tokens) ≡ true
    → place < length tokens
stands_within wanted [] zero is = absurd (false≢true is)
stands_within wanted [] (suc place) is = absurd (false≢true is)
stands_within wanted (symbol ∷ tokens) zero is = omega arith
stands_within wanted (symbol ∷ tokens) (suc place) is = let within = stands_within wanted tokens place is in omega arith

-- the tokens after a token are the tokens from the next place on
next_ahead : (tokens : List Symbol) (at : ℕ) (symbol : Symbol) (rest : List Symbol) → drop at tokens ≡ symbol ∷ rest
    → drop (at + 1) tokens ≡ rest
next_ahead [] zero symbol rest is = absurd (cc)
next_ahead [] (suc at) symbol rest is = absurd (cc)
next_ahead (first ∷ tokens) zero symbol rest is =
    let one : zero + 1 ≡ suc zero = omega arith in
    let same : tokens ≡ rest = (cc) in
    ap (λ (n : ℕ). drop n (first ∷ tokens)) one ∙ same
next_ahead (first ∷ tokens) (suc at) symbol rest is =
    let next : suc at + 1 ≡ suc (at + 1) = omega arith in
    ap (λ (n : ℕ). drop n (first ∷ tokens)) next ∙ next_ahead tokens at symbol rest is

-- if the tokens end before `at`, every place lies before `at`
none_ahead : (tokens : List Symbol) (at : ℕ) → drop at tokens ≡ [] → (place : ℕ) → place < length tokens → place < at
none_ahead [] at is place within = absurd (omega arith)
none_ahead (first ∷ tokens) zero is place within = absurd (cc)
none_ahead (first ∷ tokens) (suc at) is zero within = omega arith
none_ahead (first ∷ tokens) (suc at) is (suc place) within =
    let before = none_ahead tokens at is place (omega arith) in omega arith

-- a place at which a token stands is a place of the tokens
within_ahead : (tokens : List Symbol) (at : ℕ) (symbol : Symbol) (rest : List Symbol)
    → drop at tokens ≡ symbol ∷ rest → at < length tokens
within_ahead [] zero symbol rest is = absurd (cc)
within_ahead [] (suc at) symbol rest is = absurd (cc)
within_ahead (first ∷ tokens) zero symbol rest is = omega arith
within_ahead (first ∷ tokens) (suc at) symbol rest is =
    let within = within_ahead tokens at symbol rest is in omega arith

-- the level of a text after `further` more round brackets have opened
abbrev more : ℕ → ℕ → ℕ
more zero level = level
more (suc further) level = more further (suc level)

-- a level raised by one is one more after `further` more round brackets
more-suc : (further level : ℕ) → more further (suc level) ≡ suc (more further level)
more-suc zero level = refl
more-suc (suc further) level = more-suc further (suc level)

-- the level outside a bracket: one more for a round bracket, the same for a brace
abbrev level_outside : Bool → ℕ → ℕ
level_outside true level = suc level
level_outside false level = level

-- the tokens after the `)` that closes an outer `(` are equal, whether counted from `before` at level `from` or from
-- `after` at level `to`
abbrev Keeps : List Symbol → ℕ → List Symbol → ℕ → Type 0
Keeps before from after to =
    (further : ℕ) → after_close (more further from) before ≡ after_close (more further to) after

-- `Keeps` holds one bracket further out
keeps_outside : (is_round : Bool) (before : List Symbol) (from : ℕ) (after : List Symbol) (to : ℕ)
    → Keeps before from after to → Keeps before (level_outside is_round from) after (level_outside is_round to)
keeps_outside true before from after to keeps = λ further. keeps (suc further)
keeps_outside false before from after to keeps = keeps

-- an open bracket: whether it is `(`, and if so, the tokens after the bracket that will close it
record IsOpen (tokens ahead : List Symbol) (level : ℕ) (opened : OpenBracket) : Type 0 where
  within : opened.place < length tokens
  kind : stands marks.RoundOpen (drop opened.place tokens) ≡ opened.is_round
  closes : opened.is_round ≡ true → after_close 0 (drop (opened.place + 1) tokens) ≡ after_close level ahead

-- every bracket of a list is open, each outside the one in front of it
abbrev AreOpen : List Symbol → List Symbol → ℕ → List OpenBracket → Type 0
AreOpen tokens ahead level [] = Unit {0}
AreOpen tokens ahead level (opened ∷ outer) =
    IsOpen tokens ahead level opened × AreOpen tokens ahead (level_outside opened.is_round level) outer

-- open brackets stay open from `before` to `after`, if `Keeps` holds for the two
are_open_after : (tokens before : List Symbol) (from : ℕ) (after : List Symbol) (to : ℕ) (list : List OpenBracket)
    → Keeps before from after to
    → AreOpen tokens before from list → AreOpen tokens after to list
are_open_after tokens before from after to [] keeps are = tt
are_open_after tokens before from after to (opened ∷ outer) keeps (here, others) = (
  record { within = here.within; kind = here.kind; closes = λ round. here.closes round ∙ keeps 0 },
  are_open_after tokens before (level_outside opened.is_round from) after (level_outside opened.is_round to) outer
      (keeps_outside opened.is_round before from after to keeps) others,
)

-- both sides of a true conjunction are true
both_true : (one other : Bool) → (one && other) ≡ true → (one ≡ true) × (other ≡ true)
both_true true other is = (refl, is)
both_true false other is = absurd (false≢true is)

-- two brackets that agree are of one kind
agree_same : (one other : Bool) → agree one other ≡ true → one ≡ other
agree_same true true is = refl
agree_same false false is = refl
agree_same true false is = absurd (false≢true is)
agree_same false true is = absurd (false≢true is)

-- a place is the place of one of the open brackets
abbrev IsAmong : ℕ → List OpenBracket → Type 0
IsAmong place [] = ⊥
IsAmong place (opened ∷ outer) = (opened.place ≡ place) ⊎ IsAmong place outer

-- a `(` stands at the place
abbrev IsRound : List Symbol → ℕ → Type 0
IsRound tokens place = stands marks.RoundOpen (drop place tokens) ≡ true

-- the end of the `(` at the place is the place after the `)` that closes it
abbrev HasEnd : List Symbol → List ℕ → ℕ → Type 0
HasEnd tokens ends place = drop (slice_index ends place) tokens ≡ after_close 0 (drop (place + 1) tokens)

-- the `(` at the place has its end, if one stands there
abbrev HasEndIfRound : List Symbol → List ℕ → ℕ → Type 0
HasEndIfRound tokens ends place = IsRound tokens place → HasEnd tokens ends place

-- the `(` at the place has its end, or is open
abbrev EndsOrIsOpen : List Symbol → List ℕ → List OpenBracket → ℕ → Type 0
EndsOrIsOpen tokens ends list place = HasEnd tokens ends place ⊎ IsAmong place list

-- with the tokens from `at` on ahead, every `(` before `at` is open or has its end
record AreRight (tokens : List Symbol) (at : ℕ) (ahead : List Symbol) (found : Matching) : Type 0 where
  long : length found.ends ≡ length tokens
  unclosed : AreOpen tokens ahead 0 found.unclosed
  closed : (place : ℕ) → place < at → IsRound tokens place → EndsOrIsOpen tokens found.ends found.unclosed place

-- if the brackets match so far, `AreRight` holds
abbrev AreRightIfMatched : List Symbol → ℕ → List Symbol → Matching → Type 0
AreRightIfMatched tokens at ahead found = found.are_matched ≡ true → AreRight tokens at ahead found

-- one more bracket outside, counted first or last, gives the same level
more-outside : (is_round : Bool) (further : ℕ)
    → more further (level_outside is_round 0) ≡ level_outside is_round (more further 0)
more-outside true further = more-suc further 0
more-outside false further = refl

-- a property of the `(` before `at`, and of the `(` at `at`, holds of the `(` before `at + 1`
before_next : (Is : ℕ → Type 0) (tokens : List Symbol) (at : ℕ)
    → ((place : ℕ) → place < at → IsRound tokens place → Is place) → (IsRound tokens at → Is at)
    → (place : ℕ) → place < at + 1 → IsRound tokens place → Is place
before_next Is tokens at before here place within round = elim (cases_eq place at) [
  | inl same ↦
      let P : ℕ → Type 0 = λ n. IsRound tokens n → Is n in
      subst P (sym same) here round
  | inr apart ↦ before place (omega arith) round
]

-- One token and the tokens after it.
module _ (tokens : List Symbol) (at : ℕ) (symbol : Symbol) (rest : List Symbol)
    (ahead : drop at tokens ≡ symbol ∷ rest) where
  -- a token that is no `(` makes no `(` at its place
  no_round_here : stands marks.RoundOpen (symbol ∷ rest) ≡ false → IsRound tokens at → ⊥
  no_round_here none round = false≢true (sym none ∙ ap (stands marks.RoundOpen) (sym ahead) ∙ round)

  -- a token that is no bracket keeps `AreRight`
  right_after_other : (found : Matching) → stands marks.RoundOpen (symbol ∷ rest) ≡ false
      → ((level : ℕ) → after_close level (symbol ∷ rest) ≡ after_close level rest)
      → AreRight tokens at (symbol ∷ rest) found → AreRight tokens (at + 1) rest found
  right_after_other found none flat right = record {
    long = right.long;
    unclosed = are_open_after tokens (symbol ∷ rest) 0 rest 0 found.unclosed (λ further. flat (more further 0))
        right.unclosed;
    closed = before_next (EndsOrIsOpen tokens found.ends found.unclosed) tokens at right.closed
        (λ round. absurd (no_round_here none round));
  }

  -- a token that opens a bracket keeps `AreRight`
  right_after_opening : (found : Matching) (is_round : Bool) → stands marks.RoundOpen (symbol ∷ rest) ≡ is_round
      → ((level : ℕ) → after_close level (symbol ∷ rest) ≡ after_close (level_outside is_round level) rest)
      → AreRight tokens at (symbol ∷ rest) found → AreRight tokens (at + 1) rest (bracket_opened at is_round found)
  right_after_opening found is_round kind opens right =
      let opened : OpenBracket = record { place = at; is_round = is_round } in record {
        long = right.long;
        unclosed = (
          record {
            within = within_ahead tokens at symbol rest ahead;
            kind = ap (stands marks.RoundOpen) ahead ∙ kind;
            closes = λ round. ap (after_close 0) (next_ahead tokens at symbol rest ahead);
          },
          are_open_after tokens (symbol ∷ rest) 0 rest (level_outside is_round 0) found.unclosed
              (λ further. opens (more further 0)
              ∙ ap (λ (level : ℕ). after_close level rest) (sym (more-outside is_round further)))
              right.unclosed,
        );
        closed = before_next (EndsOrIsOpen tokens found.ends (opened ∷ found.unclosed)) tokens at
            (λ place within round. elim (right.closed place within round) [
              | inl ended ↦ inl ended
              | inr among ↦ inr (inr among)
            ])
            (λ round. inr (inl refl));
      }

  -- The token closes the bracket `opened`, which gets its end.
  module _ (ends : List ℕ) (opened : OpenBracket) where
    -- the ends with the end of the bracket that is closed
    abbrev with_end : List ℕ
    with_end = slice_set ends opened.place (at + 1)

    -- the closed bracket has its end
    end_here : length ends ≡ length tokens → IsOpen tokens (symbol ∷ rest) 0 opened
        → (opened.is_round ≡ true → after_close 0 (symbol ∷ rest) ≡ rest)
        → HasEndIfRound tokens with_end opened.place
    end_here long is_open closes = λ round.
        let is_round = sym is_open.kind ∙ round in
        let within : opened.place < length ends = omega (arith, is_open.within) in
        ap (λ (n : ℕ). drop n tokens) (get_or-set_same ends opened.place (at + 1) 0 within)
        ∙ next_ahead tokens at symbol rest ahead ∙ sym (closes is_round) ∙ sym (is_open.closes is_round)

    -- other brackets keep their ends
    end_besides : (place : ℕ) → (place ≡ opened.place → ⊥) → HasEnd tokens ends place → HasEnd tokens with_end place
    end_besides place apart ended =
        ap (λ (n : ℕ). drop n tokens) (get_or-set_other ends opened.place place (at + 1) 0 apart) ∙ ended

    -- each `(` is open or has its end after a bracket was closed
    ends_after : (outer : List OpenBracket) → HasEndIfRound tokens with_end opened.place → (place : ℕ)
        → IsRound tokens place → EndsOrIsOpen tokens ends (opened ∷ outer) place
        → EndsOrIsOpen tokens with_end outer place
    ends_after outer here place round (inl ended) = elim (cases_eq place opened.place) [
      | inl same ↦
          let P : ℕ → Type 0 = HasEndIfRound tokens with_end in
          inl (subst P (sym same) here round)
      | inr apart ↦ inl (end_besides place apart ended)
    ]
    ends_after outer here place round (inr (inl same)) =
        let P : ℕ → Type 0 = HasEndIfRound tokens with_end in
        inl (subst P same here round)
    ends_after outer here place round (inr (inr among)) = inr among

  -- The token closes a bracket of its kind, whatever is open there.
  module _ (is_round : Bool) (none : stands marks.RoundOpen (symbol ∷ rest) ≡ false)
      (closes : (level : ℕ) → after_close (level_outside is_round level) (symbol ∷ rest) ≡ after_close level rest)
      (here : is_round ≡ true → after_close 0 (symbol ∷ rest) ≡ rest) where
    -- a token that closes a bracket of its kind keeps `AreRight`
    right_after_closing : (found : Matching) → AreRight tokens at (symbol ∷ rest) found → (opened : OpenBracket)
        → (outer : List OpenBracket) → found.unclosed ≡ opened ∷ outer → opened.is_round ≡ is_round → (matched : Bool)
        → AreRight tokens (at + 1) rest
        (record { unclosed = outer; ends = with_end found.ends opened; are_matched = matched })
    right_after_closing found right opened outer is kind matched =
        let P : List OpenBracket → Type 0 = AreOpen tokens (symbol ∷ rest) 0 in
        let are : AreOpen tokens (symbol ∷ rest) 0 (opened ∷ outer) = subst P is right.unclosed in
        let Outside : Bool → Type 0 = λ round. AreOpen tokens (symbol ∷ rest) (level_outside round 0) outer in
        let at_end = end_here found.ends opened right.long are.0 (λ round. here (sym kind ∙ round)) in record {
          long = length-set found.ends opened.place (at + 1) ∙ right.long;
          unclosed = are_open_after tokens (symbol ∷ rest) (level_outside is_round 0) rest 0 outer
              (λ further. ap (λ (level : ℕ). after_close level (symbol ∷ rest)) (more-outside is_round further)
              ∙ closes (more further 0))
              (subst Outside kind are.1);
          closed = before_next (EndsOrIsOpen tokens (with_end found.ends opened) outer) tokens at
              (λ place within round.
              let Q : List OpenBracket → Type 0 = λ list. EndsOrIsOpen tokens found.ends list place in
              ends_after found.ends opened outer at_end place round (subst Q is (right.closed place within round)))
              (λ round. absurd (no_round_here none round));
        }

    -- a closing token keeps `AreRight`, as long as the brackets match
    right_after_close : (found : Matching) → AreRightIfMatched tokens at (symbol ∷ rest) found
        → (list : List OpenBracket) → found.unclosed ≡ list
        → AreRightIfMatched tokens (at + 1) rest (closed_by list at is_round found)
    right_after_close found right [] is = λ matched. absurd (false≢true matched)
    right_after_close found right (opened ∷ outer) is = λ matched.
        let parts = both_true (agree opened.is_round is_round) found.are_matched matched in
        right_after_closing found (right parts.1) opened outer is (agree_same opened.is_round is_round parts.0)
        (agree opened.is_round is_round && found.are_matched)

-- every token keeps `AreRight`, as long as the brackets match
right_after : (tokens : List Symbol) (at : ℕ) (symbol : Symbol) (rest : List Symbol) (found : Matching)
    → drop at tokens ≡ symbol ∷ rest → AreRightIfMatched tokens at (symbol ∷ rest) found
    → AreRightIfMatched tokens (at + 1) rest (token_matched at (kind_of_symbol symbol) found)
right_after tokens at (digits run) rest found ahead right =
    λ matched. right_after_other tokens at (digits run) rest ahead found refl (λ level. refl) (right matched)
right_after tokens at (decimal text) rest found ahead right =
    λ matched. right_after_other tokens at (decimal text) rest ahead found refl (λ level. refl) (right matched)
right_after tokens at (mark token.RoundOpen) rest found ahead right = λ matched.
    right_after_opening tokens at (mark token.RoundOpen) rest ahead found true refl (λ level. refl) (right matched)
right_after tokens at (mark token.BraceOpen) rest found ahead right = λ matched.
    right_after_opening tokens at (mark token.BraceOpen) rest ahead found false refl (λ level. refl) (right matched)
right_after tokens at (mark token.RoundClose) rest found ahead right =
    right_after_close tokens at (mark token.RoundClose) rest ahead true refl (λ level. refl) (λ round. refl)
    found right found.unclosed refl
right_after tokens at (mark token.BraceClose) rest found ahead right =
    right_after_close tokens at (mark token.BraceClose) rest ahead false refl (λ level. refl)
    (λ round. absurd (false≢true round)) found right found.unclosed refl
right_after tokens at (mark other) rest found ahead right =
    λ matched. right_after_other tokens at (mark other) rest ahead found refl (λ level. refl) (right matched)

-- the tokens from a place on keep `AreRight`, as long as the brackets match
right_at_end : (tokens : List Symbol) (at : ℕ) (ahead : List Symbol) (found : Matching) → drop at tokens ≡ ahead
    → AreRightIfMatched tokens at ahead found
    → AreRightIfMatched tokens (length tokens) [] (all_matched at ahead found)
right_at_end tokens at [] found is right = λ matched.
    let known = right matched in
    record {
      long = known.long;
      unclosed = known.unclosed;
      closed = λ place within round. known.closed place (none_ahead tokens at is place within) round;
    }
right_at_end tokens at (symbol ∷ rest) found is right =
    right_at_end tokens (at + 1) rest (token_matched at (kind_of_symbol symbol) found)
    (next_ahead tokens at symbol rest is) (right_after tokens at symbol rest found is right)

-- if after all tokens each closing bracket has closed one of its kind and no bracket is open, then `ends` has for
-- each `(` the index after the `)` that closes it
pub ends_found : (tokens : List Symbol) (found : Matching)
    → found ≡ all_matched 0 tokens (nothing_matched (length tokens))
    → found.are_matched ≡ true → found.unclosed ≡ [] → AreEnds tokens found.ends
ends_found tokens found is matched none =
    let start : AreRightIfMatched tokens 0 tokens (nothing_matched (length tokens)) = λ same. record {
      long = length-replicate (length tokens) 0;
      unclosed = tt;
      closed = λ place within round. absurd (omega arith);
    } in
    let P : Matching → Type 0 = AreRightIfMatched tokens (length tokens) [] in
    let right : AreRight tokens (length tokens) [] found =
    subst P (sym is) (right_at_end tokens 0 tokens (nothing_matched (length tokens)) refl start) matched in
    record {
      long = right.long;
      closes = λ place round.
          let Q : List OpenBracket → Type 0 = λ list. EndsOrIsOpen tokens found.ends list place in
          elim (subst Q none (right.closed place (stands_within marks.RoundOpen tokens place round) round)) [
            | inl ended ↦ ended
            | inr among ↦ absurd among
          ];
    }
