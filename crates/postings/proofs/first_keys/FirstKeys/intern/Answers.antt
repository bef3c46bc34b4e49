use Rattle.std.proofs.Common.{◌≡◌, ◌++◌, ◌∙◌, ℕ, List, nat_eq, not, sym, ap, arith}
use Rattle.std.specs.List.{list_any, position_or_len}
use Rattle.key_interner.specs.KeyInterner.{keys_after}
use Rattle.postings.proofs.FirstKeyLemmas.{few_had, few_placed, few_same, new_had, new_last, new_placed, others_had}
use Rattle.postings.proofs.FirstKeyLemmas.{others_more}
use Rattle.postings.proofs.FirstKeyLemmas.{others_placed}
use Rattle.held_release.proofs.TypeLemmas.{place_near}
use Rattle.postings.proofs.first_keys.FirstKeys.intern.Goals as goal
use Rattle.postings.proofs.first_keys.FirstKeys.intern.Goals.{After-place_among-place}

-- `place_among` returns the place of the key among the few
placed : (c : After-place_among-place)
    → c.place_among-place.result ≡ position_or_len (nat_eq c.args.key) c.self.inside.few.items
placed c = c.place_among-place.ensures ∙ ap (position_or_len (nat_eq c.args.key)) c.as_slice.ensures.value

-- the place of a key that is among the few is its place among all keys
pub returns-then-place-few-clause-place : goal.returns-then-place-few-clause-place
returns-then-place-few-clause-place c =
    few_placed c.self.inside.few.items c.self.inside.others c.args.key c.place_among-place.result
    (placed (goal.at.returns-then-place-few-clause-place c).After-place_among-place)
    (omega (arith, c.if-place-few.true, c.len-few.ensures))
    ∙ ap (position_or_len (nat_eq c.args.key)) c.self.view_is

-- a key that is among the few is not new
pub returns-then-place-few-clause-new : goal.returns-then-place-few-clause-new
returns-then-place-few-clause-new c =
    ap not (sym (few_had c.self.inside.few.items c.self.inside.others c.args.key c.place_among-place.result
    (placed (goal.at.returns-then-place-few-clause-new c).After-place_among-place)
    (omega (arith, c.if-place-few.true, c.len-few.ensures)))
    ∙ ap (list_any (nat_eq c.args.key)) c.self.view_is)

-- a key that is among the few leaves the keys as they are
pub returns-then-place-few-clause-keys : goal.returns-then-place-few-clause-keys
returns-then-place-few-clause-keys c =
    sym c.self.view_is
    ∙ few_same c.self.inside.few.items c.self.inside.others c.args.key c.place_among-place.result
    (placed (goal.at.returns-then-place-few-clause-keys c).After-place_among-place)
    (omega (arith, c.if-place-few.true, c.len-few.ensures))
    ∙ ap (λ keys. keys_after keys c.args.key) c.self.view_is

-- while there is room, a key that is not among the few gets the place after them
pub returns-then-few-lt-FEW-clause-place : goal.returns-then-few-lt-FEW-clause-place
returns-then-few-lt-FEW-clause-place c =
    omega (
      arith,
      c.len-few.ensures,
      new_placed c.self.inside.few.items c.self.inside.others c.args.key c.place_among-place.result
          (placed (goal.at.returns-then-few-lt-FEW-clause-place c).After-place_among-place)
          (c.self.invariant (omega (arith, c.if-few-lt-FEW.true, c.len-few.ensures)))
          (omega (arith, c.if-place-few.false, c.len-few.ensures)),
      ap (position_or_len (nat_eq c.args.key)) c.self.view_is,
    )

-- while there is room, a key that is not among the few is new
pub returns-then-few-lt-FEW-clause-new : goal.returns-then-few-lt-FEW-clause-new
returns-then-few-lt-FEW-clause-new c =
    ap not (sym (new_had c.self.inside.few.items c.self.inside.others c.args.key c.place_among-place.result
    (placed (goal.at.returns-then-few-lt-FEW-clause-new c).After-place_among-place)
    (c.self.invariant (omega (arith, c.if-few-lt-FEW.true, c.len-few.ensures)))
    (omega (arith, c.if-place-few.false, c.len-few.ensures)))
    ∙ ap (list_any (nat_eq c.args.key)) c.self.view_is)

-- while there is room, a key that is not among the few is put after them
pub returns-then-few-lt-FEW-clause-keys : goal.returns-then-few-lt-FEW-clause-keys
returns-then-few-lt-FEW-clause-keys c =
    ap (λ (few : List ℕ). few ++ c.self.inside.others) c.in_ok-push.ensures.items
    ∙ new_last c.self.inside.few.items c.self.inside.others c.args.key c.place_among-place.result
    (placed (goal.at.returns-then-few-lt-FEW-clause-keys c).After-place_among-place)
    (c.self.invariant (omega (arith, c.if-few-lt-FEW.true, c.len-few.ensures)))
    (omega (arith, c.if-place-few.false, c.len-few.ensures))
    ∙ ap (λ keys. keys_after keys c.args.key) c.self.view_is

-- the number of the few and a place among the others together fit in a `usize`
pub overflow_add-result : goal.overflow_add-result
overflow_add-result c =
    record {
      fits = omega (
        arith,
        c.in_ok-place.ensures.place,
        place_near c.self.inside.others c.args.key,
        c.len.ensures.count,
        c.if-prove.false,
        c.if-few-lt-FEW.false,
      );
    }

-- the place of a key that the others met, counted after the few, is its place among all keys
pub returns-clause-place : goal.returns-clause-place
returns-clause-place c =
    omega (
      arith,
      c.len-few.ensures,
      c.in_ok-place.ensures.place,
      others_placed c.self.inside.few.items c.self.inside.others c.args.key c.place_among-place.result
          (placed (goal.at.returns-clause-place c).After-place_among-place)
          (omega (arith, c.if-place-few.false, c.len-few.ensures)),
      ap (position_or_len (nat_eq c.args.key)) c.self.view_is,
    )

-- a key that is not among the few is new exactly if it is new to the others
pub returns-clause-new : goal.returns-clause-new
returns-clause-new c =
    c.in_ok-place.ensures.new
    ∙ ap not (others_had c.self.inside.few.items c.self.inside.others c.args.key c.place_among-place.result
    (placed (goal.at.returns-clause-new c).After-place_among-place)
    (omega (arith, c.if-place-few.false, c.len-few.ensures))
    ∙ ap (list_any (nat_eq c.args.key)) c.self.view_is)

-- the keys grow by a key that is not among the few exactly if the others grow by it
pub returns-clause-keys : goal.returns-clause-keys
returns-clause-keys c =
    ap (λ (others : List ℕ). c.self.inside.few.items ++ others) c.in_ok-place.ensures.keys
    ∙ others_more c.self.inside.few.items c.self.inside.others c.args.key c.place_among-place.result
    (placed (goal.at.returns-clause-keys c).After-place_among-place)
    (omega (arith, c.if-place-few.false, c.len-few.ensures))
    ∙ ap (λ keys. keys_after keys c.args.key) c.self.view_is
