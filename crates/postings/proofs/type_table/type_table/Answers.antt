use Rattle.std.proofs.Common.{ℕ, ◌≡◌, ◌<◌, ◌++◌, ◌∷◌, [], ◌∙◌, List, All, cond, false, get_or, length, nat_eq, take, arith}
use Rattle.std.proofs.Common.{ap, sym, length-take}
use Rattle.std.specs.List.{IsDistinct, list_any}
use Rattle.std.proofs.lemmas.Cmp.{nat_eq_equiv}
use Rattle.std.proofs.lemmas.List.{get_or-take, get_or_default, take_all, take_more}
use Rattle.std.proofs.lemmas.List.Folds.{list_any_none}
use Rattle.std.proofs.lemmas.Map.Keys.{apart_from_distinct}
use Rattle.key_interner.specs.KeyInterner.{keys_after}
use Rattle.postings.proofs.type_table.type_table.Goals as goal

-- in a list without repeats, the item at place `n` is none of those before
new_item : (ids : List ℕ) (n : ℕ) → IsDistinct nat_eq ids → n < length ids
    → list_any (nat_eq (get_or ids n 0)) (take n ids) ≡ false
new_item ids n once within = list_any_none (nat_eq (get_or ids n 0)) (take n ids) earlier
  where
    earlier : All (λ other. nat_eq (get_or ids n 0) other ≡ false) (take n ids)
    earlier k d below =
        let before : k < n = omega (arith, below, length-take n ids) in
        ap (nat_eq (get_or ids n 0)) (get_or-take n ids k d before ∙ get_or_default ids k d 0 (omega arith))
        ∙ nat_eq_equiv.symm (get_or ids n 0) (get_or ids k 0)
        ∙ apart_from_distinct nat_eq ids k n 0 once before within

-- one type more is new, and has the next place
pub loop-id-preserved : goal.loop-id-preserved
loop-id-preserved c =
    let ids = c.args.ids.now in
    let n = c.loop-id.id-index in
    let id = get_or ids n 0 in
    let named : c.number.result ≡ id =
    c.number.ensures.number ∙ c.id-item.is ∙ get_or_default ids n c.id-item.result 0 c.loop-id-test.true in
    c.in_ok-intern.ensures.keys
    ∙ (λ i. keys_after (c.loop-id.invariant i) (named i))
    ∙ (λ i. cond (new_item ids n c.requires.once c.loop-id-test.true i) (take n ids) (take n ids ++ id ∷ []))
    ∙ sym (take_more ids n 0 c.loop-id-test.true)

-- after the last type all are there
pub returns-clause-numbers : goal.returns-clause-numbers
returns-clause-numbers c =
    c.loop-id.invariant ∙ take_all c.loop-id.id-index c.args.ids.now c.loop-id-test.false
