use Rattle.std.proofs.Common.{ℕ, List, ◌≡◌, ◌<◌, ◌∙◌, All, true, sym, ap, subst}
use Rattle.number_lists.specs.Members.{has}
use Rattle.number_lists.specs.Rising.{IsRisingBelow}
use Rattle.number_lists.proofs.WhereLemmas.{has-numbers_where, numbers_where-all}
use Rattle.number_lists.proofs.RisingLemmas.{range_rising, all_below}
use Rattle.candidates.specs.declared.candidates.Candidates.{Candidates}
use Rattle.candidates.specs.Within.{AreBelow, may_be}
use Rattle.pair_sets.proofs.by_rows.numbers_asked.Goals as goal

-- if all are candidates, the numbers listed are below `bound`
pub returns-in_ok-numbers-in-All-clause-within : goal.returns-in_ok-numbers-in-All-clause-within
returns-in_ok-numbers-in-All-clause-within g c =
    subst (All (λ number. number < c.args.bound)) (sym c.in_ok-numbers-in-All.ensures)
    (all_below c.args.bound _ (range_rising c.args.bound))

-- if all are candidates, each number below `bound` is listed
pub returns-in_ok-numbers-in-All-clause-asked : goal.returns-in_ok-numbers-in-All-clause-asked
returns-in_ok-numbers-in-All-clause-asked g c = λ number within.
    ap (λ (numbers : List ℕ). has numbers number) (c.in_ok-numbers-in-All.ensures
    ∙ sym (numbers_where-all c.args.bound))
    ∙ has-numbers_where c.args.bound (λ n. true) number within
    ∙ ap (λ (candidates : Candidates _). may_be g.S.ConceptSet.items_of candidates number) (sym c.in-All.is)

-- the items of the set of candidates are below `bound`
pub returns-in_ok-numbers-in-Within-clause-within : goal.returns-in_ok-numbers-in-Within-clause-within
returns-in_ok-numbers-in-Within-clause-within g c =
    let set = c.in-Within.set.now in
    let same : g.S.ConceptSet.bound_of set ≡ c.args.bound =
    subst (λ (candidates : Candidates _). AreBelow g.S.ConceptSet.bound_of c.args.bound candidates) c.in-Within.is
    c.requires in
    subst (All (λ number. number < c.args.bound)) (sym c.in_ok-numbers-in-Within.ensures.items)
    (subst (λ (bound : ℕ). All (λ number. number < bound) (g.S.ConceptSet.items_of set)) same
    (all_below (g.S.ConceptSet.bound_of set) (g.S.ConceptSet.items_of set) (g.met.S.ConceptSet.rising set)))

-- if all are candidates, the numbers listed rise
pub returns-in_ok-numbers-in-All-clause-rising : goal.returns-in_ok-numbers-in-All-clause-rising
returns-in_ok-numbers-in-All-clause-rising g c =
    subst (IsRisingBelow c.args.bound) (sym c.in_ok-numbers-in-All.ensures) (range_rising c.args.bound)

-- the items of the set of candidates rise
pub returns-in_ok-numbers-in-Within-clause-rising : goal.returns-in_ok-numbers-in-Within-clause-rising
returns-in_ok-numbers-in-Within-clause-rising g c =
    let set = c.in-Within.set.now in
    let same : g.S.ConceptSet.bound_of set ≡ c.args.bound =
    subst (λ (candidates : Candidates _). AreBelow g.S.ConceptSet.bound_of c.args.bound candidates) c.in-Within.is
    c.requires in
    subst (IsRisingBelow c.args.bound) (sym c.in_ok-numbers-in-Within.ensures.items)
    (subst (λ (bound : ℕ). IsRisingBelow bound (g.S.ConceptSet.items_of set)) same (g.met.S.ConceptSet.rising set))
