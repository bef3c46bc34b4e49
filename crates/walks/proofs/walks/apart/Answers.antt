use Rattle.std.proofs.Common.{ℕ, List, Bool, not, ◌≡◌, ◌<◌, ◌∙◌, sym, ap, subst}
use Rattle.std.specs.Prelude.{All, filter}
use Rattle.std.specs.List.{list_any}
use Rattle.std.proofs.lemmas.Result.{IfOk-weaker}
use Rattle.number_lists.specs.Members.{has}
use Rattle.number_lists.specs.Rising.{IsRisingBelow}
use Rattle.number_lists.proofs.RisingLemmas.{rises_within-filter, all_below}
use Rattle.number_lists.specs.KeyedLists.{list_of}
use Rattle.walks.specs.Families.{lists_of}
use Rattle.walks.proofs.walks.apart.Goals as goal

-- the items of the set are below its bound
pub kept_apart-requires-clause-below : goal.kept_apart-requires-clause-below
kept_apart-requires-clause-below g c =
    subst (λ (items : List ℕ). All (λ item. item < g.S.ConceptSet.bound_of c.args.operand.now) items)
    (sym c.requires.concepts)
    (all_below (g.S.ConceptSet.bound_of c.args.operand.now) (g.S.ConceptSet.items_of c.args.operand.now)
    (g.met.S.ConceptSet.rising c.args.operand.now))

-- the items that are kept apart rise
pub from_items-requires : goal.from_items-requires
from_items-requires g c =
    let test : ℕ → Bool = λ concept. not (list_any (has (g.S.ConceptSet.items_of c.args.operand.now))
    (list_of (lists_of c.args.reader.indexes.now.hierarchy c.args.family) concept)) in
    let kept : c.as_slice.result.now ≡ filter test (g.S.ConceptSet.items_of c.args.operand.now) =
    c.as_slice.ensures.value ∙ c.in_ok-kept.ensures.kept ∙ ap (filter test) c.requires.concepts in
    subst (λ (bound : ℕ). IsRisingBelow bound c.as_slice.result.now) (sym c.bound-2.ensures)
    (subst (λ (items : List ℕ). IsRisingBelow (g.S.ConceptSet.bound_of c.args.operand.now) items) (sym kept)
    (rises_within-filter 0 (g.S.ConceptSet.bound_of c.args.operand.now) test
    (g.S.ConceptSet.items_of c.args.operand.now) (g.met.S.ConceptSet.rising c.args.operand.now)))

-- what is kept of the items are those without an item in their list
pub returns-clause-items : goal.returns-clause-items
returns-clause-items g c =
    let test : ℕ → Bool = λ concept. not (list_any (has (g.S.ConceptSet.items_of c.args.operand.now))
    (list_of (lists_of c.args.reader.indexes.now.hierarchy c.args.family) concept)) in
    IfOk-weaker c.from_items.result _ _
    (λ found same. same ∙ c.as_slice.ensures.value ∙ c.in_ok-kept.ensures.kept ∙ ap (filter test) c.requires.concepts)
    c.from_items.ensures.items
