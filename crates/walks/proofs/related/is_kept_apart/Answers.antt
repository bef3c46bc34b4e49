use Rattle.std.proofs.Common.{◌≡◌, ◌∙◌, ◌&&◌, true, false, not, sym, ap, arith}
use Rattle.std.specs.List.{list_any}
use Rattle.number_lists.specs.KeyedLists.{list_of}
use Rattle.number_lists.specs.Members.{has}
use Rattle.walks.specs.Families.{lists_of}
use Rattle.walks.proofs.JoinedLemmas.{over_length}
use Rattle.walks.proofs.RelatedLemmas.{asked_apart}
use Rattle.walks.proofs.related.is_kept_apart.Goals as goal

-- the concept has a list in the family
pub list-requires : goal.list-requires
list-requires g c = omega (
  arith,
  c.requires.below,
  over_length (g.S.ConceptSet.bound_of c.args.operand.now)
      c.args.reader.indexes.now.hierarchy c.requires.over c.args.family,
)

-- a concept of the set is kept apart exactly if its list has none of the set
pub returns-then-has-clause-related : goal.returns-then-has-clause-related
returns-then-has-clause-related g c =
    let items = g.S.ConceptSet.items_of c.args.operand.now in
    let own : has items c.args.concept ≡ true = sym c.has.ensures ∙ c.if-has.true in
    ap not (c.meets.ensures ∙ ap (list_any (has items)) c.list.ensures.items)
    ∙ sym (λ i. own i && not (list_any (has items)
    (list_of (lists_of c.args.reader.indexes.now.hierarchy c.args.family) c.args.concept)))
    ∙ asked_apart (g.S.ConceptSet.bound_of c.args.operand.now) c.args.reader.indexes.now.hierarchy c.requires.over items
    (g.met.S.ConceptSet.rising c.args.operand.now)
    c.args.family c.args.concept c.requires.below

-- a concept that is not in the set is not kept apart
pub returns-else-has-clause-related : goal.returns-else-has-clause-related
returns-else-has-clause-related g c =
    let items = g.S.ConceptSet.items_of c.args.operand.now in
    let own : has items c.args.concept ≡ false = sym c.has.ensures ∙ c.if-has.false in
    c.if-has.false
    ∙ sym (λ i. own i && not (list_any (has items)
    (list_of (lists_of c.args.reader.indexes.now.hierarchy c.args.family) c.args.concept)))
    ∙ asked_apart (g.S.ConceptSet.bound_of c.args.operand.now) c.args.reader.indexes.now.hierarchy c.requires.over items
    (g.met.S.ConceptSet.rising c.args.operand.now)
    c.args.family c.args.concept c.requires.below
