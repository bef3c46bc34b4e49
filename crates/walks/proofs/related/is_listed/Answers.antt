use Rattle.std.proofs.Common.{◌∙◌, arith}
use Rattle.std.specs.List.{list_any}
use Rattle.number_lists.specs.KeyedLists.{list_of}
use Rattle.number_lists.specs.Members.{has}
use Rattle.walks.specs.Families.{lists_of}
use Rattle.walks.proofs.JoinedLemmas.{over_length}
use Rattle.walks.proofs.RelatedLemmas.{asked_opposite}
use Rattle.walks.proofs.related.is_listed.Goals as goal

-- the concept has a list in the family that leads back
pub list-requires : goal.list-requires
list-requires g c = omega (
  arith,
  c.requires.below,
  over_length (g.S.ConceptSet.bound_of c.args.operand.now)
      c.args.reader.indexes.now.hierarchy c.requires.over c.opposite.result,
)

-- the list that leads back has one of the set exactly if the joined lists of the set have the concept
pub returns-clause-related : goal.returns-clause-related
returns-clause-related g c =
    let items = g.S.ConceptSet.items_of c.args.operand.now in
    c.meets.ensures
    ∙ (λ i. list_any (has items) (c.list.ensures.items i))
    ∙ (λ i. list_any (has items) (list_of (lists_of c.args.reader.indexes.now.hierarchy (c.opposite.ensures i))
    c.args.concept))
    ∙ asked_opposite (g.S.ConceptSet.bound_of c.args.operand.now) c.args.reader.indexes.now.hierarchy c.requires.over
    items
    (g.met.S.ConceptSet.rising c.args.operand.now) c.args.family c.args.concept c.requires.below
