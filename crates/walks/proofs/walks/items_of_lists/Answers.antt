use Rattle.std.proofs.Common.{◌<◌, length, get_or, arith}
use Rattle.std.proofs.lemmas.List.Sums.{sum_by_more_le}
use Rattle.number_lists.specs.KeyedLists.{list_of}
use Rattle.walks.specs.Families.{lists_of}
use Rattle.walks.proofs.JoinedLemmas.{over_length}
use Rattle.walks.proofs.walks.items_of_lists.Goals as goal

-- the concept at hand has a list in the family
pub length-requires : goal.length-requires
length-requires c =
    let below : get_or c.args.concepts.now c.loop-concept.concept-index 0 < c.args.count =
    c.requires.below c.loop-concept.concept-index 0 c.loop-concept-test.true in
    omega (arith, below, over_length c.args.count c.args.reader.indexes.now.hierarchy c.requires.over c.args.family)

-- the lists of the first k + 1 concepts have no more items than the lists of all
pub returns-then-items-most-clause-few : goal.returns-then-items-most-clause-few
returns-then-items-most-clause-few c =
    let lists = lists_of c.args.reader.indexes.now.hierarchy c.args.family in
    omega (
      arith,
      c.loop-concept.invariant,
      c.saturating_add-items.ensures,
      c.length.ensures,
      sum_by_more_le (λ concept. length (list_of lists concept)) c.args.concepts.now c.loop-concept.concept-index 0
          c.loop-concept-test.true,
    )
