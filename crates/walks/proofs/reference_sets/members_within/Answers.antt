use Rattle.std.proofs.Common.{ℕ, List, ◌<◌, ◌∙◌, length, sym, ap, subst}
use Rattle.std.specs.Prelude.{All}
use Rattle.walks.proofs.reference_sets.members_within.Goals as goal

-- the reference sets that are counted are numbers of concepts
pub component_count-components-requires : goal.component_count-components-requires
component_count-components-requires g c =
    subst (All (λ refset. refset < length c.args.reader.indexes.now.concepts)) (sym c.as_slice-refsets.ensures.value)
    (subst (λ (ids : List ℕ). All (λ refset. refset < length ids) c.in_ok-numbers.numbers.items)
    (sym c.args.reader.index.concepts) c.in_ok-numbers.ensures.refsets.below)

-- the reference sets in which candidates are looked up are numbers of concepts
pub members_among-requires-clause-below : goal.members_among-requires-clause-below
members_among-requires-clause-below g c =
    subst (All (λ refset. refset < length c.args.reader.indexes.now.concepts)) (sym c.as_slice-refsets.ensures.value)
    (subst (λ (ids : List ℕ). All (λ refset. refset < length ids) c.in_ok-numbers.numbers.items)
    (sym c.args.reader.index.concepts) c.in_ok-numbers.ensures.refsets.below)

-- the reference sets whose components are copied are numbers of concepts
pub members-requires : goal.members-requires
members-requires g c = record {
  below =
      subst (All (λ refset. refset < length c.args.reader.indexes.now.concepts)) (sym c.as_slice-refsets.ensures.value)
      (subst (λ (ids : List ℕ). All (λ refset. refset < length ids) c.in_ok-numbers.numbers.items)
      (sym c.args.reader.index.concepts) c.in_ok-numbers.ensures.refsets.below);
}
