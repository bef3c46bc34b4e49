use Rattle.std.proofs.Common.{ℕ, Bool, ◌<◌, ◌∙◌, arith, length, sym, ap, subst}
use Rattle.std.specs.Prelude.{slice_index}
use Rattle.hierarchy.specs.Hierarchy.{reaches}
use Rattle.number_lists.specs.Rising.{IsRising, numbers_where}
use Rattle.number_lists.specs.KeyedLists.{list_of}
use Rattle.number_lists.proofs.RisingLemmas.{numbers_where-rising, rising_fits}
use Rattle.ancestor_index.specs.HierarchyLists.{Hierarchy}
use Rattle.ancestor_index.proofs.ClosureLemmas.{length-where, list_of-where}
use Rattle.reading.proofs.reader.Reader.is_ancestor.Goals as goal

-- the ancestors of a concept rise, since their list has the numbers below a count that pass a test
pub has_number-requires : goal.has_number-requires
has_number-requires c =
    let release = c.args.self.snapshot.now.release in
    let count = length release.concepts in
    let stands : ℕ → ℕ → Bool = λ concept other.
    reaches release.isa (slice_index release.concepts concept) (slice_index release.concepts other) in
    let below : c.args.concept < count =
    omega (
      arith,
      c.requires,
      ap (λ (hierarchy : Hierarchy). length hierarchy.ancestors) c.args.self.index.hierarchy,
      length-where count stands,
    ) in
    subst IsRising
    (sym (c.ancestors.ensures
    ∙ ap (λ (hierarchy : Hierarchy). list_of hierarchy.ancestors c.args.concept)
    (c.hierarchy.ensures ∙ c.args.self.index.hierarchy)
    ∙ list_of-where count stands c.args.concept below))
    (rising_fits count (numbers_where count (stands c.args.concept))
    (numbers_where-rising count (stands c.args.concept))
    (omega (arith, c.concept_count.ensures.few)))
