-- The lists of the components of reference sets.
use Rattle.std.proofs.Common.{ℕ, ◌<◌, length, get_or, sym, subst}
use Rattle.std.specs.Prelude.{◌^◌}
use Rattle.release_model.specs.Release.{Release}
use Rattle.number_lists.specs.KeyedLists.{list_of}
use Rattle.number_lists.specs.Rising.{IsRising, IsRisingBelow}
use Rattle.number_lists.proofs.RisingLemmas.{numbers_where-rising, rising_fits}
use Rattle.ancestor_index.specs.HierarchyLists.{is_child}
use Rattle.ancestor_index.proofs.ClosureLemmas.{list_of-where}
use Rattle.postings.specs.Indexed.{members_of}

-- if there are fewer concepts than 2^32, the list of components of each reference set rises
pub members_rise : (release : Release) (refset : ℕ) → refset < length release.concepts
    → length release.concepts < 2 ^ 32
    → IsRising (list_of (members_of release) refset)
members_rise release refset below small =
    let count = length release.concepts in
    let is_member : ℕ → ℕ → _ =
    λ set component. is_child release.members (get_or release.concepts set 0) (get_or release.concepts component 0) in
    rising_fits count (list_of (members_of release) refset)
    (subst (IsRisingBelow count) (sym (list_of-where count is_member refset below))
    (numbers_where-rising count (is_member refset)))
    small
