-- The contents of the lists of a hierarchy, by the is-a rows of the release: chains of rows, and
-- single rows.
use Rattle.std.specs.Prelude.{ℕ, ◌↔◌, ◌<◌, All, Contains, length, slice_index}
use Rattle.std.specs.List.Sorted.{IsStrictlyIncreasing}
use Rattle.hierarchy.specs.Hierarchy.{Reaches}
use Rattle.release_model.specs.Release.{Release}
use Rattle.number_lists.specs.KeyedLists.{list_of}
use Rattle.ancestor_index.specs.HierarchyLists.{hierarchy_of}

-- each list of a hierarchy rises strictly
abbrev pub AreRisingLists : Type 0
AreRisingLists =
    (release : Release)
    → All IsStrictlyIncreasing (hierarchy_of release).ancestors
    × All IsStrictlyIncreasing (hierarchy_of release).descendants
    × All IsStrictlyIncreasing (hierarchy_of release).parents
    × All IsStrictlyIncreasing (hierarchy_of release).children

-- `other` is in the list of ancestors of `concept` exactly if a chain of is-a rows leads from
-- `concept` to `other`, and in its list of descendants exactly if a chain leads from `other` to
-- `concept`
abbrev pub AreComplete : Type 0
AreComplete =
    (release : Release) (concept other : ℕ) → concept < length release.concepts
    → other < length release.concepts
    → (Contains (list_of (hierarchy_of release).ancestors concept) other
    ↔ Reaches release.isa (slice_index release.concepts concept)
    (slice_index release.concepts other))
    × (Contains (list_of (hierarchy_of release).descendants concept) other
    ↔ Reaches release.isa (slice_index release.concepts other)
    (slice_index release.concepts concept))

-- `other` is in the list of parents of `concept` exactly if an is-a row leads from `concept` to
-- `other`, and in its list of children exactly if a row leads from `other` to `concept`
abbrev pub AreSingleSteps : Type 0
AreSingleSteps =
    (release : Release) (concept other : ℕ) → concept < length release.concepts
    → other < length release.concepts
    → (Contains (list_of (hierarchy_of release).parents concept) other
    ↔ Contains release.isa (
      slice_index release.concepts concept,
      slice_index release.concepts
          other,
    ))
    × (Contains (list_of (hierarchy_of release).children concept) other
    ↔ Contains release.isa (
      slice_index release.concepts other,
      slice_index release.concepts
          concept,
    ))
