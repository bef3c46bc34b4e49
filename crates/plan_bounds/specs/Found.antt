-- A physical plan finds at most its size, whatever choices its leaves have.
use Rattle.std.specs.Prelude.{◌≡◌, ◌≤◌, true, All, List, filter, length}
use Rattle.std.specs.List.Sorted.{IsStrictlyIncreasing}
use Rattle.release_model.specs.Release.{Attribute, Release}
use Rattle.number_lists.specs.Members.{has}
use Rattle.set_algebra.specs.Meaning.{group_means, meaning}
use Rattle.set_algebra.specs.Physical.{Physical, PhysicalGroups, logical, logical_groups}
use Rattle.set_algebra.specs.Plan.{PlanOfGroups}
use Rattle.postings.specs.Groups.{ConceptGroup, all_groups, pairs_of_group}
use Rattle.postings.specs.Indexed.{Indexed, IsIndexOf}
use Rattle.plan_bounds.specs.Sizes.{group_size, size}

-- the groups of a release that a plan of groups means
abbrev pub groups_meant : Release → PlanOfGroups → List ConceptGroup
groups_meant release plan =
    filter (λ group. group_means release plan (pairs_of_group release group)) (all_groups release)

-- for a release whose concepts rise and whose attribute rows have sources in force: no plan means
-- more concepts than its size by the indexes of the release, and no plan of groups more groups
abbrev pub FindsWithinSize : Type 0
FindsWithinSize =
    (release : Release) → IsStrictlyIncreasing release.concepts
    → All (λ (row : Attribute). has release.concepts row.source ≡ true) release.attributes
    → (indexed : Indexed) → IsIndexOf indexed release
    → ((plan : Physical) → length (meaning release (logical plan)) ≤ size indexed plan)
    × ((plan : PhysicalGroups) → length (groups_meant release (logical_groups plan))
    ≤ group_size indexed plan)
