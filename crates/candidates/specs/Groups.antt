-- Sets of groups of a release, by the numbers of the groups. A group's number is its place, from 0,
-- in the list of all groups (Release File Specification, "Relationship file", relationshipGroup).
use Rattle.std.specs.Prelude.{ℕ, Bool, false, List, Option, None, Some, length, slice_get}
use Rattle.release_model.specs.Pairs.{Pair}
use Rattle.release_model.specs.Release.{Release}
use Rattle.number_lists.specs.Rising.{numbers_where}
use Rattle.postings.specs.Groups.{ConceptGroup, all_groups, pairs_of_group}

-- whether the test `set` passes for the pairs of a group; false if there is no group
abbrev pub some_group_in : Release → (List Pair → Bool) → Option ConceptGroup → Bool
some_group_in release set None = false
some_group_in release set (Some group) = set (pairs_of_group release group)

-- the numbers of the groups whose pairs pass the test `set`, in rising order
abbrev pub groups_where : Release → (List Pair → Bool) → List ℕ
groups_where release set =
    numbers_where (length (all_groups release))
    (λ number. some_group_in release set (slice_get (all_groups release) number))

-- the identifier of the concept of a group; 0 if there is no group
abbrev pub concept_in : Option ConceptGroup → ℕ
concept_in None = 0
concept_in (Some group) = group.concept
