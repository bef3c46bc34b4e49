-- The groups of concepts, by group numbers and concept numbers.
use Rattle.std.specs.Prelude.{ℕ, ◌≡◌, ◌<◌, ◌==◌, true, List, count_by, length, slice_get, slice_index}
use Rattle.release_model.specs.Release.{Release}
use Rattle.number_lists.specs.Members.{has}
use Rattle.postings.specs.Groups.{all_groups}
use Rattle.candidates.specs.Groups.{concept_in}

-- `groups` has all groups of `concepts`: each group of the release whose concept is in `concepts`
abbrev pub HaveGroupsOf : Release → List ℕ → List ℕ → Type 0
HaveGroupsOf release concepts groups =
    (number group : ℕ) → has concepts number ≡ true → number < length release.concepts
    → group < length (all_groups release)
    → concept_in (slice_get (all_groups release) group) ≡ slice_index release.concepts number
    → has groups group ≡ true

-- how many of `groups` are groups of the concept with the number `number`
abbrev pub groups_owned : Release → List ℕ → ℕ → ℕ
groups_owned release groups number =
    count_by (λ group. concept_in (slice_get (all_groups release) group)
    == slice_index release.concepts number) groups
