-- The groups of the indexes of a release.
use Rattle.std.proofs.Common.{◌≡◌, ◌∙◌}
use Rattle.std.specs.List.Sorted.{IsStrictlyIncreasing}
use Rattle.release_model.specs.Release.{Release}
use Rattle.postings.specs.Groups.{all_groups, groups_in, rows_alone}
use Rattle.postings.specs.Indexed.{Indexed, IsIndexOf}
use Rattle.postings.proofs.CountLemmas.{all_groups_again}

-- the numbered groups of the indexes of a release are the groups of the release
pub groups_are : (indexed : Indexed) (release : Release) → IsIndexOf indexed release
    → IsStrictlyIncreasing release.concepts
    → groups_in indexed ≡ all_groups release
groups_are indexed release is rising =
    (λ i. all_groups (rows_alone (is.concepts i) (is.rows i))) ∙ all_groups_again release rising
