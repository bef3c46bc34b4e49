-- The components of reference sets (Expression Constraint Language, "Simple Expression
-- Constraints", memberOf; Release File Specification, "Simple reference set"), by the numbers of
-- concepts.
use Rattle.std.specs.Prelude.{ℕ, ◌==◌, ◌&&◌, List, length, slice_index}
use Rattle.std.specs.List.{list_any}
use Rattle.release_model.specs.Release.{Release}
use Rattle.number_lists.specs.Rising.{numbers_where}

-- the numbers of the components of the release's member rows whose reference set is one of
-- `refsets`, in rising order; `refsets` has concept numbers
abbrev pub components_of : Release → List ℕ → List ℕ
components_of release refsets =
    let id : ℕ → ℕ = slice_index release.concepts in
    numbers_where (length release.concepts)
    (λ number. list_any (λ row. list_any (λ refset. id refset == row.0) refsets
    && (row.1 == id number)) release.members)
