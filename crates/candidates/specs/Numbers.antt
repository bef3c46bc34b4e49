-- Sets of concepts of a release, by the numbers of the concepts. A concept's number is its place,
-- from 0, in the rising list of concepts in force.
use Rattle.std.specs.Prelude.{ℕ, ◌==◌, Bool, List, length, slice_index}
use Rattle.std.specs.List.{list_any}
use Rattle.release_model.specs.Release.{Release}
use Rattle.number_lists.specs.Rising.{numbers_where}

-- the numbers of the concepts whose identifiers pass the test `set`, in rising order
abbrev pub numbers_in : Release → (ℕ → Bool) → List ℕ
numbers_in release set =
    numbers_where (length release.concepts) (λ number. set (slice_index release.concepts number))

-- whether `id` is the identifier of one of `numbers`, which are numbers of `concepts`
abbrev pub is_one_of : List ℕ → List ℕ → ℕ → Bool
is_one_of concepts numbers id = list_any (λ number. slice_index concepts number == id) numbers
