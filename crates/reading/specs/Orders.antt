-- The order of concepts in which one pass over the is-a rows finds all ancestors or all descendants
-- of a set.
use Rattle.std.specs.Prelude.{ℕ, ◌≡◌, List, length, map}
use Rattle.hierarchy.specs.Hierarchy.{IsWithin}
use Rattle.hierarchy.specs.ParentsFirst.{IsParentsFirst}
use Rattle.held_release.specs.Numbering.{row_of_numbers}
use Rattle.release_model.specs.Release.{Release}

-- `order` has the numbers of all concepts of `release`, parents before their children by the is-a
-- rows (Release File Specification, "Relationship file")
pub record IsOrderOf (release : Release) (order : List ℕ) : Type 0 where
  -- the is-a rows as pairs of concept numbers, child and parent
  pub rows : List (ℕ × ℕ)
  -- these pairs encode the is-a rows of the release, in their order
  pub rows_are : map (row_of_numbers release.concepts) rows ≡ release.isa
  -- all numbers in `rows` are below the number of concepts
  pub within : IsWithin (length release.concepts) rows
  -- `order` has each number below the number of concepts once, and parents before their children
  pub first : IsParentsFirst (length release.concepts) rows order
