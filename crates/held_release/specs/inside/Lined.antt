-- The output lines of concepts by number, and the name rows of the concepts.
use Rattle.std.specs.Prelude.{ℕ, List}
use Rattle.release_model.specs.Release.{Name}

-- the lines of concepts by number, and name rows
pub record Lined : Type 0 where
  -- the line of each concept, in the order of their numbers
  pub lines : List (List ℕ)
  -- the name rows
  pub names : List Name
