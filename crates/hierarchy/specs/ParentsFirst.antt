-- An order of concepts in which parents come first. Concepts are numbers, and each is-a row is a
-- child and its parent.
use Rattle.std.specs.Prelude.{ℕ, ◌↔◌, ◌<◌, List, Contains, length, nat_eq, slice_index, take}
use Rattle.std.specs.List.{IsDistinct}

-- `order` has each concept below `count` once, and each parent before its children
pub record IsParentsFirst (count : ℕ) (rows : List (ℕ × ℕ)) (order : List ℕ) : Type 0 where
  -- no concept stands in the order twice
  pub once : IsDistinct nat_eq order
  -- the order has exactly the concepts below `count`
  pub members : (concept : ℕ) → Contains order concept ↔ (concept < count)
  -- each parent of the concept at a place stands before that place
  pub first : (place parent : ℕ) → place < length order
      → Contains rows (slice_index order place, parent) → Contains (take place order) parent
