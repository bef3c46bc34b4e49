-- The order in which the parts of a node are executed.
use Rattle.std.specs.Prelude.{ℕ, ◌≡◌, ◌<◌, List, IsPermutation, length, map, slice_index_or}
use Rattle.std.specs.List.{range_with_len}

-- `order` has each place of `count` parts once, next to the estimate of the part there
abbrev pub IsOrderOf : ℕ → List (ℕ × ℕ) → Type 0
IsOrderOf count order = IsPermutation (range_with_len 0 count) (map (λ item. item.1) order)

-- the part at `place`, one of `count` parts, is executed at `turn`
pub record IsPlaceAt (count : ℕ) (order : List (ℕ × ℕ)) (turn place : ℕ) : Type 0 where
  -- `turn` is one of the turns
  pub within : turn < length order
  -- the order has the place at `turn`
  pub is : place ≡ (slice_index_or order turn (0, 0)).1
  -- the place is one of the places of the parts
  pub inside : place < count
