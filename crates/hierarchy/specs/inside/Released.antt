-- The search for an order with parents first: its start, and the release of the children of one
-- concept. The count of a concept is how many of its rows lead to parents that are not done.
use Rattle.std.specs.Prelude.{ℕ, ◌≡◌, ◌+◌, ◌<◌, ◌==◌, ◌↔◌, List, Contains, count_by, length, nat_eq, slice_index}
use Rattle.std.specs.List.{IsDistinct}

-- `children` are released: the count of each is lowered by one for each time that it is listed, and
-- `added` has the concepts whose count thereby becomes 0, once each
pub record IsReleased (children before after added : List ℕ) : Type 0 where
  -- there are as many counts as before
  pub len : length after ≡ length before
  -- the count of a concept is lowered by the number of times that it is listed
  pub less : (concept : ℕ)
      → slice_index after concept + count_by (λ child. child == concept) children
      ≡ slice_index before concept
  -- no concept is added twice
  pub once : IsDistinct nat_eq added
  -- the added concepts are exactly those whose count was above 0 and is now 0
  pub members : (concept : ℕ)
      → Contains added concept ↔ ((0 < slice_index before concept)
      × (slice_index after concept ≡ 0))

-- `roots` are the concepts below `count` whose count in `waiting` is 0, once each
pub record AreRoots (count : ℕ) (waiting roots : List ℕ) : Type 0 where
  -- no root is listed twice
  pub once : IsDistinct nat_eq roots
  -- the roots are exactly the concepts below `count` whose count is 0
  pub members : (concept : ℕ)
      → Contains roots concept ↔ ((concept < count) × (slice_index waiting concept ≡ 0))
