-- The input of the search for all ancestors: the parents of each concept, and an order.
use Rattle.std.specs.Prelude.{ℕ, ◌≡◌, List, length}
use Rattle.hierarchy.specs.ParentsFirst.{IsParentsFirst}
use Rattle.hierarchy.specs.Hierarchy.{IsWithin}
use Rattle.ancestor_index.specs.HierarchyLists.{is_child, lists_where}

-- `parents` has the parents of each concept by `rows`, and `order` has all concepts, parents before
-- their children
pub record AreParentsBy (rows : List (ℕ × ℕ)) (parents : List (List ℕ)) (order : List ℕ) : Type 0
  where
    -- both ends of each row are concepts of the order
    pub within : IsWithin (length order) rows
    -- the parents of a concept are those that a row leads to from it
    pub lists : parents ≡ lists_where (length order) (is_child rows)
    -- each parent stands before its children in the order
    pub first : IsParentsFirst (length order) rows order
