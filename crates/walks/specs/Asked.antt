-- What must be known of a set to test whether an operator leads from it to given concepts. Each
-- concept is tested by a list of its own.
use Rattle.std.specs.Prelude.{ℕ, ◌≡◌, Bool, true, List}
use Rattle.number_lists.specs.Members.{has}
use Rattle.number_lists.specs.KeyedLists.{list_of}
use Rattle.ancestor_index.specs.HierarchyLists.{Hierarchy}
use Rattle.constraint_tree.specs.declared.operator.Operator.{Operator}
use Rattle.constraint_tree.specs.declared.operator.Operator.TheVariants.{Descendants, DescendantsOrSelf, Children}
use Rattle.constraint_tree.specs.declared.operator.Operator.TheVariants.{ChildrenOrSelf, Ancestors, AncestorsOrSelf}
use Rattle.constraint_tree.specs.declared.operator.Operator.TheVariants.{Parents, ParentsOrSelf, Top, Bottom}

-- the lists by which an operator tests a concept: those of the opposite direction, or, for `Top`
-- and `Bottom`, those of the operator's own direction
abbrev pub asked_lists : Hierarchy → Operator → List (List ℕ)
asked_lists hierarchy Descendants = hierarchy.ancestors
asked_lists hierarchy DescendantsOrSelf = hierarchy.ancestors
asked_lists hierarchy Children = hierarchy.parents
asked_lists hierarchy ChildrenOrSelf = hierarchy.parents
asked_lists hierarchy Ancestors = hierarchy.descendants
asked_lists hierarchy AncestorsOrSelf = hierarchy.descendants
asked_lists hierarchy Parents = hierarchy.children
asked_lists hierarchy ParentsOrSelf = hierarchy.children
asked_lists hierarchy Top = hierarchy.ancestors
asked_lists hierarchy Bottom = hierarchy.descendants

-- `enough` has each concept of `wanted`, and all items of that concept's list in `lists`
abbrev pub AreEnough : List (List ℕ) → (ℕ → Bool) → (ℕ → Bool) → Type 0
AreEnough lists wanted enough =
    (concept : ℕ) → wanted concept ≡ true
    → (enough concept ≡ true) × ((number : ℕ) → has (list_of lists concept) number ≡ true
    → enough number ≡ true)
