-- The lists of a hierarchy by family; a family has one list for each concept (Expression Constraint
-- Language, "Simple Expression Constraints").
use Rattle.std.specs.Prelude.{ℕ, List, length}
use Rattle.std.specs.List.{concat, sum_by}
use Rattle.number_lists.specs.KeyedLists.{list_of}
use Rattle.constraint_tree.specs.declared.operator.Operator.{Operator}
use Rattle.constraint_tree.specs.declared.operator.Operator.TheVariants.{Descendants, DescendantsOrSelf, Children}
use Rattle.constraint_tree.specs.declared.operator.Operator.TheVariants.{ChildrenOrSelf, Ancestors, AncestorsOrSelf}
use Rattle.constraint_tree.specs.declared.operator.Operator.TheVariants.{Parents, ParentsOrSelf, Top, Bottom}
use Rattle.ancestor_index.specs.HierarchyLists.{Hierarchy}
use Rattle.walks.specs.declared.family.Family.{Family}
use Rattle.walks.specs.declared.family.Family.TheVariants as family

-- the lists of a family: those of ancestors, descendants, parents or children, one for each concept
abbrev pub lists_of : Hierarchy → Family → List (List ℕ)
lists_of hierarchy family.Ancestors = hierarchy.ancestors
lists_of hierarchy family.Descendants = hierarchy.descendants
lists_of hierarchy family.Parents = hierarchy.parents
lists_of hierarchy family.Children = hierarchy.children

-- the family whose lists an operator follows
abbrev pub family_of : Operator → Family
family_of Descendants = family.Descendants
family_of DescendantsOrSelf = family.Descendants
family_of Children = family.Children
family_of ChildrenOrSelf = family.Children
family_of Ancestors = family.Ancestors
family_of AncestorsOrSelf = family.Ancestors
family_of Parents = family.Parents
family_of ParentsOrSelf = family.Parents
family_of Top = family.Ancestors
family_of Bottom = family.Descendants

-- the total length of the lists of `concepts`
abbrev pub items_in : List (List ℕ) → List ℕ → ℕ
items_in lists concepts = sum_by (λ concept. length (list_of lists concept)) concepts

-- the total length of all lists of a family: the number of pairs of a concept and its ancestor, or
-- of is-a links
abbrev pub all_items_of : Hierarchy → Family → ℕ
all_items_of hierarchy family.Ancestors = length (concat hierarchy.ancestors)
all_items_of hierarchy family.Descendants = length (concat hierarchy.ancestors)
all_items_of hierarchy family.Parents = length (concat hierarchy.parents)
all_items_of hierarchy family.Children = length (concat hierarchy.parents)
