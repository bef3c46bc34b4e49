-- The counts of a release from which the size and the bound of a node follow: the lists of a
-- concept, and the rows of a type or a value.
use Rattle.std.specs.Prelude.{ℕ, ◌==◌, Bool, true, false, if◌then◌else◌, List, Option, None, Some, length}
use Rattle.constraint_tree.specs.declared.operator.Cardinality.{Cardinality}
use Rattle.constraint_tree.specs.declared.operator.Operator.{Operator}
use Rattle.constraint_tree.specs.declared.operator.Operator.TheVariants.{Descendants, DescendantsOrSelf, Children}
use Rattle.constraint_tree.specs.declared.operator.Operator.TheVariants.{ChildrenOrSelf, Ancestors, AncestorsOrSelf}
use Rattle.constraint_tree.specs.declared.operator.Operator.TheVariants.{Parents, ParentsOrSelf, Top, Bottom}
use Rattle.set_algebra.specs.Physical.{Physical, physical_empty, physical_all, physical_one, physical_walk}
use Rattle.set_algebra.specs.Physical.{physical_members, physical_and, physical_or, physical_minus, physical_values}
use Rattle.set_algebra.specs.Physical.{physical_pairs, physical_groups, PhysicalTest, physical_within}
use Rattle.set_algebra.specs.Physical.{physical_outside, physical_number}
use Rattle.number_lists.specs.KeyedLists.{list_of}
use Rattle.held_release.specs.Numbering.{concept_number}
use Rattle.ancestor_index.specs.HierarchyLists.{Hierarchy}
use Rattle.postings.specs.Indexed.{Indexed, rows_by_source, rows_by_value}
use Rattle.postings.specs.Stats.{stats_in, type_row_count}
use Rattle.plan_bounds.specs.declared.leaf.Leaf.{Leaf}

-- the result of `count` for a concept's number, or 0 for a concept that is not in force, which has
-- no number
abbrev pub counted : (ℕ → ℕ) → Option ℕ → ℕ
counted count (Some number) = count number
counted count None = 0

-- the result of `count` for the number of the concept with identifier `id`, or 0 if it is not in
-- force
abbrev pub of_concept : Indexed → (ℕ → ℕ) → ℕ → ℕ
of_concept indexed count id = counted count (concept_number indexed.concepts id)

-- the lists of all concepts that a hierarchy operator reads
abbrev pub lists_along : Hierarchy → Operator → List (List ℕ)
lists_along hierarchy Descendants = hierarchy.descendants
lists_along hierarchy DescendantsOrSelf = hierarchy.descendants
lists_along hierarchy Children = hierarchy.children
lists_along hierarchy ChildrenOrSelf = hierarchy.children
lists_along hierarchy Ancestors = hierarchy.ancestors
lists_along hierarchy AncestorsOrSelf = hierarchy.ancestors
lists_along hierarchy Parents = hierarchy.parents
lists_along hierarchy ParentsOrSelf = hierarchy.parents
lists_along hierarchy Top = hierarchy.ancestors
lists_along hierarchy Bottom = hierarchy.descendants

-- the length of the list that a hierarchy operator reads for the concept with identifier `id`, or 0
-- if it is not in force
abbrev pub list_length : Indexed → Operator → ℕ → ℕ
list_length indexed operator id =
    of_concept indexed (λ number. length (list_of (lists_along indexed.hierarchy operator) number))
    id

-- the total length of the lists that a hierarchy operator reads for all concepts
abbrev pub lists_length : Indexed → Operator → ℕ
lists_length indexed Descendants = (stats_in indexed).r
lists_length indexed DescendantsOrSelf = (stats_in indexed).r
lists_length indexed Children = (stats_in indexed).l
lists_length indexed ChildrenOrSelf = (stats_in indexed).l
lists_length indexed Ancestors = (stats_in indexed).r
lists_length indexed AncestorsOrSelf = (stats_in indexed).r
lists_length indexed Parents = (stats_in indexed).l
lists_length indexed ParentsOrSelf = (stats_in indexed).l
lists_length indexed Top = (stats_in indexed).r
lists_length indexed Bottom = (stats_in indexed).r

-- whether a hierarchy operator also finds the concepts of its operand themselves
abbrev pub leads_to_self : Operator → Bool
leads_to_self Descendants = false
leads_to_self DescendantsOrSelf = true
leads_to_self Children = false
leads_to_self ChildrenOrSelf = true
leads_to_self Ancestors = false
leads_to_self AncestorsOrSelf = true
leads_to_self Parents = false
leads_to_self ParentsOrSelf = true
leads_to_self Top = false
leads_to_self Bottom = false

-- whether a hierarchy operator keeps a part of the concepts of its operand and adds none (`!!>`,
-- `!!<`)
abbrev pub is_extreme : Operator → Bool
is_extreme Descendants = false
is_extreme DescendantsOrSelf = false
is_extreme Children = false
is_extreme ChildrenOrSelf = false
is_extreme Ancestors = false
is_extreme AncestorsOrSelf = false
is_extreme Parents = false
is_extreme ParentsOrSelf = false
is_extreme Top = true
is_extreme Bottom = true

-- how many members the reference set with identifier `id` has
abbrev pub member_count : Indexed → ℕ → ℕ
member_count indexed id = of_concept indexed (λ number. length (list_of indexed.members number)) id

-- how many rows have the concept with identifier `id` as their value; with `back`, as their source
abbrev pub value_row_count : Indexed → Bool → ℕ → ℕ
value_row_count indexed back id =
    of_concept indexed (λ number. length
    (if back then rows_by_source indexed number else rows_by_value indexed number)) id

-- the identifier in a plan if the plan is `physical_one`, or else `None`
abbrev pub one_of : Physical → Option ℕ
one_of physical_empty = None
one_of physical_all = None
one_of (physical_one id) = Some id
one_of (physical_walk operator operand) = None
one_of (physical_members operand) = None
one_of (physical_and parts) = None
one_of (physical_or parts) = None
one_of (physical_minus first second) = None
one_of (physical_values start names) = None
one_of (physical_pairs back count types test choice) = None
one_of (physical_groups count units) = None

-- how many of `all` rows, at most, have a type or a value that a plan finds: none for the empty
-- plan, `count` of the identifier for a plan of one concept, and otherwise all
abbrev pub rows_left : (ℕ → ℕ) → ℕ → Physical → ℕ
rows_left count all physical_empty = 0
rows_left count all physical_all = all
rows_left count all (physical_one id) = count id
rows_left count all (physical_walk operator operand) = all
rows_left count all (physical_members operand) = all
rows_left count all (physical_and parts) = all
rows_left count all (physical_or parts) = all
rows_left count all (physical_minus first second) = all
rows_left count all (physical_values start names) = all
rows_left count all (physical_pairs back plan_count types test choice) = all
rows_left count all (physical_groups plan_count units) = all

-- how many rows, at most, have a type that `types` finds
abbrev pub type_rows : Indexed → Physical → ℕ
type_rows indexed types = rows_left (type_row_count indexed) (length indexed.rows) types

-- how many rows, at most, have a value that passes the test; with `back`, a source that passes it
abbrev pub value_rows : Indexed → Bool → PhysicalTest → ℕ
value_rows indexed back (physical_within values) =
    rows_left (value_row_count indexed back) (length indexed.rows) values
value_rows indexed back (physical_outside values) = length indexed.rows
value_rows indexed back (physical_number compare number) = length indexed.rows

-- whether a test is `Within`
abbrev pub is_within : PhysicalTest → Bool
is_within (physical_within values) = true
is_within (physical_outside values) = false
is_within (physical_number compare number) = false

-- the counts of a leaf over `all` concepts or groups, if its types find at most `type_size`
-- concepts and the plan of its test at most `value_size`
abbrev pub leaf_of : Indexed → ℕ → Bool → Cardinality → Physical → PhysicalTest → ℕ → ℕ → Leaf
leaf_of indexed all back count types test type_size value_size = record {
  all = all;
  none_pass = count.min == 0;
  rows = length indexed.rows;
  value_rows = value_rows indexed back test;
  type_rows = type_rows indexed types;
  value_size = value_size;
  type_size = type_size;
  is_within = is_within test;
}
