-- How many items are read at most to find what an operator leads to, and to test whether it leads
-- to given concepts.
use Rattle.std.specs.Prelude.{ℕ, ◌≤◌, ◌+◌, if◌then◌else◌, List, length, nat_lt}
use Rattle.constraint_tree.specs.declared.operator.Operator.{Operator}
use Rattle.ancestor_index.specs.HierarchyLists.{Hierarchy}
use Rattle.reading.specs.Counted.{full}
use Rattle.candidates.specs.declared.candidates.Candidates.{Candidates}
use Rattle.candidates.specs.declared.candidates.Candidates.TheVariants as candidates
use Rattle.walks.specs.Asked.{asked_lists}
use Rattle.walks.specs.Families.{all_items_of, family_of, items_in, lists_of}
use Rattle.walks.specs.declared.family.Family.{Family}

-- how many list items are read at most to walk along a family: the list of a single concept, or,
-- for several concepts, at most the total of all lists
abbrev pub items_at_most : Hierarchy → Family → List ℕ → ℕ
items_at_most hierarchy family concepts =
    if nat_lt 1 (length concepts) then all_items_of hierarchy family else items_in
    (lists_of hierarchy family) concepts

-- how many list items are read at most to find what an operator leads to
abbrev pub walk_items : Hierarchy → Operator → List ℕ → ℕ
walk_items hierarchy operator = items_at_most hierarchy (family_of operator)

-- how many items are read to test `concepts`: the concepts, and the lists by which the operator
-- tests them
abbrev pub asked_items : Hierarchy → Operator → List ℕ → ℕ
asked_items hierarchy operator concepts =
    length concepts + items_in (asked_lists hierarchy operator) concepts

-- testing the candidates reads at most `items` items; true if every number is a candidate
abbrev pub AreAsked : {S : Type 0} → (S → List ℕ) → Hierarchy → Operator → Candidates S → ℕ → Type 0
AreAsked items_of hierarchy operator candidates.All items = Unit {0}
AreAsked items_of hierarchy operator (candidates.Within set stats) items =
    full (asked_items hierarchy operator (items_of set.now)) ≤ items
