-- The lines of a plan, a node before its children. The bounds of the nodes are given as a list.
use Rattle.std.specs.Prelude.{ℕ, ◌++◌, List, [], ◌∷◌, drop}
use Rattle.set_algebra.specs.Physical.{Physical, physical_empty, physical_all, physical_one, physical_walk}
use Rattle.set_algebra.specs.Physical.{physical_members, physical_and, physical_or, physical_minus, physical_values}
use Rattle.set_algebra.specs.Physical.{physical_pairs, physical_groups, PhysicalGroups, physical_nothing}
use Rattle.set_algebra.specs.Physical.{physical_every, physical_groups_and, physical_groups_or, physical_groups_minus}
use Rattle.set_algebra.specs.Physical.{physical_groups_pairs}
use Rattle.answer_printer.specs.PlanText.{NodeText, bound_line, group_outline, group_words, groups_outline}
use Rattle.answer_printer.specs.PlanText.{node_words, outline, plans_outline, test_outline}

-- for each node, the text before its bound: its spaces and its words
abbrev pub before_bound : NodeText
before_bound = record {
  of_plan = λ spaces plan. spaces ++ node_words plan;
  of_group = λ spaces plan. spaces ++ group_words plan;
}

-- the first of `bounds`, or 0 if there is none
abbrev pub first_bound : List ℕ → ℕ
first_bound [] = 0
first_bound (most ∷ bounds) = most

-- the lines of `before ∷ others`: each text is followed by the next of `bounds`
abbrev pub with_bounds : List (List ℕ) → List ℕ → List ℕ
with_bounds [] bounds = []
with_bounds (before ∷ others) bounds =
    bound_line before (first_bound bounds) ++ with_bounds others (drop 1 bounds)

-- the outline of the nodes below a node of a concept plan
abbrev pub below : NodeText → List ℕ → Physical → List (List ℕ)
below node spaces physical_empty = []
below node spaces physical_all = []
below node spaces (physical_one number) = []
below node spaces (physical_walk operator operand) = outline node spaces operand
below node spaces (physical_members operand) = outline node spaces operand
below node spaces (physical_and parts) = plans_outline node spaces parts
below node spaces (physical_or parts) = plans_outline node spaces parts
below node spaces (physical_minus first second) =
    outline node spaces first ++ outline node spaces second
below node spaces (physical_values start names) =
    outline node spaces start ++ plans_outline node spaces names
below node spaces (physical_pairs back count types test choice) =
    outline node spaces types ++ test_outline node spaces test
below node spaces (physical_groups count units) = group_outline node spaces units

-- the outline of the nodes below a node of a group plan
abbrev pub below_group : NodeText → List ℕ → PhysicalGroups → List (List ℕ)
below_group node spaces physical_nothing = []
below_group node spaces physical_every = []
below_group node spaces (physical_groups_and parts) = groups_outline node spaces parts
below_group node spaces (physical_groups_or parts) = groups_outline node spaces parts
below_group node spaces (physical_groups_minus first second) =
    group_outline node spaces first ++ group_outline node spaces second
below_group node spaces (physical_groups_pairs count types test choice) =
    outline node spaces types ++ test_outline node spaces test
