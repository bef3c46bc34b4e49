-- The texts of four plans over the sample release, whose leaves have the choices with the least
-- bounds. They are facts that follow by computing. The comment above each is the text of its query.
use Rattle.std.specs.Prelude.{ℕ, ◌≡◌, false, List, [], ◌∷◌, codes}
use Rattle.constraint_tree.specs.declared.operator.Compare.TheVariants.{Greater}
use Rattle.constraint_tree.specs.Sample.{alpha, type_t, type_u, value_x}
use Rattle.constraint_tree.specs.WorkedQueries.{at_least, two}
use Rattle.set_algebra.specs.Lowering.{both_plan}
use Rattle.set_algebra.specs.Plan.{Plan, all_plan, and_group_plan, groups_from, number_plan, one_plan, pairs_plan}
use Rattle.set_algebra.specs.Plan.{groups_plan, within_plan}
use Rattle.set_algebra.specs.WorkedPlans.{below_alpha_plan, u_group, x_group}
use Rattle.planner.specs.Chosen.{chosen}
use Rattle.planner.specs.WorkedBounds.{indexed_sample}
use Rattle.answer_printer.specs.PlanText.{plan_text}

-- `text` is the text of the plan over the sample release, if each leaf has the choice with the
-- least bound
abbrev pub HasText : Plan → List ℕ → Type 0
HasText plan text = plan_text indexed_sample (chosen indexed_sample plan) ≡ text

-- <100005:104001=106004
abbrev pub TextByValue : Type 0
TextByValue =
    HasText (both_plan below_alpha_plan (pairs_plan false (at_least 1) (one_plan type_t)
    (within_plan (one_plan value_x))))
    (codes "PLAN 17\nand 10\n descendants 4\n  one 100005 0\n pairs out 1..* within by value 3\n  one 104001 0\n  one 106004 0\n")

-- *:105000>#2
abbrev pub TextByType : Type 0
TextByType =
    HasText (both_plan all_plan (pairs_plan false (at_least 1) (one_plan type_u)
    (number_plan Greater two)))
    (codes "PLAN 39\nand 32\n all 0\n pairs out 1..* > 2000000000000000000 by type 7\n  one 105000 0\n")

-- <100005:{104001=<<106004,105000=*}
abbrev pub TextInBraces : Type 0
TextInBraces =
    HasText (both_plan below_alpha_plan (groups_plan (at_least 1)
    (and_group_plan (groups_from (x_group ∷ u_group ∷ [])))))
    (codes "PLAN 50\nand 12\n descendants 4\n  one 100005 0\n units 1..* 3\n  unit-and 18\n   unit-pairs 1..* within by type 4\n    one 104001 0\n    descendants-self 2\n     one 106004 0\n   unit-pairs 1..* within by type 7\n    one 105000 0\n    all 0\n")

-- 100005,100005, which simplification reduces to one concept
abbrev pub TextOfOne : Type 0
TextOfOne = HasText (one_plan alpha) (codes "PLAN 0\none 100005 0\n")
