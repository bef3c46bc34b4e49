-- The plans of the worked queries, and the concepts that they mean in the sample release, which are
-- those that the queries denote there. These facts follow by computing. The comment above a query
-- is its text, with identifiers in place of names.
use Rattle.std.specs.Prelude.{ℕ, ◌≡◌, false, List, [], ◌∷◌}
use Rattle.constraint_tree.specs.declared.operator.Compare.TheVariants.{Equal, Less, LessOrEqual, Greater}
use Rattle.constraint_tree.specs.declared.operator.Compare.TheVariants.{GreaterOrEqual}
use Rattle.constraint_tree.specs.declared.operator.Operator.TheVariants.{Descendants, DescendantsOrSelf, Children}
use Rattle.constraint_tree.specs.declared.operator.Operator.TheVariants.{ChildrenOrSelf, AncestorsOrSelf, ParentsOrSelf}
use Rattle.constraint_tree.specs.declared.operator.Operator.TheVariants.{Top, Bottom}
use Rattle.constraint_tree.specs.Tree.{Tree, concept_tree, any_tree, walk_tree, member_tree, minus_tree, one_set}
use Rattle.constraint_tree.specs.Tree.{within_test, outside_test, number_test}
use Rattle.constraint_tree.specs.Sample.{sample, sample_concepts, alpha, beta, gamma, delta, type_t, type_u, value_x}
use Rattle.constraint_tree.specs.Sample.{value_y, reference_set, root}
use Rattle.constraint_tree.specs.WorkedQueries.{self_or_descendants_of, all_of, values_along, below_alpha}
use Rattle.constraint_tree.specs.WorkedQueries.{alpha_or_below, at_least, between, counted, has, any_concept}
use Rattle.constraint_tree.specs.WorkedQueries.{with_attribute, with_braces, finds_u, two, two_and_a_half}
use Rattle.constraint_tree.specs.WorkedQueries.{two_point_six, three, braces_query, no_braces_query, two_of_u_query}
use Rattle.constraint_tree.specs.WorkedQueries.{two_groups_query, none_of_u, none_in_braces_query, reverse_query}
use Rattle.constraint_tree.specs.WorkedQueries.{not_three_query, either_of, top_query, ancestors_query, parents_query}
use Rattle.constraint_tree.specs.WorkedQueries.{walk_of_and_query}
use Rattle.set_algebra.specs.Lowering.{lowered, both_plan}
use Rattle.set_algebra.specs.Meaning.{meaning}
use Rattle.set_algebra.specs.Plan.{Plan, all_plan, one_plan, walk_plan, and_plan, pairs_plan, groups_plan, plans_from}
use Rattle.set_algebra.specs.Plan.{PlanOfGroups, and_group_plan, pairs_group_plan, groups_from, within_plan}
use Rattle.set_algebra.specs.Plan.{number_plan}

-- Four plans.

-- the plan of the constraint `query` is `plan`
abbrev pub HasPlan : Tree → Plan → Type 0
HasPlan query plan = lowered query ≡ plan

-- the plan of the descendants of Alpha
abbrev pub below_alpha_plan : Plan
below_alpha_plan = walk_plan Descendants (one_plan alpha)

-- <100005:104001=106004
abbrev pub HasPlanOfAttribute : Type 0
HasPlanOfAttribute =
    HasPlan (with_attribute below_alpha (has type_t (within_test (concept_tree value_x))))
    (both_plan below_alpha_plan (pairs_plan false (at_least 1) (one_plan type_t)
    (within_plan (one_plan value_x))))

-- *:105000>#2
abbrev pub HasPlanOfNumber : Type 0
HasPlanOfNumber =
    HasPlan (with_attribute any_tree (has type_u (number_test Greater two)))
    (both_plan all_plan (pairs_plan false (at_least 1) (one_plan type_u) (number_plan Greater two)))

-- the groups that satisfy 104001=<<106004
abbrev pub x_group : PlanOfGroups
x_group = pairs_group_plan (at_least 1) (one_plan type_t)
    (within_plan (walk_plan DescendantsOrSelf (one_plan value_x)))

-- the groups that satisfy 105000=*
abbrev pub u_group : PlanOfGroups
u_group = pairs_group_plan (at_least 1) (one_plan type_u) (within_plan all_plan)

-- <100005:{104001=<<106004,105000=*}
abbrev pub HasPlanOfBraces : Type 0
HasPlanOfBraces =
    HasPlan braces_query
    (both_plan below_alpha_plan (groups_plan (at_least 1)
    (and_group_plan (groups_from (x_group ∷ u_group ∷ [])))))

-- 100005,100005
abbrev pub HasPlanOfTwice : Type 0
HasPlanOfTwice =
    HasPlan (all_of (concept_tree alpha ∷ concept_tree alpha ∷ []))
    (and_plan (plans_from (one_plan alpha ∷ one_plan alpha ∷ [])))

-- The meanings of the plans.

-- the plan of the constraint `query` means exactly the concepts `answer` in the sample release
abbrev pub PlanMeans : Tree → List ℕ → Type 0
PlanMeans query answer = meaning sample (lowered query) ≡ answer

-- *
abbrev pub MeansEverything : Type 0
MeansEverything = PlanMeans any_tree sample_concepts

-- <100005
abbrev pub MeansDescendants : Type 0
MeansDescendants = PlanMeans below_alpha (beta ∷ gamma ∷ delta ∷ [])

-- <100005:{104001=<<106004,105000=*}
-- <100005:104001=<<106004,105000=*
abbrev pub MeansBraces : Type 0
MeansBraces = PlanMeans braces_query (beta ∷ [])
    × PlanMeans no_braces_query (beta ∷ gamma ∷ delta ∷ [])

-- <100005:[2..*]105000=*
abbrev pub MeansDistinctPairs : Type 0
MeansDistinctPairs = PlanMeans two_of_u_query []

-- <100005:[2..*]{104001=* OR 105000=*}
-- <100005:[1..1]{105000=*}
-- <100005:[2..*]{105000=*}
abbrev pub MeansBraceCounts : Type 0
MeansBraceCounts =
    PlanMeans two_groups_query (gamma ∷ delta ∷ [])
    × PlanMeans (with_braces below_alpha (between 1 1) (one_set finds_u)) (beta ∷ gamma ∷ [])
    × PlanMeans (with_braces below_alpha (at_least 2) (one_set finds_u)) (delta ∷ [])

-- <100005:{[0..0]105000=*}
-- <<100005:[0..0]105000=*
-- <<100005:[0..0]{105000=*}
abbrev pub MeansNoneInBraces : Type 0
MeansNoneInBraces =
    PlanMeans none_in_braces_query (gamma ∷ delta ∷ [])
    × PlanMeans (with_attribute alpha_or_below none_of_u) (alpha ∷ [])
    × PlanMeans (with_braces alpha_or_below (between 0 0) (one_set finds_u)) (alpha ∷ [])

-- <<106004:[3..3] R 105000=<100005
abbrev pub MeansReverse : Type 0
MeansReverse = PlanMeans reverse_query (value_y ∷ [])

-- <100005.104001
-- <100005 . 104001 . 105000
abbrev pub MeansDotted : Type 0
MeansDotted =
    PlanMeans (values_along below_alpha (concept_tree type_t ∷ [])) (value_x ∷ value_y ∷ [])
    × PlanMeans (values_along below_alpha (concept_tree type_t ∷ concept_tree type_u ∷ [])) []

-- <100005:104001!=106004
-- <100005:105000!=#3
-- <100005:105000=#3
abbrev pub MeansNotEqual : Type 0
MeansNotEqual =
    PlanMeans (with_attribute below_alpha (has type_t (outside_test (concept_tree value_x))))
    (delta ∷ [])
    × PlanMeans not_three_query (gamma ∷ [])
    × PlanMeans (with_attribute below_alpha (has type_u (number_test Equal three))) (delta ∷ [])

-- ^108003
-- <^108003
-- ^*
-- <<100005:104001=*
-- <<100005:105000=*
abbrev pub MeansRowsInForce : Type 0
MeansRowsInForce =
    PlanMeans (member_tree (concept_tree reference_set)) (beta ∷ delta ∷ [])
    × PlanMeans (walk_tree Descendants (member_tree (concept_tree reference_set))) (delta ∷ [])
    × PlanMeans (member_tree any_tree) (beta ∷ delta ∷ [])
    × PlanMeans (with_attribute alpha_or_below (has type_t any_concept)) (beta ∷ gamma ∷ delta ∷ [])
    × PlanMeans (with_attribute alpha_or_below finds_u) (beta ∷ gamma ∷ delta ∷ [])

-- *:105000>#2
-- *:105000=#2.50
-- *:105000<#+2.6
abbrev pub MeansNumbers : Type 0
MeansNumbers =
    PlanMeans (with_attribute any_tree (has type_u (number_test Greater two))) (gamma ∷ delta ∷ [])
    × PlanMeans (with_attribute any_tree (has type_u (number_test Equal two_and_a_half)))
    (gamma ∷ [])
    × PlanMeans (with_attribute any_tree (has type_u (number_test Less two_point_six))) (gamma ∷ [])

-- each comparison on a bound that it meets, and on one that it does not meet
-- *:105000<=#2.5
-- *:105000<#2.5
-- *:105000>=#2.5
-- *:105000>=#2.6
abbrev pub MeansBounds : Type 0
MeansBounds =
    PlanMeans (with_attribute any_tree (has type_u (number_test LessOrEqual two_and_a_half)))
    (gamma ∷ [])
    × PlanMeans (with_attribute any_tree (has type_u (number_test Less two_and_a_half))) []
    × PlanMeans (with_attribute any_tree (has type_u (number_test GreaterOrEqual two_and_a_half)))
    (gamma ∷ delta ∷ [])
    × PlanMeans (with_attribute any_tree (has type_u (number_test GreaterOrEqual two_point_six)))
    (delta ∷ [])

-- `MINUS` gives the concepts of the first operand that are not in the second
-- <<100005 MINUS 101009
-- <<100005 MINUS <<101009
-- 101009 MINUS <<100005
abbrev pub MeansDifferences : Type 0
MeansDifferences =
    PlanMeans (minus_tree alpha_or_below (concept_tree beta)) (alpha ∷ gamma ∷ delta ∷ [])
    × PlanMeans (minus_tree alpha_or_below (self_or_descendants_of beta)) (alpha ∷ gamma ∷ [])
    × PlanMeans (minus_tree (concept_tree beta) alpha_or_below) []

-- <100005:105000=#3 OR 104001=106004
-- <100005:105000=#3 OR 105000=#2
abbrev pub MeansEither : Type 0
MeansEither =
    PlanMeans (either_of (has type_u (number_test Equal three))
    (has type_t (within_test (concept_tree value_x)))) (beta ∷ gamma ∷ delta ∷ [])
    × PlanMeans (either_of (has type_u (number_test Equal three))
    (has type_u (number_test Equal two))) (delta ∷ [])

-- !!>(<100005)
-- !!>(100005 OR 103007)
-- !!<(<<100005)
-- >103007
-- >!103007
-- <!138875005
-- <<!100005
-- >>103007
-- >>!107008
abbrev pub MeansWalks : Type 0
MeansWalks =
    PlanMeans (walk_tree Top below_alpha) (beta ∷ gamma ∷ [])
    × PlanMeans top_query (alpha ∷ [])
    × PlanMeans (walk_tree Bottom alpha_or_below) (delta ∷ [])
    × PlanMeans ancestors_query (alpha ∷ beta ∷ gamma ∷ root ∷ [])
    × PlanMeans parents_query (beta ∷ gamma ∷ [])
    × PlanMeans (walk_tree Children (concept_tree root))
    (alpha ∷ type_t ∷ type_u ∷ value_x ∷ reference_set ∷ [])
    × PlanMeans (walk_tree ChildrenOrSelf (concept_tree alpha)) (alpha ∷ beta ∷ gamma ∷ [])
    × PlanMeans (walk_tree AncestorsOrSelf (concept_tree delta))
    (alpha ∷ beta ∷ gamma ∷ delta ∷ root ∷ [])
    × PlanMeans (walk_tree ParentsOrSelf (concept_tree value_y)) (value_x ∷ value_y ∷ [])

-- <<(101009 AND 102002)
-- <<101009 AND <<102002
-- < 100005 AND 101009
abbrev pub MeansOperands : Type 0
MeansOperands =
    PlanMeans walk_of_and_query []
    × PlanMeans (all_of (self_or_descendants_of beta ∷ self_or_descendants_of gamma ∷ []))
    (delta ∷ [])
    × PlanMeans (all_of (below_alpha ∷ concept_tree beta ∷ [])) (beta ∷ [])

-- neither number is a concept in force, and no count is both at least three and at most one
-- 109006
-- 999999
-- <100005:[3..1]105000=*
-- <100005:[0..*]105000=*
abbrev pub MeansEmptyAnswers : Type 0
MeansEmptyAnswers =
    PlanMeans (concept_tree 109006) []
    × PlanMeans (concept_tree 999999) []
    × PlanMeans (with_attribute below_alpha (counted (between 3 1) type_u any_concept)) []
    × PlanMeans (with_attribute below_alpha (counted (at_least 0) type_u any_concept))
    (beta ∷ gamma ∷ delta ∷ [])
