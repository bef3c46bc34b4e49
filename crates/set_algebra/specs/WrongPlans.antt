-- Plans that look as if they meant the same as the plan of a query, but mean other concepts in the
-- sample release. The comment above such a plan has the text of the query.
use Rattle.std.specs.Prelude.{ℕ, ◌≡◌, ◌≢◌, false, List, [], ◌∷◌}
use Rattle.constraint_tree.specs.Tree.{Tree, one_set}
use Rattle.constraint_tree.specs.Sample.{sample, beta, gamma, delta, type_t, type_u}
use Rattle.constraint_tree.specs.WorkedQueries.{below_alpha, at_least, braces_query, two_groups_query, with_braces}
use Rattle.constraint_tree.specs.WorkedQueries.{finds_u}
use Rattle.set_algebra.specs.Lowering.{lowered, both_plan}
use Rattle.set_algebra.specs.Meaning.{meaning}
use Rattle.set_algebra.specs.Plan.{Plan, all_plan, one_plan, and_plan, or_plan, pairs_plan, groups_plan, plans_from}
use Rattle.set_algebra.specs.Plan.{PlanOfGroups, pairs_group_plan, within_plan}
use Rattle.set_algebra.specs.WorkedPlans.{below_alpha_plan, x_group, u_group}

-- in the sample release the plan of `query` means the concepts of `right`, `plan` means those of
-- `wrong`, and these two lists differ
abbrev pub Misplans : Tree → Plan → List ℕ → List ℕ → Type 0
Misplans query plan right wrong =
    (meaning sample (lowered query) ≡ right) × (meaning sample plan ≡ wrong) × (right ≢ wrong)

-- the plan that reads `{ a , b }` as `{ a }` and `{ b }`: each attribute in any group
-- <100005:{104001=<<106004,105000=*}
abbrev pub split_braces_plan : Plan
split_braces_plan =
    both_plan below_alpha_plan
    (and_plan (plans_from (groups_plan (at_least 1) x_group ∷ groups_plan (at_least 1) u_group
    ∷ [])))

-- the plan with split braces also means Gamma and Delta, which the query does not denote
abbrev pub MisplansSplitBraces : Type 0
MisplansSplitBraces = Misplans braces_query split_braces_plan (beta ∷ [])
    (beta ∷ gamma ∷ delta ∷ [])

-- the groups that have the attribute T
abbrev pub t_group : PlanOfGroups
t_group = pairs_group_plan (at_least 1) (one_plan type_t) (within_plan all_plan)

-- the plan that reads `[2..*] { a OR b }` as `[2..*] { a }` or `[2..*] { b }`: two groups that
-- satisfy the same one of a and b. The query is <100005:[2..*]{104001=* OR 105000=*}
abbrev pub spread_count_plan : Plan
spread_count_plan =
    both_plan below_alpha_plan
    (or_plan (plans_from (groups_plan (at_least 2) t_group ∷ groups_plan (at_least 2) u_group
    ∷ [])))

-- the plan with the count moved into the `OR` misses Gamma, which the query denotes
abbrev pub MisplansSpreadCount : Type 0
MisplansSpreadCount = Misplans two_groups_query spread_count_plan (gamma ∷ delta ∷ []) (delta ∷ [])

-- the plan that reads `[2..*] { a }` as `[2..*] a`: two pairs, in any groups
-- <100005:[2..*]{105000=*}
abbrev pub no_braces_plan : Plan
no_braces_plan = both_plan below_alpha_plan
    (pairs_plan false (at_least 2) (one_plan type_u) (within_plan all_plan))

-- the plan without braces misses Delta, which the query denotes
abbrev pub MisplansCountOfBraces : Type 0
MisplansCountOfBraces = Misplans (with_braces below_alpha (at_least 2) (one_set finds_u))
    no_braces_plan (delta ∷ []) []
