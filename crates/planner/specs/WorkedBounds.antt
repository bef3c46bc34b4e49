-- The choices, bounds and floors of four plans over the sample release: facts that follow by
-- computing. The comment above each plan has the text of its query, with identifiers in place of
-- names.
use Rattle.std.specs.Prelude.{ℕ, ◌≡◌, false, List, [], ◌∷◌}
use Rattle.constraint_tree.specs.declared.operator.Compare.TheVariants.{Greater}
use Rattle.constraint_tree.specs.Sample.{sample, alpha, type_t, type_u, value_x}
use Rattle.constraint_tree.specs.WorkedQueries.{at_least, two}
use Rattle.set_algebra.specs.Lowering.{both_plan}
use Rattle.set_algebra.specs.Plan.{Plan, all_plan, and_group_plan, groups_from, number_plan, one_plan, pairs_plan}
use Rattle.set_algebra.specs.Plan.{groups_plan, within_plan}
use Rattle.set_algebra.specs.WorkedPlans.{below_alpha_plan, u_group, x_group}
use Rattle.held_release.specs.AttributesBySource.{attributes_by_source}
use Rattle.ancestor_index.specs.HierarchyLists.{hierarchy_of}
use Rattle.postings.specs.Indexed.{Indexed, members_of}
use Rattle.postings.specs.Stats.{stats_in}
use Rattle.set_algebra.specs.declared.choice.Choice.{Choice}
use Rattle.set_algebra.specs.declared.choice.Choice.TheVariants.{ByValue, ByType}
use Rattle.plan_bounds.specs.Bounds.{bound, own_bounds}
use Rattle.planner.specs.Chosen.{chosen, least_choices}
use Rattle.plan_bounds.specs.Floors.{floor}

-- the indexes of the sample release, with the fields from which bounds follow; the others are empty
abbrev pub indexed_sample : Indexed
indexed_sample = record {
  concepts = sample.concepts;
  hierarchy = hierarchy_of sample;
  rows = attributes_by_source sample;
  members = members_of sample;
  decimals = [];
  texts = [];
}

-- the sample release has 10 concepts, 9 attribute rows, 8 groups, 15 pairs of a concept and an
-- ancestor, 10 is-a links and 2 members of reference sets
abbrev pub CountsSample : Type 0
CountsSample = stats_in indexed_sample ≡ record { n = 10; a = 9; g = 8; r = 15; l = 10; m = 2 }

-- over the sample release the plan has the choices `choices`, its nodes have the bounds `own`, and
-- the plan has the bound `most` and the floor `least`
pub record IsBounded (plan : Plan) (choices : List Choice) (own : List ℕ) (most least : ℕ) : Type 0
  where
    -- the choices of least bound are `choices`
    pub choices_are : least_choices indexed_sample plan ≡ choices
    -- the bounds of its nodes, a node before its children, are `own`
    pub own_bounds_are : own_bounds indexed_sample (chosen indexed_sample plan) ≡ own
    -- the bound is `most`
    pub bound_is : bound indexed_sample (chosen indexed_sample plan) ≡ most
    -- the floor is `least`
    pub floor_is : floor indexed_sample (chosen indexed_sample plan) ≡ least

-- the query <100005:104001=106004 has one leaf, answered by value; its bound is 17 and its floor 5
abbrev pub BoundsByValue : Type 0
BoundsByValue =
    IsBounded (both_plan below_alpha_plan
    (pairs_plan false (at_least 1) (one_plan type_t) (within_plan (one_plan value_x))))
    (ByValue ∷ []) (10 ∷ 4 ∷ 0 ∷ 3 ∷ 0 ∷ 0 ∷ []) 17 5

-- the query *:105000>#2 has one leaf, answered by type; its bound is 39 and its floor 6
abbrev pub BoundsByType : Type 0
BoundsByType =
    IsBounded (both_plan all_plan (pairs_plan false (at_least 1) (one_plan type_u)
    (number_plan Greater two)))
    (ByType ∷ []) (32 ∷ 0 ∷ 7 ∷ 0 ∷ []) 39 6

-- the query <100005:{104001=<<106004,105000=*} has two leaves, both answered by type; its bound is
-- 50 and its floor 13
abbrev pub BoundsInBraces : Type 0
BoundsInBraces =
    IsBounded (both_plan below_alpha_plan
    (groups_plan (at_least 1) (and_group_plan (groups_from (x_group ∷ u_group ∷ [])))))
    (ByType ∷ ByType ∷ []) (12 ∷ 4 ∷ 0 ∷ 3 ∷ 18 ∷ 4 ∷ 0 ∷ 2 ∷ 0 ∷ 7 ∷ 0 ∷ 0 ∷ []) 50 13

-- the query 100005,100005 is simplified to one concept without a leaf; its bound and its floor are
-- 0
abbrev pub BoundsOfOne : Type 0
BoundsOfOne = IsBounded (one_plan alpha) [] (0 ∷ []) 0 0
