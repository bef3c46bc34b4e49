-- Simplifying makes no plan deeper.
use Rattle.std.proofs.Common.{ℕ, ◌≤◌, Bool, true, false, Option, Some, None, arith}
use Rattle.std.specs.Prelude.{unwrap_or}
use Rattle.set_algebra.specs.Depth.{plan_depth, plans_depth, group_depth, groups_depth, test_depth}
use Rattle.set_algebra.specs.Equal.{same_plan, same_group}
use Rattle.set_algebra.specs.Plan.{Plan, empty_plan, all_plan, one_plan, walk_plan, members_plan, and_plan, or_plan}
use Rattle.set_algebra.specs.Plan.{minus_plan, values_plan, pairs_plan, groups_plan, Plans, no_plans, plan_then}
use Rattle.set_algebra.specs.Plan.{PlanOfGroups, nothing_group, every_group, and_group_plan, or_group_plan}
use Rattle.set_algebra.specs.Plan.{minus_group_plan, pairs_group_plan}
use Rattle.set_algebra.specs.Plan.{PlansOfGroups, no_group_plans, group_plan_then, TestPlan, within_plan, outside_plan}
use Rattle.set_algebra.specs.Plan.{number_plan}
use Rattle.rewrites.specs.Counts.{only_if, trivial_at}
use Rattle.rewrites.specs.Rules.{rewritten, rewritten_group}
use Rattle.rewrites.specs.Simplified.{tried, tried_group, shortened, shortened_group, simplified, all_simplified}
use Rattle.rewrites.specs.Simplified.{group_simplified, all_groups_simplified, test_simplified}
use Rattle.rewrites.specs.declared.rule.Rule.TheVariants.{RangeAll, BraceOne, Same, Only}

-- a plan of concepts, if there is one, is at most `depth` deep
abbrev NoDeeper : ℕ → Option Plan → Type 0
NoDeeper depth None = Unit {0}
NoDeeper depth (Some new) = plan_depth new ≤ depth

or_itself : (plan : Plan) (made : Option Plan) → NoDeeper (plan_depth plan) made
    → plan_depth (unwrap_or made plan) ≤ plan_depth plan
or_itself plan None sinks = omega arith
or_itself plan (Some new) sinks = sinks

if_made : (test : Bool) (new : Plan) (depth : ℕ) → plan_depth new ≤ depth → NoDeeper depth (only_if test new)
if_made true new depth sinks = sinks
if_made false new depth sinks = tt

trivial_made : (least : ℕ) (most : Option ℕ) (depth : ℕ) → 1 ≤ depth
    → NoDeeper depth (trivial_at all_plan empty_plan least most)
trivial_made least None depth some = if_made _ all_plan depth some
trivial_made least (Some most) depth some = if_made _ empty_plan depth some

range_all : (plan : Plan) → NoDeeper (plan_depth plan) (rewritten RangeAll plan)
range_all (pairs_plan back count types test) = trivial_made count.min count.max _ (omega arith)
range_all (groups_plan count units) = trivial_made count.min count.max _ (omega arith)
range_all other = tt

brace_one : (plan : Plan) → NoDeeper (plan_depth plan) (rewritten BraceOne plan)
brace_one (groups_plan count (pairs_group_plan some types test)) =
    if_made _ (pairs_plan false count types test) _ (omega arith)
brace_one other = tt

same_once : (plan : Plan) → NoDeeper (plan_depth plan) (rewritten Same plan)
same_once (and_plan (plan_then first (plan_then second rest))) =
    if_made (same_plan first second) (and_plan (plan_then first rest)) _ (omega arith)
same_once (or_plan (plan_then first (plan_then second rest))) =
    if_made (same_plan first second) (or_plan (plan_then first rest)) _ (omega arith)
same_once (minus_plan first second) = if_made (same_plan first second) empty_plan _ (omega arith)
same_once other = tt

only_one : (plan : Plan) → NoDeeper (plan_depth plan) (rewritten Only plan)
only_one (and_plan (plan_then only no_plans)) = omega arith
only_one (or_plan (plan_then only no_plans)) = omega arith
only_one other = tt

-- RangeAll, BraceOne, Same and Only, one after another, make no plan of concepts deeper
shortened_sinks : (plan : Plan) → plan_depth (shortened plan) ≤ plan_depth plan
unfolding shortened
shortened_sinks plan =
    let first : Plan = tried RangeAll plan in
    let second : Plan = tried BraceOne first in
    let third : Plan = tried Same second in
    omega (
      arith,
      or_itself plan (rewritten RangeAll plan) (range_all plan),
      or_itself first (rewritten BraceOne first) (brace_one first),
      or_itself second (rewritten Same second) (same_once second),
      or_itself third (rewritten Only third) (only_one third),
    )

-- a plan of groups, if there is one, is at most `depth` deep
abbrev NoDeeperGroup : ℕ → Option PlanOfGroups → Type 0
NoDeeperGroup depth None = Unit {0}
NoDeeperGroup depth (Some new) = group_depth new ≤ depth

group_or_itself : (plan : PlanOfGroups) (made : Option PlanOfGroups) → NoDeeperGroup (group_depth plan) made
    → group_depth (unwrap_or made plan) ≤ group_depth plan
group_or_itself plan None sinks = omega arith
group_or_itself plan (Some new) sinks = sinks

group_if_made : (test : Bool) (new : PlanOfGroups) (depth : ℕ) → group_depth new ≤ depth
    → NoDeeperGroup depth (only_if test new)
group_if_made true new depth sinks = sinks
group_if_made false new depth sinks = tt

group_trivial_made : (least : ℕ) (most : Option ℕ) (depth : ℕ) → 1 ≤ depth
    → NoDeeperGroup depth (trivial_at every_group nothing_group least most)
group_trivial_made least None depth some = group_if_made _ every_group depth some
group_trivial_made least (Some most) depth some = group_if_made _ nothing_group depth some

group_range_all : (plan : PlanOfGroups) → NoDeeperGroup (group_depth plan) (rewritten_group RangeAll plan)
group_range_all (pairs_group_plan count types test) = group_trivial_made count.min count.max _ (omega arith)
group_range_all other = tt

group_same_once : (plan : PlanOfGroups) → NoDeeperGroup (group_depth plan) (rewritten_group Same plan)
group_same_once (and_group_plan (group_plan_then first (group_plan_then second rest))) =
    group_if_made (same_group first second) (and_group_plan (group_plan_then first rest)) _ (omega arith)
group_same_once (or_group_plan (group_plan_then first (group_plan_then second rest))) =
    group_if_made (same_group first second) (or_group_plan (group_plan_then first rest)) _ (omega arith)
group_same_once (minus_group_plan first second) = group_if_made (same_group first second) nothing_group _ (omega arith)
group_same_once other = tt

group_only_one : (plan : PlanOfGroups) → NoDeeperGroup (group_depth plan) (rewritten_group Only plan)
group_only_one (and_group_plan (group_plan_then only no_group_plans)) = omega arith
group_only_one (or_group_plan (group_plan_then only no_group_plans)) = omega arith
group_only_one other = tt

group_shortened_sinks : (plan : PlanOfGroups) → group_depth (shortened_group plan) ≤ group_depth plan
unfolding shortened_group
group_shortened_sinks plan =
    let first : PlanOfGroups = tried_group RangeAll plan in
    let second : PlanOfGroups = tried_group Same first in
    omega (
      arith,
      group_or_itself plan (rewritten_group RangeAll plan) (group_range_all plan),
      group_or_itself first (rewritten_group Same first) (group_same_once first),
      group_or_itself second (rewritten_group Only second) (group_only_one second),
    )

-- simplifying the children, and then shortening the node itself, makes no plan deeper
mutual
  -- a plan of concepts is no deeper after `simplified` than before
  pub simplified_sinks : (plan : Plan) → plan_depth (simplified plan) ≤ plan_depth plan
  simplified_sinks empty_plan = shortened_sinks empty_plan
  simplified_sinks all_plan = shortened_sinks all_plan
  simplified_sinks (one_plan number) = shortened_sinks (one_plan number)
  simplified_sinks (walk_plan operator operand) =
      omega (arith, shortened_sinks (walk_plan operator (simplified operand)), simplified_sinks operand)
  simplified_sinks (members_plan operand) =
      omega (arith, shortened_sinks (members_plan (simplified operand)), simplified_sinks operand)
  simplified_sinks (and_plan parts) =
      omega (arith, shortened_sinks (and_plan (all_simplified parts)), all_sink parts)
  simplified_sinks (or_plan parts) =
      omega (arith, shortened_sinks (or_plan (all_simplified parts)), all_sink parts)
  simplified_sinks (minus_plan first second) =
      omega (
        arith,
        shortened_sinks (minus_plan (simplified first) (simplified second)),
        simplified_sinks first,
        simplified_sinks second,
      )
  simplified_sinks (values_plan start names) =
      omega (
        arith,
        shortened_sinks (values_plan (simplified start) (all_simplified names)),
        simplified_sinks start,
        all_sink names,
      )
  simplified_sinks (pairs_plan back count types test) =
      omega (
        arith,
        shortened_sinks (pairs_plan back count (simplified types) (test_simplified test)),
        simplified_sinks types,
        test_sinks test,
      )
  simplified_sinks (groups_plan count units) =
      omega (arith, shortened_sinks (groups_plan count (group_simplified units)), group_sinks units)

  all_sink : (parts : Plans) → plans_depth (all_simplified parts) ≤ plans_depth parts
  all_sink no_plans = omega arith
  all_sink (plan_then first rest) = omega (arith, simplified_sinks first, all_sink rest)

  group_sinks : (plan : PlanOfGroups) → group_depth (group_simplified plan) ≤ group_depth plan
  group_sinks nothing_group = group_shortened_sinks nothing_group
  group_sinks every_group = group_shortened_sinks every_group
  group_sinks (and_group_plan parts) =
      omega (arith, group_shortened_sinks (and_group_plan (all_groups_simplified parts)), all_groups_sink parts)
  group_sinks (or_group_plan parts) =
      omega (arith, group_shortened_sinks (or_group_plan (all_groups_simplified parts)), all_groups_sink parts)
  group_sinks (minus_group_plan first second) =
      omega (
        arith,
        group_shortened_sinks (minus_group_plan (group_simplified first) (group_simplified second)),
        group_sinks first,
        group_sinks second,
      )
  group_sinks (pairs_group_plan count types test) =
      omega (
        arith,
        group_shortened_sinks (pairs_group_plan count (simplified types) (test_simplified test)),
        simplified_sinks types,
        test_sinks test,
      )

  all_groups_sink : (parts : PlansOfGroups) → groups_depth (all_groups_simplified parts) ≤ groups_depth parts
  all_groups_sink no_group_plans = omega arith
  all_groups_sink (group_plan_then first rest) = omega (arith, group_sinks first, all_groups_sink rest)

  test_sinks : (test : TestPlan) → test_depth (test_simplified test) ≤ test_depth test
  test_sinks (within_plan operand) = simplified_sinks operand
  test_sinks (outside_plan operand) = simplified_sinks operand
  test_sinks (number_plan compare number) = omega arith
