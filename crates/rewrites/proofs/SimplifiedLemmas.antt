-- A simplified plan means the same as the plan.
use Rattle.std.proofs.Common.{Option, Some, None}
use Rattle.std.proofs.Math.Path.{fun_ext}
use Rattle.std.specs.Prelude.{unwrap_or}
use Rattle.release_model.specs.Release.{Release}
use Rattle.set_algebra.specs.Plan.{Plan, empty_plan, all_plan, one_plan, walk_plan, members_plan, and_plan, or_plan}
use Rattle.set_algebra.specs.Plan.{minus_plan, values_plan, pairs_plan, groups_plan, Plans, no_plans, plan_then}
use Rattle.set_algebra.specs.Plan.{PlanOfGroups, nothing_group, every_group, and_group_plan, or_group_plan}
use Rattle.set_algebra.specs.Plan.{minus_group_plan, pairs_group_plan}
use Rattle.set_algebra.specs.Plan.{PlansOfGroups, no_group_plans, group_plan_then, TestPlan, within_plan, outside_plan}
use Rattle.set_algebra.specs.Plan.{number_plan}
use Rattle.rewrites.specs.declared.rule.Rule.{Rule}
use Rattle.rewrites.specs.declared.rule.Rule.TheVariants.{RangeAll, BraceOne, Same, Only}
use Rattle.rewrites.specs.Rules.{rewritten, rewritten_group}
use Rattle.rewrites.proofs.Equivalent.{AreEquivalent, AreEquivalentGroups, PassEquivalently, AreAllEquivalent}
use Rattle.rewrites.proofs.Equivalent.{AreAllEquivalentGroups}
use Rattle.rewrites.specs.Simplified.{tried, tried_group, shortened, shortened_group, simplified, all_simplified}
use Rattle.rewrites.specs.Simplified.{group_simplified, all_groups_simplified, test_simplified}
use Rattle.rewrites.proofs.RuleLemmas.{Keeps, plan_keeps}
use Rattle.rewrites.proofs.GroupRuleLemmas.{KeepsGroup, group_keeps}
use Rattle.rewrites.proofs.EquivalentLemmas.{plan_itself, group_itself, test_itself, plan_by_two, group_by_two}
use Rattle.rewrites.proofs.EquivalentLemmas.{walk_equivalent}
use Rattle.rewrites.proofs.EquivalentLemmas.{members_equivalent, and_equivalent, or_equivalent, minus_equivalent}
use Rattle.rewrites.proofs.EquivalentLemmas.{values_equivalent, pairs_equivalent}
use Rattle.rewrites.proofs.EquivalentLemmas.{groups_equivalent, within_equivalent, outside_equivalent}
use Rattle.rewrites.proofs.EquivalentLemmas.{and_groups_equivalent, or_groups_equivalent}
use Rattle.rewrites.proofs.EquivalentLemmas.{minus_groups_equivalent, group_pairs_equivalent}

-- a plan of concepts with a rule tried on it means the same if the rule keeps the meaning
or_itself : (plan : Plan) (made : Option Plan) → ((release : Release) → Keeps release plan made)
    → AreEquivalent plan (unwrap_or made plan)
or_itself plan None keeps = plan_itself plan
or_itself plan (Some new) keeps = record { mean = λ release. fun_ext (keeps release) }

-- a plan of concepts with a rule tried on it means the same
tried_keeps : (rule : Rule) (plan : Plan) → AreEquivalent plan (tried rule plan)
tried_keeps rule plan = or_itself plan (rewritten rule plan) (λ release. plan_keeps release rule plan)

-- a plan of concepts means the same after RangeAll, BraceOne, Same and Only, one after another
shortened_keeps : (plan : Plan) → AreEquivalent plan (shortened plan)
unfolding shortened
shortened_keeps plan =
    let first : Plan = tried RangeAll plan in
    let second : Plan = tried BraceOne first in
    let third : Plan = tried Same second in
    plan_by_two plan third (tried Only third)
    (plan_by_two plan second third (plan_by_two plan first second (tried_keeps RangeAll plan)
    (tried_keeps BraceOne first)) (tried_keeps Same second))
    (tried_keeps Only third)

-- a plan of concepts means the same as the shortened form of a plan that means the same
then_shortened : (old new : Plan) → AreEquivalent old new → AreEquivalent old (shortened new)
then_shortened old new equivalent = plan_by_two old new (shortened new) equivalent (shortened_keeps new)

-- a plan of groups with a rule tried on it means the same if the rule keeps the meaning
group_or_itself : (plan : PlanOfGroups) (made : Option PlanOfGroups)
    → ((release : Release) → KeepsGroup release plan made)
    → AreEquivalentGroups plan (unwrap_or made plan)
group_or_itself plan None keeps = group_itself plan
group_or_itself plan (Some new) keeps = record { mean = λ release. fun_ext (keeps release) }

group_tried_keeps : (rule : Rule) (plan : PlanOfGroups) → AreEquivalentGroups plan (tried_group rule plan)
group_tried_keeps rule plan =
    group_or_itself plan (rewritten_group rule plan) (λ release. group_keeps release rule plan)

group_shortened_keeps : (plan : PlanOfGroups) → AreEquivalentGroups plan (shortened_group plan)
unfolding shortened_group
group_shortened_keeps plan =
    let first : PlanOfGroups = tried_group RangeAll plan in
    let second : PlanOfGroups = tried_group Same first in
    group_by_two plan second (tried_group Only second)
    (group_by_two plan first second (group_tried_keeps RangeAll plan) (group_tried_keeps Same first))
    (group_tried_keeps Only second)

group_plan_then_shortened : (old new : PlanOfGroups) → AreEquivalentGroups old new
    → AreEquivalentGroups old (shortened_group new)
group_plan_then_shortened old new equivalent =
    group_by_two old new (shortened_group new) equivalent (group_shortened_keeps new)

-- simplifying the children, and then shortening the node itself, keeps the meaning
mutual
  -- a plan of concepts means the same after `simplified` as before, over every release
  pub simplified_keeps : (plan : Plan) → AreEquivalent plan (simplified plan)
  simplified_keeps empty_plan = shortened_keeps empty_plan
  simplified_keeps all_plan = shortened_keeps all_plan
  simplified_keeps (one_plan number) = shortened_keeps (one_plan number)
  simplified_keeps (walk_plan operator operand) =
      then_shortened _ _ (walk_equivalent operator operand (simplified operand) (simplified_keeps operand))
  simplified_keeps (members_plan operand) =
      then_shortened _ _ (members_equivalent operand (simplified operand) (simplified_keeps operand))
  simplified_keeps (and_plan parts) = then_shortened _ _ (and_equivalent parts (all_simplified parts) (all_keep parts))
  simplified_keeps (or_plan parts) = then_shortened _ _ (or_equivalent parts (all_simplified parts) (all_keep parts))
  simplified_keeps (minus_plan first second) =
      then_shortened _ _
      (minus_equivalent first (simplified first) second (simplified second) (simplified_keeps first)
      (simplified_keeps second))
  simplified_keeps (values_plan start names) =
      then_shortened _ _
      (values_equivalent start (simplified start) names (all_simplified names) (simplified_keeps start)
      (all_keep names))
  simplified_keeps (pairs_plan back count types test) =
      then_shortened _ _
      (pairs_equivalent back count types (simplified types) test (test_simplified test) (simplified_keeps types)
      (test_keeps test))
  simplified_keeps (groups_plan count units) =
      then_shortened _ _ (groups_equivalent count units (group_simplified units) (group_simplified_keeps units))

  all_keep : (parts : Plans) → AreAllEquivalent parts (all_simplified parts)
  all_keep no_plans = tt
  all_keep (plan_then first rest) = (simplified_keeps first, all_keep rest)

  group_simplified_keeps : (plan : PlanOfGroups) → AreEquivalentGroups plan (group_simplified plan)
  group_simplified_keeps nothing_group = group_shortened_keeps nothing_group
  group_simplified_keeps every_group = group_shortened_keeps every_group
  group_simplified_keeps (and_group_plan parts) =
      group_plan_then_shortened _ _ (and_groups_equivalent parts (all_groups_simplified parts) (all_groups_keep parts))
  group_simplified_keeps (or_group_plan parts) =
      group_plan_then_shortened _ _ (or_groups_equivalent parts (all_groups_simplified parts) (all_groups_keep parts))
  group_simplified_keeps (minus_group_plan first second) =
      group_plan_then_shortened _ _
      (minus_groups_equivalent first (group_simplified first) second (group_simplified second)
      (group_simplified_keeps first) (group_simplified_keeps second))
  group_simplified_keeps (pairs_group_plan count types test) =
      group_plan_then_shortened _ _
      (group_pairs_equivalent count types (simplified types) test (test_simplified test) (simplified_keeps types)
      (test_keeps test))

  all_groups_keep : (parts : PlansOfGroups) → AreAllEquivalentGroups parts (all_groups_simplified parts)
  all_groups_keep no_group_plans = tt
  all_groups_keep (group_plan_then first rest) = (group_simplified_keeps first, all_groups_keep rest)

  test_keeps : (test : TestPlan) → PassEquivalently test (test_simplified test)
  test_keeps (within_plan operand) = within_equivalent operand (simplified operand) (simplified_keeps operand)
  test_keeps (outside_plan operand) = outside_equivalent operand (simplified operand) (simplified_keeps operand)
  test_keeps (number_plan compare number) = test_itself (number_plan compare number)
