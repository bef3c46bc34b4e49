-- Plans that mean the same over every release, lists of such plans index by index, and tests that let the same
-- values pass.
use Rattle.std.specs.Prelude.{◌≡◌}
use Rattle.release_model.specs.Release.{Release}
use Rattle.set_algebra.specs.Meaning.{means, group_means, value_passes}
use Rattle.set_algebra.specs.Plan.{Plan, Plans, no_plans, plan_then, PlanOfGroups, PlansOfGroups, no_group_plans}
use Rattle.set_algebra.specs.Plan.{group_plan_then}
use Rattle.set_algebra.specs.Plan.{TestPlan}

-- two plans of concepts mean the same set over every release
pub record AreEquivalent (old new : Plan) : Type 0 where
  -- over each release a concept is in the set of one plan exactly if it is in that of the other
  pub mean : (release : Release) → means release old ≡ means release new

-- two plans of groups mean the same set over every release
pub record AreEquivalentGroups (old new : PlanOfGroups) : Type 0 where
  -- over each release a group is in the set of one plan exactly if it is in that of the other
  pub mean : (release : Release) → group_means release old ≡ group_means release new

-- over every release, a value passes one of two tests exactly if it passes the other
pub record PassEquivalently (old new : TestPlan) : Type 0 where
  -- over each release a value passes one test exactly if it passes the other
  pub pass : (release : Release) → value_passes release old ≡ value_passes release new

-- two lists of plans of concepts have the same length, and the plans at each index mean the same set over every
-- release
abbrev pub AreAllEquivalent : Plans → Plans → Type 0
AreAllEquivalent no_plans no_plans = Unit {0}
AreAllEquivalent (plan_then old olds) (plan_then new news) = AreEquivalent old new × AreAllEquivalent olds news
AreAllEquivalent olds news = ⊥

-- two lists of plans of groups have the same length, and the plans at each index mean the same set over every release
abbrev pub AreAllEquivalentGroups : PlansOfGroups → PlansOfGroups → Type 0
AreAllEquivalentGroups no_group_plans no_group_plans = Unit {0}
AreAllEquivalentGroups (group_plan_then old olds) (group_plan_then new news) =
    AreEquivalentGroups old new × AreAllEquivalentGroups olds news
AreAllEquivalentGroups olds news = ⊥
