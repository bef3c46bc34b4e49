use Rattle.std.proofs.lemmas.Bool.Decides.{same_from_decides}
use Rattle.set_algebra.specs.EqualLaws.{decides_group}
use Rattle.set_algebra.specs.Plan.{group_plan_of}
use Rattle.set_algebra.proofs.equal.UnitPlanPartialEq.eq.Goals as goal

-- `==` on a plan of groups returns what `same_group` says of the data
pub returns-clause-test : goal.returns-clause-test
returns-clause-test c =
    same_from_decides _ _ c.same_group_plan.ensures
    (decides_group (group_plan_of c.args.self.now) (group_plan_of c.args.other.now))
