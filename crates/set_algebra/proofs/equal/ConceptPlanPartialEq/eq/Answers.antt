use Rattle.std.proofs.lemmas.Bool.Decides.{same_from_decides}
use Rattle.set_algebra.specs.EqualLaws.{decides_plan}
use Rattle.set_algebra.specs.Plan.{plan_of}
use Rattle.set_algebra.proofs.equal.ConceptPlanPartialEq.eq.Goals as goal

-- `==` on a plan of concepts returns what `same_plan` says of the data
pub returns-clause-test : goal.returns-clause-test
returns-clause-test c =
    same_from_decides _ _ c.same.ensures (decides_plan (plan_of c.args.self.now) (plan_of c.args.other.now))
