use Rattle.std.proofs.lemmas.Bool.Decides.{same_from_decides}
use Rattle.set_algebra.specs.EqualLaws.{decides_test}
use Rattle.set_algebra.specs.Plan.{test_plan_of}
use Rattle.set_algebra.proofs.equal.ValueTestPartialEq.eq.Goals as goal

-- `==` on a test returns what `same_test` says of the data
pub returns-clause-test : goal.returns-clause-test
returns-clause-test c =
    same_from_decides _ _ c.same_value_test.ensures
    (decides_test (test_plan_of c.args.self.now) (test_plan_of c.args.other.now))
