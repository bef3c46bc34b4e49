use Rattle.std.proofs.Common.{arith}
use Rattle.set_algebra.specs.Lowering.{lowered}
use Rattle.query_tool.proofs.laws.executed_plans_are_not_deep.Goals as goal

-- a plan is at most as deep as its constraint allows, and simplifying does not deepen it
pub returns : goal.returns
returns c = λ text tree constraint. omega (
  arith,
  c.plans_are_as_deep_as_trees.ensures.most text tree constraint,
  c.simplified_plans_are_no_deeper.ensures (lowered tree),
)
