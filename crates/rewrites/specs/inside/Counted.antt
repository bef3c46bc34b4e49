-- The cardinality of `Pairs` or `Units`, and the plan with another cardinality.
use Rattle.std.specs.Prelude.{Option, Some, None}
use Rattle.constraint_tree.specs.declared.operator.Cardinality.{Cardinality}
use Rattle.set_algebra.specs.Plan.{Plan, pairs_plan, groups_plan}

-- the cardinality of a `pairs_plan` or a `groups_plan`, or `None` for any other plan
abbrev pub count_of : Plan → Option Cardinality
count_of (pairs_plan back count types test) = Some count
count_of (groups_plan count units) = Some count
count_of plan = None

-- the `pairs_plan` or `groups_plan` with the cardinality `count`; any other plan stays unchanged
abbrev pub with_count : Cardinality → Plan → Plan
with_count count (pairs_plan back old types test) = pairs_plan back count types test
with_count count (groups_plan old units) = groups_plan count units
with_count count plan = plan
