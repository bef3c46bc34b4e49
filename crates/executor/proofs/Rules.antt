-- Sets of lemmas that functions name.
use Rattle.set_algebra.proofs.PhysicalLemmas.{physical_of-And, physical_of-Or, physical_of-Values}
use Rattle.set_algebra.proofs.PhysicalLemmas.{physical_groups_of-And}
use Rattle.set_algebra.proofs.PhysicalLemmas.{physical_groups_of-Or}
use Rattle.set_algebra.proofs.PlanLemmas.{plan_of-And, plan_of-Or, plan_of-Values, group_plan_of-And, group_plan_of-Or}

-- lemmas for the functions that go from a node to its parts
pub ruleset node_parts = (
  plan_of-And,
  plan_of-Or,
  plan_of-Values,
  group_plan_of-And,
  group_plan_of-Or,
  physical_of-And,
  physical_of-Or,
  physical_of-Values,
  physical_groups_of-And,
  physical_groups_of-Or,
)
