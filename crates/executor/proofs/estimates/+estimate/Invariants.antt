use Rattle.std.proofs.Common.{◌+◌, ◌*◌}
use Rattle.std.specs.Prelude.{⊤}
use Rattle.executor.proofs.estimates.+estimate.Given as goal

-- Termination: each call looks one level less deep, or at a part of the node at an equal depth.
abbrev pub decreases-estimate : goal.decreases-estimate
decreases-estimate l = 3 * l.depth + 0

abbrev pub decreases-group_estimate : goal.decreases-group_estimate
decreases-group_estimate l = 3 * l.depth + 0

abbrev pub decreases-rows_with_types : goal.decreases-rows_with_types
decreases-rows_with_types l = 3 * l.depth + 1

abbrev pub decreases-rows_with_values : goal.decreases-rows_with_values
decreases-rows_with_values l = 3 * l.depth + 1

abbrev pub decreases-least_of : goal.decreases-least_of
decreases-least_of l = 3 * l.depth + 1

abbrev pub decreases-sum_of : goal.decreases-sum_of
decreases-sum_of l = 3 * l.depth + 1

abbrev pub decreases-sum_of_walks : goal.decreases-sum_of_walks
decreases-sum_of_walks l = 3 * l.depth + 1

abbrev pub decreases-least_group_estimate : goal.decreases-least_group_estimate
decreases-least_group_estimate l = 3 * l.depth + 1

abbrev pub decreases-sum_of_group_estimates : goal.decreases-sum_of_group_estimates
decreases-sum_of_group_estimates l = 3 * l.depth + 1

abbrev pub decreases-estimate_of_rows : goal.decreases-estimate_of_rows
decreases-estimate_of_rows l = 3 * l.depth + 2

abbrev pub decreases-estimate_of_values : goal.decreases-estimate_of_values
decreases-estimate_of_values l = 3 * l.depth + 2

-- An estimate is any number, so no loop needs an invariant.
abbrev pub invariant-estimate_of_values-loop-name : goal.invariant-estimate_of_values-loop-name
invariant-estimate_of_values-loop-name l = ⊤

abbrev pub invariant-least_group_estimate-loop-part : goal.invariant-least_group_estimate-loop-part
invariant-least_group_estimate-loop-part l = ⊤

abbrev pub invariant-least_of-loop-part : goal.invariant-least_of-loop-part
invariant-least_of-loop-part l = ⊤

abbrev pub invariant-sum_of-loop-part : goal.invariant-sum_of-loop-part
invariant-sum_of-loop-part l = ⊤

abbrev pub invariant-sum_of_group_estimates-loop-part : goal.invariant-sum_of_group_estimates-loop-part
invariant-sum_of_group_estimates-loop-part l = ⊤

abbrev pub invariant-sum_of_walks-loop-part : goal.invariant-sum_of_walks-loop-part
invariant-sum_of_walks-loop-part l = ⊤
