use Rattle.std.proofs.Common.{◌+◌, ◌*◌}
use Rattle.std.specs.Prelude.{⊤}
use Rattle.executor.proofs.estimates.+group_preparation.Given as goal

-- Termination: each call looks one level less deep, or at a part of the node at an equal depth.
abbrev pub decreases-group_preparation : goal.decreases-group_preparation
decreases-group_preparation l = 2 * l.depth + 0

abbrev pub decreases-sum_of_group_preparations : goal.decreases-sum_of_group_preparations
decreases-sum_of_group_preparations l = 2 * l.depth + 1

-- A sum of estimates is any number, so the loop needs no invariant.
abbrev pub invariant-sum_of_group_preparations-loop-part : goal.invariant-sum_of_group_preparations-loop-part
invariant-sum_of_group_preparations-loop-part l = ⊤
