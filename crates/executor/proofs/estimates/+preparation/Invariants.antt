use Rattle.std.proofs.Common.{◌+◌, ◌*◌}
use Rattle.std.specs.Prelude.{⊤}
use Rattle.executor.proofs.estimates.+preparation.Given as goal

-- Termination: each call looks one level less deep, or at the same plan at an equal depth.
abbrev pub decreases-preparation : goal.decreases-preparation
decreases-preparation l = 3 * l.depth + 0

abbrev pub decreases-concept_key : goal.decreases-concept_key
decreases-concept_key l = 3 * l.depth + 1

abbrev pub decreases-least_key : goal.decreases-least_key
decreases-least_key l = 3 * l.depth + 2

abbrev pub decreases-sum_of_preparations : goal.decreases-sum_of_preparations
decreases-sum_of_preparations l = 3 * l.depth + 1

-- A key is any number, so no loop needs an invariant.
abbrev pub invariant-least_key-loop-part : goal.invariant-least_key-loop-part
invariant-least_key-loop-part l = ⊤

abbrev pub invariant-sum_of_preparations-loop-part : goal.invariant-sum_of_preparations-loop-part
invariant-sum_of_preparations-loop-part l = ⊤
