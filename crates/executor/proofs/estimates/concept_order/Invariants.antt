use Rattle.std.proofs.Common.{◌≡◌, map}
use Rattle.std.specs.List.{range_with_len}
use Rattle.executor.proofs.estimates.concept_order.Given as goal

-- the places so far are those before `place`
abbrev pub invariant-loop-place : goal.invariant-loop-place
invariant-loop-place l = map (λ item. item.1) l.order.items ≡ range_with_len 0 l.place
