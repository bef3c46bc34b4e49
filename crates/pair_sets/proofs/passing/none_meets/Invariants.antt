use Rattle.std.proofs.Common.{ℕ, ◌≡◌, ◌<◌, false, get_or, pos}
use Rattle.std.specs.Ordering.{int_cmp}
use Rattle.pair_sets.specs.Tested.{meets}
use Rattle.pair_sets.proofs.passing.none_meets.Given as goal

-- none of the decimals so far meets the comparison
abbrev pub invariant-loop-place : goal.invariant-loop-place
invariant-loop-place l =
    (k : ℕ) → k < l.place
    → meets l.compare (int_cmp (get_or l.reader.indexes.now.decimals k (pos 0)) l.number.0) ≡ false
