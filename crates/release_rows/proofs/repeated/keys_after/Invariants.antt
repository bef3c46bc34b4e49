-- Each key so far occurs at most once more than among the late ones, and none is above the highest.
use Rattle.std.proofs.Common.{◌≤◌, take, All}
use Rattle.release_rows.proofs.NeighbourLemmas.{AreAfter}
use Rattle.release_rows.proofs.repeated.keys_after.Given as goal

-- each key so far occurs at most once more than in `following`, and none is above `highest`
abbrev pub invariant-loop-key : goal.invariant-loop-key
invariant-loop-key l = record {
  following : AreAfter (take l.key-index l.keys) l.following.items;
  highest : All (λ key. key ≤ l.highest) (take l.key-index l.keys);
}
