use Rattle.std.proofs.Common.{◌≡◌, filter, nat_lt, take}
use Rattle.release_rows.proofs.repeated.keys_below.Given as goal

-- the list has those of the keys so far that are below `bound`
abbrev pub invariant-loop-key : goal.invariant-loop-key
invariant-loop-key l = l.below.items ≡ filter (λ key. nat_lt key l.bound) (take l.key-index l.keys)
