use Rattle.std.proofs.Common.{◌≡◌, filter, nat_lt, not, take}
use Rattle.release_rows.proofs.repeated.keys_from.Given as goal

-- the list has those of the keys so far that are not below `bound`
abbrev pub invariant-loop-key : goal.invariant-loop-key
invariant-loop-key l = l.others.items ≡ filter (λ key. not (nat_lt key l.bound)) (take l.key-index l.keys)
