use Rattle.std.proofs.Common.{ℕ, ◌≡◌, ◌<◌, false, get_or, nat_eq}
use Rattle.postings.proofs.first_keys.place_among.Given as goal

-- the key stands at no place so far
abbrev pub invariant-loop-place : goal.invariant-loop-place
invariant-loop-place l = (k : ℕ) → k < l.place → nat_eq l.key (get_or l.keys k 0) ≡ false
