use Rattle.std.proofs.Common.{ℕ, All, ◌≡◌, ◌-◌, ◌<◌, ◌≤◌}
use Rattle.number_lists.specs.Members.{times}
use Rattle.pair_sets.proofs.counts.repeated.Given as goal

-- `done` of each number are taken
abbrev pub invariant-loop-done : goal.invariant-loop-done
invariant-loop-done l = record {
  within : All (λ n. n < l.bound) l.left.items;
  often : (n : ℕ) → times n l.left.items ≡ times n l.numbers - l.done;
  some : 0 < l.done;
  most : l.done ≤ l.less;
}

-- how many turns are left at most
abbrev pub decreases-loop-done : goal.decreases-loop-done
decreases-loop-done l = l.less - l.done
