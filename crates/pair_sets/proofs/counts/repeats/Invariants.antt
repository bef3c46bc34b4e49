use Rattle.std.proofs.Common.{ℕ, All, ◌≡◌, ◌-◌, ◌<◌, length, take}
use Rattle.number_lists.specs.Members.{has, times}
use Rattle.idset.specs.Words.{is_set, words_for}
use Rattle.pair_sets.proofs.counts.repeats.Given as goal

-- the numbers so far are marked, and all but the first of each are kept
abbrev pub invariant-loop-number : goal.invariant-loop-number
invariant-loop-number l = record {
  marked : (n : ℕ) → is_set l.seen.items n ≡ has (take l.number-index l.numbers) n;
  long : length l.seen.items ≡ words_for l.bound;
  within : All (λ n. n < l.bound) l.left.items;
  often : (n : ℕ) → times n l.left.items ≡ times n (take l.number-index l.numbers) - 1;
}
