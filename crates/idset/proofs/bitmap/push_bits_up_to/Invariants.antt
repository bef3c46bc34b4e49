use Rattle.std.proofs.Common.{◌≡◌, ◌≤◌, ◌++◌, length}
use Rattle.idset.specs.Words.{numbers_in}
use Rattle.idset.proofs.bitmap.push_bits_up_to.Given as goal

-- the numbers so far and those of the bits that are left are all numbers
abbrev pub invariant-loop-left : goal.invariant-loop-left
invariant-loop-left l = record {
  told : l.numbers.items ++ numbers_in l.first l.left ≡ l.fn.numbers.items ++ numbers_in l.first l.word;
  within : length l.numbers.items ≤ l.most;
}

abbrev pub decreases-loop-left : goal.decreases-loop-left
decreases-loop-left l = l.left
