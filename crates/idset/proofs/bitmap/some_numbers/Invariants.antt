use Rattle.std.proofs.Common.{◌≡◌, ◌*◌, ◌-◌, drop, length, take}
use Rattle.number_lists.specs.Rising.{numbers_where}
use Rattle.idset.specs.Words.{is_set}
use Rattle.idset.proofs.bitmap.some_numbers.Given as goal

-- the numbers so far are the page of the words so far, and `left` of the numbers to skip stand in later words
abbrev pub invariant-loop-place : goal.invariant-loop-place
invariant-loop-place l =
    let done = numbers_where (64 * l.place) (is_set l.words) in
    record {
      told : l.numbers.items ≡ take l.most (drop l.skipped done);
      left : l.left ≡ l.skipped - length done;
    }
