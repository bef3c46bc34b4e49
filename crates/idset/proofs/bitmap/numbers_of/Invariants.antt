use Rattle.std.proofs.Common.{◌≡◌, ◌*◌}
use Rattle.number_lists.specs.Rising.{numbers_where}
use Rattle.idset.specs.Words.{is_set}
use Rattle.idset.proofs.bitmap.numbers_of.Given as goal

abbrev pub invariant-loop-place : goal.invariant-loop-place
invariant-loop-place l = l.numbers.items ≡ numbers_where (64 * l.place) (is_set l.words)
