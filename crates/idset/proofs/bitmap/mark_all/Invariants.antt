use Rattle.std.proofs.Common.{ℕ, ◌≡◌, ◌||◌, take}
use Rattle.number_lists.specs.Members.{has}
use Rattle.idset.specs.Words.{is_set}
use Rattle.idset.proofs.bitmap.mark_all.Given as goal

abbrev pub invariant-loop-number : goal.invariant-loop-number
invariant-loop-number l = (n : ℕ) → is_set l.words n ≡ (is_set l.fn.words n || has (take l.number-index l.numbers) n)
