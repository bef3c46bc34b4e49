use Rattle.std.proofs.Common.{ℕ, ◌≡◌, drop}
use Rattle.idset.specs.Words.{numbers_in}
use Rattle.idset.proofs.bitmap.without_lowest.Given as goal

-- the lowest `counter` bits of the word that were set are cleared
abbrev pub invariant-loop : goal.invariant-loop
invariant-loop l = (first : ℕ) → numbers_in first l.left ≡ drop l.counter (numbers_in first l.word)
