use Rattle.std.proofs.Common.{◌≡◌, ◌%◌, eqb}
use Rattle.number_lists.specs.Rising.{numbers_where}
use Rattle.release_tests.proofs.set_tests.multiples.Given as goal

-- the numbers so far that are multiples are there
abbrev pub invariant-loop-number : goal.invariant-loop-number
invariant-loop-number l = l.multiples.items ≡ numbers_where l.number (λ number. eqb (number % l.of) 0)
