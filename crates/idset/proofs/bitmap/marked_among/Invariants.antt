use Rattle.std.proofs.Common.{◌≡◌, filter, take}
use Rattle.std.specs.Bool.{beq}
use Rattle.idset.specs.Words.{is_set}
use Rattle.idset.proofs.bitmap.marked_among.Given as goal

abbrev pub invariant-loop-number : goal.invariant-loop-number
invariant-loop-number l =
    l.kept.items ≡ filter (λ number. beq (is_set l.words number) l.wanted) (take l.number-index l.numbers)
