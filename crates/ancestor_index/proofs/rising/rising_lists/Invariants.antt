use Rattle.std.proofs.Common.{◌≡◌, map, take}
use Rattle.number_lists.specs.Rising.{listed_numbers}
use Rattle.ancestor_index.proofs.rising.rising_lists.Given as goal

-- the lists so far are sorted, without repeats
abbrev pub invariant-loop-key : goal.invariant-loop-key
invariant-loop-key l = l.rising ≡ map (listed_numbers l.bound) (take l.key l.lists)
