use Rattle.std.proofs.Common.{take}
use Rattle.ancestor_index.specs.Wide.{AreWide}
use Rattle.ancestor_index.proofs.wide.wide_lists.Given as goal

-- the long ones of the lists so far are kept as words
abbrev pub invariant-loop-concept : goal.invariant-loop-concept
invariant-loop-concept l = AreWide l.count (take l.concept l.lists) l.wide.ends.items l.wide.words.items
