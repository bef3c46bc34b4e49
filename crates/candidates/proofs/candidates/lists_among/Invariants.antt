use Rattle.std.proofs.Common.{take}
use Rattle.candidates.specs.Extents.{AreListed}
use Rattle.candidates.proofs.candidates.lists_among.Given as goal

-- `lists` gives upper limits for the lists of the concepts so far
abbrev pub invariant-loop-concept : goal.invariant-loop-concept
invariant-loop-concept l = AreListed l.reader.indexes.now.hierarchy (take l.concept-index l.concepts) l.lists
