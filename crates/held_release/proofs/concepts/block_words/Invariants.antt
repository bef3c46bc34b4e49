use Rattle.std.proofs.Common.{◌-◌, length}
use Rattle.held_release.specs.inside.Blocks.{AreBlockWords}
use Rattle.held_release.proofs.concepts.block_words.Given as goal

-- the words so far count the first blocks
abbrev pub invariant-loop-words : goal.invariant-loop-words
invariant-loop-words l = AreBlockWords l.ids l.words.items l.counted

abbrev pub decreases-loop-words : goal.decreases-loop-words
decreases-loop-words l = 65536 - length l.words.items
