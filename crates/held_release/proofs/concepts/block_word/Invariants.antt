use Rattle.std.proofs.Common.{ℕ, ◌≤◌, ◌-◌, length}
use Rattle.held_release.proofs.BlockLemmas.{AreCounted}
use Rattle.held_release.proofs.concepts.block_word.Given as goal

-- the bits are those of the blocks up to that of the last identifier seen, each of which starts where they say
abbrev pub invariant-loop-block : goal.invariant-loop-block
invariant-loop-block l = (k : ℕ) × (k ≤ 64) × AreCounted l.ids l.first l.start l.bits l.place k

abbrev pub decreases-loop-block : goal.decreases-loop-block
decreases-loop-block l = length l.ids - l.place
