use Rattle.std.proofs.Common.{◌-◌, length}
use Rattle.rf2_rows.specs.inside.Starts.{IsCutUpTo}
use Rattle.rf2_rows.proofs.tabs.find_starts.Given as goal

-- the fields that end before byte `looked` are cut
abbrev pub invariant-loop-looked : goal.invariant-loop-looked
invariant-loop-looked l = IsCutUpTo l.line l.starts l.count l.looked

-- the distance from `looked` to the end of the line gets less
abbrev pub decreases-loop-looked : goal.decreases-loop-looked
decreases-loop-looked l = length l.line - l.looked
