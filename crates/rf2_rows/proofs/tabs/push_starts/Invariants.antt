use Rattle.std.proofs.Common.{◌+◌, ◌-◌}
use Rattle.rf2_rows.specs.inside.Starts.{IsCutAmong, start_at}
use Rattle.rf2_rows.proofs.tabs.push_starts.Given as goal

-- the fields before the next start are cut, and the bits are the tabs from there on
abbrev pub invariant-loop-left : goal.invariant-loop-left
invariant-loop-left l = IsCutAmong l.line l.starts l.count l.from l.left

-- the next start comes nearer to the end of the 64 bytes
abbrev pub decreases-loop-left : goal.decreases-loop-left
decreases-loop-left l = l.from + 65 - start_at l.starts l.count
