use Rattle.std.proofs.Common.{◌≡◌, ◌-◌, ◌≤◌, false, length, take}
use Rattle.std.specs.Io.KnownBytes.{Appends}
use Rattle.streams.proofs.output.write_all.Given as goal

-- the first `at` bytes were written, and the output has not failed
abbrev pub invariant-loop-at : goal.invariant-loop-at
invariant-loop-at g l = record {
  within : l.at ≤ length l.bytes;
  not_failed : g.W.AnswerOutput.has_failed l.output ≡ false;
  bytes : Appends (g.W.AnswerOutput.written l.fn.output) (g.W.AnswerOutput.written l.output) (take l.at l.bytes);
}

-- the number of bytes that are not written yet falls with each turn
abbrev pub decreases-loop-at : goal.decreases-loop-at
decreases-loop-at g l = length l.bytes - l.at
