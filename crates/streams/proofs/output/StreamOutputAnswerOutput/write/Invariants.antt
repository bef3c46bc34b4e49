use Rattle.std.proofs.Common.{◌≡◌}
use Rattle.std.specs.Io.KnownBytes.{Keeps}
use Rattle.streams.proofs.output.StreamOutputAnswerOutput.write.Given as goal

-- an interrupted write adds no byte to the stream, and is no failure
abbrev pub invariant-loop : goal.invariant-loop
invariant-loop g l = record {
  bytes : Keeps (g.W.Write.contents l.fn.self.stream) (g.W.Write.contents l.self.stream);
  failure : l.self.failed ≡ l.fn.self.failed;
}
