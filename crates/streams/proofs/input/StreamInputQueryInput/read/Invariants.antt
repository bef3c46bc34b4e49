use Rattle.std.proofs.Common.{◌≡◌, ◌+◌, ◌-◌, ◌^◌, min}
use Rattle.std.specs.Io.KnownBytes.{Keeps}
use Rattle.streams.proofs.input.StreamInputQueryInput.read.Given as goal

-- an interrupted read takes no byte of the stream, and the read is counted once, without a failure
abbrev pub invariant-loop : goal.invariant-loop
invariant-loop g l = record {
  bytes : Keeps (g.R.Read.remaining l.fn.self.stream) (g.R.Read.remaining l.self.stream);
  counted : l.self.reads ≡ min (l.fn.self.reads + 1) (2 ^ 64 - 1);
  failure : l.self.failed ≡ l.fn.self.failed;
}
