use Rattle.std.specs.Io.KnownBytes.{Keeps}
use Rattle.streams.proofs.folder.read_some.Given as goal

-- an interrupted read takes no byte of the file
abbrev pub invariant-loop : goal.invariant-loop
invariant-loop g l = record { bytes : Keeps (g.F.Read.remaining l.fn.file) (g.F.Read.remaining l.file) }
