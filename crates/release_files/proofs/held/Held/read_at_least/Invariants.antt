use Rattle.std.proofs.Common.{◌≡◌, ◌-◌, length}
use Rattle.release_files.specs.Held.{KeepsBytes, ReadsOn, TakesWithin, reachable}
use Rattle.release_files.proofs.held.Held.read_at_least.Given as goal

-- the bytes of the file are kept, and the source read within bounds and failed nowhere
abbrev pub invariant-loop-self : goal.invariant-loop-self
invariant-loop-self g l = record {
  kept : KeepsBytes (reachable l.fn.self.left (g.S.FileSource.rest l.fn.source))
      (reachable l.self.left (g.S.FileSource.rest l.source)) l.fn.self.bytes l.self.bytes;
  bounded : TakesWithin (g.S.FileSource.rest l.fn.source) (g.S.FileSource.rest l.source) l.fn.self.left l.self.left;
  files : g.S.FileSource.files l.source ≡ g.S.FileSource.files l.fn.source;
  failures : (g.S.FileSource.history l.source).failures ≡ (g.S.FileSource.history l.fn.source).failures;
  history : ReadsOn (g.S.FileSource.history l.fn.source) (g.S.FileSource.history l.source) l.fn.self.left l.self.left;
}

-- the number of bytes that are missing falls with each turn
abbrev pub decreases-loop-self : goal.decreases-loop-self
decreases-loop-self g l = l.count - length l.self.bytes
