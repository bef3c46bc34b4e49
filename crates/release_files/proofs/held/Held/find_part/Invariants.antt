use Rattle.std.proofs.Common.{◌≡◌, ◌-◌, ◌^◌, ◌≤◌, length, take}
use Rattle.release_files.specs.Held.{KeepsBytes, ReadsOn, TakesWithin, reachable}
use Rattle.release_files.specs.Lines.{HasNoFeed}
use Rattle.release_files.proofs.held.Held.find_part.Given as goal

-- no line feed is among the bytes that were searched, the bytes of the file are kept, and the source read within
-- bounds
abbrev pub invariant-loop-count : goal.invariant-loop-count
invariant-loop-count g l = record {
  within : l.searched ≤ length l.self.bytes;
  clear : HasNoFeed (take l.searched l.self.bytes);
  kept : KeepsBytes (reachable l.fn.self.left (g.S.FileSource.rest l.fn.source))
      (reachable l.self.left (g.S.FileSource.rest l.source)) l.fn.self.bytes l.self.bytes;
  bounded : TakesWithin (g.S.FileSource.rest l.fn.source) (g.S.FileSource.rest l.source) l.fn.self.left l.self.left;
  files : g.S.FileSource.files l.source ≡ g.S.FileSource.files l.fn.source;
  failures : (g.S.FileSource.history l.source).failures ≡ (g.S.FileSource.history l.fn.source).failures;
  history : ReadsOn (g.S.FileSource.history l.fn.source) (g.S.FileSource.history l.source) l.fn.self.left l.self.left;
}

-- the room up to 2^64 bytes falls as the bytes that are held grow
abbrev pub decreases-loop-count : goal.decreases-loop-count
decreases-loop-count g l = 2 ^ 64 - length l.self.bytes
