use Rattle.std.proofs.Common.{◌≡◌, ◌<◌, ℕ, List, Some, length, map}
use Rattle.release_files.specs.Held.{ReadsOn, reachable}
use Rattle.release_files.specs.PieceLines.{lines_to_come}
use Rattle.release_rows.specs.Files.{later_line}
use Rattle.release_rows.proofs.PiecesLemmas.{LinesLeft}
use Rattle.release_rows.proofs.pieces.take_later.Given as goal

-- after `turn` turns the lines left decide about all later lines, the source has taken no more than may be read, and
-- no failure was counted
abbrev pub invariant-loop-turn : goal.invariant-loop-turn
invariant-loop-turn g l = record {
  left : (rest : List ℕ) → reachable l.fn.lines.held.left (g.S.FileSource.rest l.fn.source) ≡ Some rest
      → length (lines_to_come l.fn.lines rest) < l.turns
      → LinesLeft g.T.PlaceTaker.takes g.T.PlaceTaker.refuses l.file l.kind l.initial.taker
      (map (later_line l.file l.kind) (lines_to_come l.fn.lines rest)) l.turns l.turn
      (reachable l.lines.held.left (g.S.FileSource.rest l.source)) l.lines l.taker;
  history : ReadsOn (g.S.FileSource.history l.fn.source) (g.S.FileSource.history l.source) l.fn.lines.held.left
      l.lines.held.left;
  files : g.S.FileSource.files l.source ≡ g.S.FileSource.files l.fn.source;
  failures : (g.S.FileSource.history l.source).failures ≡ (g.S.FileSource.history l.fn.source).failures;
}
