-- A byte order mark is dropped from the bytes that are held.
use Rattle.std.proofs.Common.{◌∙◌, ap, arith, length, refl}
use Rattle.release_files.specs.declared.piece_lines.PieceLines.{PieceLines}
use Rattle.release_files.specs.declared.piece_lines.Stage.TheVariants.{Begun}
use Rattle.release_files.specs.Held.{reachable}
use Rattle.release_files.specs.Lines.{mark_length}
use Rattle.release_files.proofs.PieceLemmas.{begun_keeps}
use Rattle.release_files.proofs.piece_lines.PieceLines.begin.Goals as goal

-- dropping a byte order mark keeps the lines to come
pub returns-clause-kept : goal.returns-clause-kept
returns-clause-kept g c =
    let read = c.in_ok-read_at_least.ensures in
    let before = reachable c.args.self.now.held.left (g.S.FileSource.rest c.args.source.now) in
    let after = reachable c.read_at_least.new.self.left (g.S.FileSource.rest c.read_at_least.new.source) in
    let new : PieceLines =
    record { held = c.take.new.self; stage = Begun; number = 0; end = c.mark_length-mark.result } in
    rw c.take.ensures.left (begun_keeps c.args.self.now new before after c.read_at_least.new.self.bytes
    c.requires refl refl (c.mark_length-mark.ensures.value ∙ ap mark_length c.bytes.ensures)
    (omega (arith, c.mark_length-mark.ensures.within, ap length c.bytes.ensures))
    c.take.ensures.bytes read.enough read.kept)
