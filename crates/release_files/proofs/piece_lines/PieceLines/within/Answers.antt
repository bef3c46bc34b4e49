-- A reader holds nothing of a new file.
use Rattle.release_files.proofs.PieceLemmas.{fresh_lines}
use Rattle.release_files.proofs.piece_lines.PieceLines.within.Goals as goal

-- the lines to come of a file of which nothing was read are its lines
pub returns-clause-lines : goal.returns-clause-lines
returns-clause-lines c bytes short = fresh_lines c.new.result.bytes bytes c.new.ensures.bytes short
