-- The law is a lemma of `Parts`.
use Rattle.release_files.proofs.Parts as parts
use Rattle.release_files.proofs.lines.parts_are_lines.Goals as goal

-- the parts of a text are the only way to cut it into lines
pub returns : goal.returns
returns c = parts.parts_are_lines
