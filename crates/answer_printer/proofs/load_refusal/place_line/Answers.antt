use Rattle.std.proofs.Common.{append_assoc, append-nil, arith}
use Rattle.answer_printer.proofs.load_refusal.place_line.Goals as goal

-- the line has the words of kind, name and line number
pub returns : goal.returns
returns c = grind (arith, append_assoc, append-nil)
