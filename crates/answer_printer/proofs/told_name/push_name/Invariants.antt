use Rattle.std.proofs.Common.{◌≡◌, ◌++◌, ◌∷◌, drop}
use Rattle.answer_printer.specs.ToldName.{told_name}
use Rattle.answer_printer.proofs.told_name.push_name.Given as goal

-- the line so far and the remaining bytes of the name make up the whole
abbrev pub invariant-loop-byte : goal.invariant-loop-byte
invariant-loop-byte l = l.line.items ++ told_name (drop l.byte-index l.name) ≡ l.fn.line.items ++ 32 ∷ told_name l.name
