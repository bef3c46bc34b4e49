use Rattle.std.proofs.Common.{◌≡◌, map, take, string_bytes}
use Rattle.text_parts.specs.Parts.{texts_of}
use Rattle.command_line.proofs.words.copies.Given as goal

-- the copies so far are the texts so far
abbrev pub invariant-loop-text : goal.invariant-loop-text
invariant-loop-text l = map string_bytes l.copies.items ≡ texts_of (take l.text-index l.texts)
