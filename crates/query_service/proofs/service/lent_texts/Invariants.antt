-- The texts so far and those to come are all texts.
use Rattle.std.proofs.Common.{◌≡◌, ◌++◌, drop, map, string_bytes}
use Rattle.text_parts.specs.Parts.{texts_of}
use Rattle.query_service.proofs.service.lent_texts.Given as goal

-- the texts lent so far and the texts to come are all texts
abbrev pub invariant-loop-text : goal.invariant-loop-text
invariant-loop-text l =
    texts_of l.lent.items ++ map string_bytes (drop l.text-index l.texts) ≡ map string_bytes l.texts
