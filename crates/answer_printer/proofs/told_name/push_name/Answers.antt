use Rattle.std.proofs.Common.{◌∙◌, ◌++◌, List, ℕ, ap, get_or, refl}
use Rattle.answer_printer.specs.ToldName.{told_byte, told_name}
use Rattle.answer_printer.proofs.AnswerLemmas.{text_end, text_turn}
use Rattle.answer_printer.proofs.told_name.push_name.Goals as goal

-- one byte more of the name is told
pub loop-byte-preserved : goal.loop-byte-preserved
loop-byte-preserved c =
    let same = c.as_bytes-byte-items.ensures.value in
    let so_far = c.loop-byte.line.items in
    text_turn told_name c.args.name.now c.loop-byte.byte-index so_far _ c.loop-byte.invariant 0
    (told_byte (get_or c.args.name.now c.loop-byte.byte-index 0)) c.push_byte.new.line.items
    (rw same at c.loop-byte-test.true) refl
    (c.in_ok-push_byte.ensures
    ∙ ap (λ (bytes : List ℕ). so_far ++ told_byte (get_or bytes c.loop-byte.byte-index 0)) same)

-- after the last byte the whole name is told
pub returns : goal.returns
returns c =
    text_end told_name c.args.name.now c.loop-byte.byte-index c.loop-byte.line.items _ c.loop-byte.invariant
    (rw c.as_bytes-byte-items.ensures.value at c.loop-byte-test.false) refl
