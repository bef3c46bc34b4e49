use Rattle.std.proofs.lemmas.Bool.Decides.{nat_tests}
use Rattle.std.proofs.lemmas.Grind.{common_steps}
use Rattle.std.proofs.Common.{◌∙◌, ap, arith, decimal}
use Rattle.std.proofs.lemmas.Str.{IsCharBoundary-after_ascii, IsCharBoundary-before_ascii}
use Rattle.held_release.proofs.NameInLineLemmas.{named_line}
use Rattle.held_release.proofs.lines.name_between.Goals as goal

-- a character of the text starts where the name does, because a bar stands before it
pub range-requires-clause-start_boundary : goal.range-requires-clause-start_boundary
range-requires-clause-start_boundary c = grind (arith, common_steps, nat_tests, IsCharBoundary-after_ascii, named_line)

-- a character of the text ends where the name does, because a bar stands after it
pub range-requires-clause-end_boundary : goal.range-requires-clause-end_boundary
range-requires-clause-end_boundary c = grind (arith, common_steps, nat_tests, IsCharBoundary-before_ascii, named_line)

-- the name does not end before it starts
pub range-requires-clause-start_le_end : goal.range-requires-clause-start_le_end
range-requires-clause-start_le_end c =
    let named =
    named_line c.args.texts.now c.format.result.now c.args.concept c.args.from c.args.to
    (c.format.ensures.text ∙ ap decimal c.number.ensures.number) c.requires.rise c.requires.end c.requires.line
    c.if-to-from.false in
    omega (arith, named.2)

-- the line of the concept with the text between the bars as name is the line
pub returns : goal.returns
returns c =
    let (name, line, long, before, following, found) =
    named_line c.args.texts.now c.format.result.now c.args.concept c.args.from c.args.to
    (c.format.ensures.text ∙ ap decimal c.number.ensures.number) c.requires.rise c.requires.end c.requires.line
    c.if-to-from.false in
    grind (arith, line, found, c.range.ensures.value, c.format.ensures.text, c.number.ensures.number)
