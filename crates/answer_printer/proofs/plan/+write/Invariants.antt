-- The lines so far and the lines of the remaining parts are the lines of all parts.
use Rattle.answer_printer.proofs.LineLemmas.{LinesLeft, concept_outlines, group_outlines}
use Rattle.answer_printer.proofs.plan.+write.Given as goal

-- the lines so far and those of the remaining concept plans are all lines
abbrev pub invariant-write_parts-loop-place : goal.invariant-write_parts-loop-place
invariant-write_parts-loop-place l =
    LinesLeft (concept_outlines l.spaces) l.fn.text.items l.bounds l.parts l.place l.text.items l.left

-- the lines so far and those of the remaining group plans are all lines
abbrev pub invariant-write_group_parts-loop-place : goal.invariant-write_group_parts-loop-place
invariant-write_group_parts-loop-place l =
    LinesLeft (group_outlines l.spaces) l.fn.text.items l.bounds l.parts l.place l.text.items l.left
