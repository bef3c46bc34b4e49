use Rattle.std.proofs.Common.{◌≡◌, length}
use Rattle.concept_printer.specs.NamedConcept.{before_blanks}
use Rattle.concept_printer.proofs.named_concept.without_blanks_after.Given as goal

-- what is left has the text without trailing blanks that the whole text has
abbrev pub invariant-loop-left : goal.invariant-loop-left
invariant-loop-left l = before_blanks l.left ≡ before_blanks l.text

-- what is left gets shorter
abbrev pub decreases-loop-left : goal.decreases-loop-left
decreases-loop-left l = length l.left
