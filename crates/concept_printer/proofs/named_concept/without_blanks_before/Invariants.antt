use Rattle.std.proofs.Common.{◌≡◌, length}
use Rattle.concept_printer.specs.NamedConcept.{after_blanks}
use Rattle.concept_printer.proofs.named_concept.without_blanks_before.Given as goal

-- what is left has the text without leading blanks that the whole text has
abbrev pub invariant-loop-left : goal.invariant-loop-left
invariant-loop-left l = after_blanks l.left ≡ after_blanks l.text

-- what is left gets shorter
abbrev pub decreases-loop-left : goal.decreases-loop-left
decreases-loop-left l = length l.left
