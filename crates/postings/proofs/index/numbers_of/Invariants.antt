-- The numbers so far.
use Rattle.std.proofs.Common.{◌≡◌, map, take}
use Rattle.held_release.specs.Numbering.{concept_number}
use Rattle.postings.proofs.index.numbers_of.Given as goal

-- `numbers` has the concept numbers of the identifiers so far
abbrev pub invariant-loop-id : goal.invariant-loop-id
invariant-loop-id l = l.numbers.items ≡ map (concept_number l.concepts) (take l.id-index l.ids)
