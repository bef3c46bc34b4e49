-- The identifiers so far.
use Rattle.std.proofs.Common.{◌≡◌, take}
use Rattle.postings.proofs.index.identifiers.Given as goal

-- `concepts` has the identifiers of the concepts so far
abbrev pub invariant-loop-concept : goal.invariant-loop-concept
invariant-loop-concept l = l.concepts.items ≡ take l.concept l.snapshot.release.concepts
