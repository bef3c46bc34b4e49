-- The places of the numbers so far.
use Rattle.std.proofs.Common.{◌≡◌, vec_len}
use Rattle.postings.proofs.InverseLemmas.{ArePlaced}
use Rattle.postings.proofs.lists.places_among.Given as goal

-- there is a place for each number below the count, and the numbers so far stand at theirs
abbrev pub invariant-loop-place : goal.invariant-loop-place
invariant-loop-place l = record {
  len : vec_len l.places ≡ l.count;
  placed : ArePlaced l.numbers l.place l.places.items;
}
