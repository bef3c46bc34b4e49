use Rattle.std.proofs.Common.{ℕ, ◌≡◌, ◌<◌, length, slice_index}
use Rattle.ancestor_index.proofs.closure.places_in.Given as goal

-- the places of the concepts of the order before `place` are stored
abbrev pub invariant-loop-place : goal.invariant-loop-place
invariant-loop-place l = record {
  len : l.places.len ≡ length l.order;
  places : (place : ℕ) → place < l.place → slice_index l.places.items (slice_index l.order place) ≡ place;
}
