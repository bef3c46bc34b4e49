-- The cells at the places so far.
use Rattle.std.proofs.Common.{◌≡◌, map, slice_index_or, take}
use Rattle.postings.proofs.lists.column.Given as goal

-- the column has the cells at the places so far
abbrev pub invariant-loop-place : goal.invariant-loop-place
invariant-loop-place g l = (default : g.row.T.Denot)
    → l.column.items ≡ map (λ place. slice_index_or l.cells place default) (take l.place-index l.places)
