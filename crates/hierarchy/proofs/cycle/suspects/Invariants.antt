use Rattle.std.proofs.Common.{◌≡◌, ◌<◌, ℕ, slice_index_or, vec_len}
use Rattle.hierarchy.specs.inside.Search.{IsMarked}
use Rattle.hierarchy.proofs.SearchLemmas.{IsSuspect}
use Rattle.hierarchy.proofs.cycle.suspects.Given as goal

-- the child of each suspect row so far is marked
abbrev pub invariant-loop-row : goal.invariant-loop-row
invariant-loop-row l =
    (vec_len l.suspects ≡ l.count)
    × ((k : ℕ) → k < l.row-index → (d : ℕ × ℕ) → IsSuspect l.all_rise l.ranks (slice_index_or l.rows k d)
    → IsMarked l.suspects.items (slice_index_or l.rows k d).0)
