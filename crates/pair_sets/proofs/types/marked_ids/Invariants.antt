use Rattle.std.proofs.Common.{ℕ, Bool, ◌≡◌, ◌<◌, length, get_or, take}
use Rattle.std.specs.Prelude.{filter}
use Rattle.idset.specs.Words.{is_set}
use Rattle.postings.specs.Indexed.{types_of}
use Rattle.pair_sets.proofs.types.marked_ids.Given as goal

-- `ids` are the types so far that are marked
abbrev pub invariant-loop-place : goal.invariant-loop-place
invariant-loop-place l =
    (one : ℕ → Bool) → ((place : ℕ) → place < length (types_of l.reader.indexes.now.rows)
    → is_set l.places place ≡ one (get_or (types_of l.reader.indexes.now.rows) place 0))
    → l.ids.items ≡ filter one (take l.place (types_of l.reader.indexes.now.rows))
