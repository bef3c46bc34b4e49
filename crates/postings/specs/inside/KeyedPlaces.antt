-- Pairs of a key and a place that has it.
use Rattle.std.specs.Prelude.{ℕ, ◌+◌, if◌then◌else◌, nat_lt, List, [], ◌∷◌}

-- the pairs of a key below `count` and a place of `keys` that has it, if places are counted from
-- `place`
abbrev pub keyed_places : ℕ → ℕ → List ℕ → List (ℕ × ℕ)
keyed_places count place [] = []
keyed_places count place (key ∷ keys) =
    if nat_lt key count then (key, place) ∷ keyed_places count (place + 1) keys else keyed_places
    count (place + 1) keys
