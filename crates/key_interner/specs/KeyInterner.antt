-- Distinct keys in the order in which they first came.
use Rattle.std.specs.Prelude.{ℕ, if◌then◌else◌, List, [], ◌∷◌, ◌++◌, nat_eq}
use Rattle.std.specs.List.{list_any}

-- `keys` after `key` came: with `key` added at the end, or unchanged if they have it
abbrev pub keys_after : List ℕ → ℕ → List ℕ
keys_after keys key = if list_any (nat_eq key) keys then keys else keys ++ key ∷ []
