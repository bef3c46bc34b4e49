-- What the fields of `FirstKeys` mean, and their invariant.
use Rattle.std.specs.Prelude.{ℕ, ◌≡◌, ◌<◌, ◌++◌, List, [], length}
use Rattle.postings.specs.declared.first_keys.FirstKeys.TheInside.{Inside}

-- the keys: first those in `few`, then the others
abbrev pub keys_in : Inside → List ℕ
keys_in inside = inside.few.items ++ inside.others

-- there are other keys only if `few` has at least 16
abbrev pub ComeFirst : Inside → Type 0
ComeFirst inside = length inside.few.items < 16 → inside.others ≡ []
