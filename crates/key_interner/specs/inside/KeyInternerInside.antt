-- The keys that the field of an interner stands for.
use Rattle.std.specs.Prelude.{ℕ, List, [], Option, None, Some}
use Rattle.indexmap.specs.IndexSet.{IndexSet}
use Rattle.std.specs.declared.random_state.RandomState.{RandomState}
use Rattle.key_interner.specs.declared.KeyInterner.TheInside.{Inside}

-- the keys of the library's set, or no key if there is no set
abbrev pub set_keys : Option (IndexSet ℕ RandomState) → List ℕ
set_keys None = []
set_keys (Some set) = set.keys

-- the keys that the field `keys` stands for
abbrev pub keys_in : Inside → List ℕ
keys_in inside = set_keys inside.keys
