-- What the fields of `Texts` mean, and their invariant.
use Rattle.std.specs.Prelude.{ℕ, ◌+◌, ◌-◌, List, length, map, slice_index, slice_range}
use Rattle.std.specs.List.{range_with_len}
use Rattle.number_lists.specs.inside.KeyedListsInside.{AreStarts}
use Rattle.held_release.specs.declared.texts.Texts.TheInside.{Inside}

-- the texts: each has the bytes from its start to the next start
abbrev pub texts_in : Inside → List (List ℕ)
texts_in inside =
    map (λ key. slice_range inside.bytes.items (slice_index inside.starts.items key)
    (slice_index inside.starts.items (key + 1)))
    (range_with_len 0 (length inside.starts.items - 1))

-- the starts begin at 0, never fall, and end at the number of bytes
abbrev pub AreStarted : Inside → Type 0
AreStarted inside = AreStarts inside.starts.items inside.bytes.items
