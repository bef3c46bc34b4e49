-- The identifiers that the fields of a `Concepts` hold, and the invariant of these fields.
use Rattle.std.specs.Prelude.{ℕ, ◌<◌, ◌^◌, List, length}
use Rattle.std.specs.List.Sorted.{IsStrictlyIncreasing}
use Rattle.held_release.specs.inside.Blocks.{AreBlockWords}
use Rattle.held_release.specs.declared.concepts.Concepts.TheInside.{Inside}

-- the identifiers that the fields hold
abbrev pub ids_in : Inside → List ℕ
ids_in inside = inside.ids.items

-- the invariant: the identifiers rise, are fewer than 2^31, and the words count their blocks
pub record AreInBlocks (inside : Inside) : Type 0 where
  -- the identifiers rise strictly
  pub rising : IsStrictlyIncreasing inside.ids.items
  -- there are fewer than 2^31 identifiers
  pub few : length inside.ids.items < 2 ^ 31
  -- the words count the first blocks
  pub words : AreBlockWords inside.ids.items inside.words.items inside.counted
