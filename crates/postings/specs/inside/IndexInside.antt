-- What the fields of `Indexes` mean, and their invariant.
use Rattle.std.specs.Prelude.{◌≡◌, ◌<◌, ◌^◌, length, map}
use Rattle.std.specs.List.Sorted.{IsStrictlyIncreasing}
use Rattle.held_release.specs.Numbering.{concept_number}
use Rattle.held_release.specs.CodedRows.{rows_coded}
use Rattle.postings.specs.Indexed.{HasListsFor, Indexed, with_members}
use Rattle.postings.specs.inside.KeptRows.{rows_kept}
use Rattle.postings.specs.inside.RowIndexes.{AreRowIndexes}
use Rattle.postings.specs.declared.index.Indexes.TheInside.{Inside}

-- what the indexes with these fields hold
abbrev pub indexed_in : Inside → Indexed
indexed_in inside = record {
  concepts = inside.concepts.items;
  hierarchy = inside.hierarchy;
  rows = rows_coded inside.concepts.items inside.rows.types.numbers inside.rows.values
      (rows_kept inside.rows);
  members = inside.members;
  decimals = inside.rows.values.decimals.items;
  texts = inside.rows.values.texts;
}

-- the invariant of the fields of `Indexes`
pub record AreIndexed (inside : Inside) : Type 0 where
  -- the identifiers of the concepts rise strictly
  pub rising : IsStrictlyIncreasing inside.concepts.items
  -- there are fewer than 2^31 concepts
  pub few : length inside.concepts.items < 2 ^ 31
  -- the lists of rows are those of the rows that the fields encode
  pub rows : AreRowIndexes inside.concepts.items (indexed_in inside).rows inside.rows
  -- each concept has its lists in the hierarchy
  pub hierarchy : HasListsFor (length inside.concepts.items) inside.hierarchy
  -- each concept has a list of members
  pub members : length inside.members ≡ length inside.concepts.items
  -- the reference sets are the concepts that have members
  pub reference_sets : inside.reference_sets.items ≡ with_members inside.members
  -- for each type, its entry has the number of the concept in force that it is, or none
  pub types : inside.type_concepts.items ≡ map (concept_number inside.concepts.items)
      inside.rows.types.ids.items
