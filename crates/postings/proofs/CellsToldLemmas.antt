-- What the look-up of the cells of a row finds.
use Rattle.std.proofs.Common.{ℕ, ◌≡◌, ◌<◌, ◌∙◌, List, length, get_or, map, sym, ap, subst, arith, Bool, []}
use Rattle.std.specs.Prelude.{IfSome, slice_get, slice_index}
use Rattle.std.proofs.lemmas.List.{get_or-map, length-map}
use Rattle.release_model.specs.Release.{Attribute}
use Rattle.postings.specs.Columns.{Flagged}
use Rattle.postings.specs.Entries.{Entry, entries_of}
use Rattle.postings.specs.inside.IndexInside.{AreIndexed, indexed_in}
use Rattle.postings.specs.Indexed.{Indexed, value_at}
use Rattle.held_release.specs.CodedRows.{row_coded}
use Rattle.held_release.specs.CodedRows.{values_in}
use Rattle.postings.specs.inside.KeptRows.{mark_at, row_kept}
use Rattle.postings.specs.RowColumns.{AreRowCells}
use Rattle.postings.specs.declared.index.Indexes.TheInside.{Inside}
use Rattle.postings.specs.declared.index.RowCells.{RowCells}
use Rattle.held_release.specs.declared.coded_rows.CodedRow.{CodedRow}
use Rattle.postings.proofs.EntryLemmas.{rows_of_entries}
use Rattle.postings.proofs.IndexLemmas.{if_there}
use Rattle.postings.proofs.GroupNumberLemmas.{near, row_at, row_coded_within, row_there}

module _ (inside : Inside) (are : AreIndexed inside) (now : Indexed) (same : indexed_in inside ≡ now) (n : ℕ)
    (below : n < length now.rows)
    (row : CodedRow) (row_is : row ≡ row_kept inside.rows n) (first in_group : Bool)
    (first_is : first ≡ (mark_at inside.rows.by_type.sources.items (slice_index inside.rows.places.items n)).is_first)
    (in_group_is : in_group ≡ (mark_at inside.rows.by_type.groups.items
    (slice_index inside.rows.places.items n)).is_first) where
  abbrev rows : List Attribute
  rows = (indexed_in inside).rows

  here : n < length rows
  here = near inside are now same n below

  long : length (entries_of rows) ≡ length rows
  long = sym (length-map (entries_of rows) (λ (entry : Entry). entry.row))
      ∙ ap (λ (xs : List Attribute). length xs) (rows_of_entries [] rows)

  abbrev cells : RowCells
  cells = record { type_place = row.type_place; value = row.value; is_first = first; is_first_in_group = in_group }

  abbrev kept : CodedRow
  kept = row_kept inside.rows n

  abbrev keys : List ℕ
  keys = inside.rows.types.numbers

  module _ (d : Entry) where
    abbrev entry : Entry
    entry = get_or (entries_of rows) n d

    in_entries : n < length (entries_of rows)
    in_entries = omega (arith, here, long)

    row_of_entry : entry.row ≡ row_coded inside.concepts.items keys (values_in inside.concepts.items inside.rows.values)
        kept
    row_of_entry =
        sym (get_or-map (λ (entry : Entry). entry.row) (entries_of rows) n d d.row in_entries)
        ∙ ap (λ (xs : List Attribute). get_or xs n d.row) (rows_of_entries [] rows)
        ∙ row_at inside are now same n d.row here

    -- the flags of a column are those of the rows
    flag : (column : List Flagged) (test : Entry → Bool)
        → map (λ (mark : Flagged). mark.is_first) (map (mark_at column) inside.rows.places.items)
        ≡ map test (entries_of rows)
        → (mark_at column (get_or inside.rows.places.items n 0)).is_first ≡ test entry
    flag column test same_flags =
        let some : Flagged = mark_at column 0 in
        ap (λ (mark : Flagged). mark.is_first) (sym (get_or-map (mark_at column) inside.rows.places.items n 0 some
        (row_there inside are now same n below).place))
        ∙ sym (get_or-map (λ (mark : Flagged). mark.is_first) (map (mark_at column) inside.rows.places.items) n some
        (test d)
        (omega (
          arith,
          (row_there inside are now same n below).place,
          length-map inside.rows.places.items
              (mark_at column),
        )))
        ∙ ap (λ (flags : List Bool). get_or flags n (test d)) same_flags
        ∙ get_or-map test (entries_of rows) n d (test d) in_entries

    told_at : AreRowCells (indexed_in inside) cells entry
    told_at = record {
      type_within = subst (λ (types : List ℕ). row.type_place < length types) are.rows.coded.types
          (subst (λ (r : CodedRow). r.type_place < length keys) (sym row_is)
          (row_coded_within inside are now same n here).type_place);
      type_is = ap (λ (types : List ℕ). slice_index types row.type_place) (sym are.rows.coded.types)
          ∙ ap (λ (r : CodedRow). slice_index keys r.type_place) row_is
          ∙ ap (λ (a : Attribute). a.type_id) (sym row_of_entry);
      value_is = ap (λ (r : CodedRow). value_at (values_in inside.concepts.items inside.rows.values) r.value) row_is
          ∙ ap (λ (a : Attribute). a.value) (sym row_of_entry);
      first_is = first_is ∙ flag inside.rows.by_type.sources.items (λ (entry : Entry). entry.is_first)
          are.rows.marked.firsts;
      first_in_group_is = in_group_is
          ∙ flag inside.rows.by_type.groups.items (λ (entry : Entry). entry.is_first_in_group) are.rows.units.firsts;
    }

  -- if `row` is the kept row `n`, and `first` and `in_group` are the flags kept for it, then cells made of them are the
  -- cells of entry `n`
  pub cells_told : IfSome (slice_get (entries_of now.rows) n) (AreRowCells now cells)
  cells_told =
      subst (λ (indexed : Indexed). IfSome (slice_get (entries_of indexed.rows) n) (AreRowCells indexed cells)) same
      (if_there (entries_of rows) n (omega (arith, here, long)) (AreRowCells (indexed_in inside) cells) told_at)
