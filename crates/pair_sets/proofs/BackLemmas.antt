-- Rows read backwards: from their sources to their values.
use Rattle.std.proofs.Common.{ℕ, ◌≡◌, ◌<◌, ◌+◌, ◌∙◌, ◌∷◌, ◌++◌, [], inl, inr, ltb, arith}
use Rattle.std.proofs.Common.{Bool, false, ◌&&◌, ◌==◌, cond, List, None, Option, Some, length, get_or, take, refl, sym}
use Rattle.std.proofs.Common.{ap}
use Rattle.std.specs.Prelude.{IfSome, count_by, slice_get}
use Rattle.std.specs.List.Sorted.{IsStrictlyIncreasing}
use Rattle.std.proofs.lemmas.Bool.{cases_eq, eq-eqb, ne_eqb}
use Rattle.std.proofs.lemmas.List.{length-map}
use Rattle.std.proofs.lemmas.List.Sums.{count_by_more_no, count_by_more_yes}
use Rattle.release_model.specs.Release.{Attribute}
use Rattle.postings.specs.Entries.{Entry, entries_of, entries_where}
use Rattle.postings.specs.Indexed.{Indexed, rows_by_source}
use Rattle.postings.specs.RowColumns.{AreRowCells}
use Rattle.postings.specs.declared.index.RowCells.{RowCells}
use Rattle.postings.proofs.EntryLemmas.{rows_of_entries}
use Rattle.pair_sets.specs.inside.Among.{at_entry}
use Rattle.number_lists.specs.Members.{times}
use Rattle.pair_sets.specs.inside.Hits.{TellsTypes, counts_for_value}
use Rattle.pair_sets.proofs.AmongLemmas.{places_counted}
use Rattle.pair_sets.proofs.HitLemmas.{and_apart, value_tells}
use Rattle.pair_sets.proofs.LeafLemmas.{count_kept, none_within}
use Rattle.number_lists.proofs.MemberLemmas.{times-append}
use Rattle.pair_sets.proofs.TimesLemmas.{times-cons}

-- ---- the values of rows, row by row
module _ (indexed : Indexed) (rising : IsStrictlyIncreasing indexed.concepts) (one told : ℕ → Bool)
    (tells : TellsTypes indexed.rows one told) (bound : ℕ) (is : bound ≡ length indexed.concepts) where
  -- whether row n counts for the concept with `number` as its value
  abbrev pub counts_at : ℕ → ℕ → Bool
  counts_at number n = at_entry (counts_for_value indexed.concepts (λ row. one row.type_id) number)
      (slice_get (entries_of indexed.rows) n)

  -- read backwards, the cells of row `n` decide whether the row counts for the concept with the number `number`
  pub cells_tell : (cells : RowCells) (n number : ℕ) → n < length indexed.rows → number < length indexed.concepts
      → IfSome (slice_get (entries_of indexed.rows) n) (AreRowCells indexed cells)
      → counts_at number n ≡ ((ltb cells.value bound && (cells.is_first && told cells.type_place))
      && (cells.value == number))
  cells_tell cells n number within inside are = by_case (slice_get (entries_of indexed.rows) n) refl are
    where
      long : length (entries_of indexed.rows) ≡ length indexed.rows
      long = sym (length-map (entries_of indexed.rows) (λ (entry : Entry). entry.row))
          ∙ ap (λ (rows : List Attribute). length rows) (rows_of_entries [] indexed.rows)

      of_entry : (entry : Entry) → AreRowCells indexed cells entry
          → counts_for_value indexed.concepts (λ row. one row.type_id) number entry
          ≡ ((ltb cells.value bound && (cells.is_first && told cells.type_place)) && (cells.value == number))
      of_entry entry are = sym (
          and_apart (ltb cells.value bound) (cells.is_first && told cells.type_place) (cells.value == number)
          ∙ (λ i. value_tells indexed rising bound is cells.value entry.row.value are.value_is number inside i
          && (are.first_is i && (tells cells.type_place are.type_within ∙ ap one are.type_is) i)))

      by_case : (at : Option Entry) → slice_get (entries_of indexed.rows) n ≡ at → IfSome at (AreRowCells indexed cells)
          → at_entry (counts_for_value indexed.concepts (λ row. one row.type_id) number) at
          ≡ ((ltb cells.value bound && (cells.is_first && told cells.type_place)) && (cells.value == number))
      by_case None at are = absurd (none_within (entries_of indexed.rows) n (omega (arith, within, long)) at)
      by_case (Some entry) at are = of_entry entry are

-- one row more, for which a number is pushed or none
module _ (counts : ℕ → Bool) (rows : List ℕ) (k : ℕ) (within : k < length rows) (value number : ℕ) (before : ℕ)
    (hits : List ℕ)
    (so_far : times number hits ≡ before + count_by counts (take k rows)) where
  -- if row `k` counts for `value` only, adding `value` to the hits of the first `k` rows gives the hits of the first `k
  -- + 1`
  pub pushed_more : counts (get_or rows k 0) ≡ (value == number)
      → times number (hits ++ value ∷ []) ≡ before + count_by counts (take (k + 1) rows)
  pushed_more tells = elim (cases_eq value number) [
    | inl same ↦
        let more : times number (value ∷ []) ≡ 1 = times-cons number value []
        ∙ ap (λ (b : Bool). cond b 1 0) (eq-eqb value number same) in
        omega (
          arith,
          times-append number hits (value ∷ []),
          so_far,
          more,
          count_by_more_yes counts rows k 0 within (tells ∙ eq-eqb value number same),
        )
    | inr other ↦
        let more : times number (value ∷ []) ≡ 0 = times-cons number value []
        ∙ ap (λ (b : Bool). cond b 1 0) (ne_eqb value number other) in
        omega (
          arith,
          times-append number hits (value ∷ []),
          so_far,
          more,
          count_by_more_no counts rows k 0 within (tells ∙ ne_eqb value number other),
        )
  ]

  -- if row `k` does not count for `number`, the hits of the first `k` rows have `number` as often as those of the first
  -- `k + 1`
  pub none_pushed : counts (get_or rows k 0) ≡ false → times number hits ≡ before + count_by counts (take (k + 1) rows)
  none_pushed tells = omega (arith, so_far, count_by_more_no counts rows k 0 within tells)

-- counting the rows of a source by their numbers counts the entries with this source
pub source_counted : (indexed : Indexed) (one : ℕ → Bool) (source number : ℕ)
    → count_by (λ n. at_entry (counts_for_value indexed.concepts (λ row. one row.type_id) number)
    (slice_get (entries_of indexed.rows) n))
    (rows_by_source indexed source)
    ≡ count_by (counts_for_value indexed.concepts (λ row. one row.type_id) number)
    (entries_where (λ row. row.source == get_or indexed.concepts source 0) indexed.rows)
source_counted indexed one source number =
    places_counted indexed.rows (λ (row : Attribute). row.source == get_or indexed.concepts source 0)
    (counts_for_value indexed.concepts (λ row. one row.type_id) number)
    ∙ sym (count_kept (λ (entry : Entry). entry.row.source == get_or indexed.concepts source 0)
    (counts_for_value indexed.concepts (λ row. one row.type_id) number) (entries_of indexed.rows))
