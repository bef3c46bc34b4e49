-- How many rows of a concept or a group count as pairs.
use Rattle.std.proofs.Common.{ℕ, suc, ◌≡◌, ◌<◌, ◌+◌, ◌∙◌, ◌∷◌, [], Bool, true, false, ◌&&◌, ◌==◌, cond, List, Option}
use Rattle.std.proofs.Common.{None, Some, length, get_or, map, refl, sym, ap, arith}
use Rattle.std.specs.Prelude.{All, IfSome, count_by, filter, slice_get}
use Rattle.std.specs.List.Sorted.{IsStrictlyIncreasing}
use Rattle.std.proofs.lemmas.List.{length-map}
use Rattle.release_model.specs.Pairs.{value_eq}
use Rattle.release_model.specs.Release.{Attribute, Release, Value, concept_value}
use Rattle.constraint_tree.specs.Passing.{lies_in}
use Rattle.constraint_tree.specs.declared.operator.Cardinality.{Cardinality}
use Rattle.number_lists.specs.Members.{has}
use Rattle.number_lists.specs.Rising.{numbers_where}
use Rattle.number_lists.proofs.WhereLemmas.{numbers_where-agree}
use Rattle.postings.specs.Entries.{Entry, entries_of}
use Rattle.postings.specs.Groups.{ConceptGroup, groups_in, is_in_group, rows_of_group}
use Rattle.postings.specs.Indexed.{Indexed, IsIndexOf}
use Rattle.postings.specs.Places.{places_from, places_where}
use Rattle.postings.proofs.EntryLemmas.{rows_of_entries}
use Rattle.postings.proofs.PlaceLemmas.{places_where-within}
use Rattle.std.proofs.lemmas.List.Elements.{All-nil}
use Rattle.candidates.specs.Extents.{rows_in_group}
use Rattle.set_algebra.specs.Meaning.{has_pairs, pairs_of}
use Rattle.pair_sets.specs.inside.Among.{at_entry, pair_counts, pairs_among, pairs_of_concept, rows_of_group_number}
use Rattle.candidates.specs.Groups.{some_group_in}
use Rattle.pair_sets.specs.inside.Hits.{TellsTypes, has_pair_in, has_source_in, is_in_some, value_of}
use Rattle.candidates.specs.Within.{groups_within, numbers_within}
use Rattle.candidates.proofs.WithinLemmas.{has_kept}
use Rattle.postings.specs.RowColumns.{AreRowCells}
use Rattle.postings.specs.declared.index.RowCells.{RowCells}
use Rattle.pair_sets.proofs.HitLemmas.{count-cons}
use Rattle.candidates.proofs.GroupLemmas.{groups_are}
use Rattle.pair_sets.proofs.LeafLemmas.{count_kept, group_counted, none_within, sources_counted, values_counted}

-- one row, by its cells
module _ (indexed : Indexed) (grouped : Bool) (one : ℕ → Bool) (passes : Value → Bool) (told : ℕ → Bool)
    (tells : TellsTypes indexed.rows one told) (cells : RowCells) where
  -- the cells of a row tell whether its type and its value pass
  tested : (entry : Entry) → AreRowCells indexed cells entry
      → (told cells.type_place && passes (value_of indexed cells.value)) ≡ has_pair_in one passes entry.row
  tested entry are =
      λ i. (tells cells.type_place are.type_within ∙ ap one are.type_is) i && ap passes are.value_is i

  -- the cells of a row tell whether the row counts as a pair of its group, or of its source
  told_counts : (entry : Entry) → AreRowCells indexed cells entry → (b : Bool)
      → (cond b cells.is_first_in_group cells.is_first
      && (told cells.type_place && passes (value_of indexed cells.value))) ≡ pair_counts b one passes entry
  told_counts entry are true = λ i. are.first_in_group_is i && tested entry are i
  told_counts entry are false = λ i. are.first_is i && tested entry are i

  -- the cells of row `n` decide whether the row counts as a pair: its flag, its type and its value
  pub row_counts : (n : ℕ) → n < length indexed.rows
      → IfSome (slice_get (entries_of indexed.rows) n) (AreRowCells indexed cells)
      → (cond grouped cells.is_first_in_group cells.is_first
      && (told cells.type_place && passes (value_of indexed cells.value)))
      ≡ at_entry (pair_counts grouped one passes) (slice_get (entries_of indexed.rows) n)
  row_counts n within are = by_case (slice_get (entries_of indexed.rows) n) refl are
    where
      long : length (entries_of indexed.rows) ≡ length indexed.rows
      long = sym (length-map (entries_of indexed.rows) (λ (entry : Entry). entry.row))
          ∙ ap (λ (rows : List Attribute). length rows) (rows_of_entries [] indexed.rows)

      by_case : (at : Option Entry) → slice_get (entries_of indexed.rows) n ≡ at → IfSome at (AreRowCells indexed cells)
          → (cond grouped cells.is_first_in_group cells.is_first
          && (told cells.type_place && passes (value_of indexed cells.value)))
          ≡ at_entry (pair_counts grouped one passes) at
      by_case None is are = absurd (none_within (entries_of indexed.rows) n (omega (arith, within, long)) is)
      by_case (Some entry) is are = told_counts entry are grouped

-- the places of rows that pass `p` pass `at` just as often as entries pass `p` and `test`
places_count : (p : Attribute → Bool) (test : Entry → Bool) (at : ℕ → Bool) (entries : List Entry) (place : ℕ)
    → ((k : ℕ) → at (place + k) ≡ at_entry test (slice_get entries k))
    → ((k : ℕ) → k < length entries → slice_get entries k ≡ slice_get entries k)
    → count_by at (places_from place p (map (λ (entry : Entry). entry.row) entries))
    ≡ count_by (λ entry. p entry.row && test entry) entries
places_count p test at [] place told _ = refl
places_count p test at (entry ∷ entries) place told _ =
    by_case (p entry.row) (places_count p test at entries (place + 1) (λ k. ap at (next k) ∙ told (suc k))
    (λ k within. refl))
    ∙ sym (count-cons (λ (e : Entry). p e.row && test e) entry entries)
  where
    next : (k : ℕ) → (place + 1) + k ≡ place + suc k
    next k = omega arith

    here : at place ≡ test entry
    here = ap at (omega arith) ∙ told 0

    by_case : (b : Bool) → count_by at (places_from (place + 1) p (map (λ (e : Entry). e.row) entries))
        ≡ count_by (λ e. p e.row && test e) entries
        → count_by at (cond b (place ∷ places_from (place + 1) p (map (λ (e : Entry). e.row) entries))
        (places_from (place + 1) p (map (λ (e : Entry). e.row) entries)))
        ≡ cond (b && test entry) (1 + count_by (λ e. p e.row && test e) entries)
        (count_by (λ e. p e.row && test e) entries)
    by_case true rest =
        count-cons at place (places_from (place + 1) p (map (λ (e : Entry). e.row) entries))
        ∙ (λ i. cond (here i) (1 + rest i) (rest i))
    by_case false rest = rest

-- counting by `test` the entries at the places of the rows that pass `p` counts the entries that pass both
pub places_counted : (rows : List Attribute) (p : Attribute → Bool) (test : Entry → Bool)
    → count_by (λ n. at_entry test (slice_get (entries_of rows) n)) (places_where p rows)
    ≡ count_by (λ entry. p entry.row && test entry) (entries_of rows)
places_counted rows p test =
    ap (λ (all : List Attribute). count_by (λ n. at_entry test (slice_get (entries_of rows) n)) (places_where p all))
    (sym (rows_of_entries [] rows))
    ∙ places_count p test (λ n. at_entry test (slice_get (entries_of rows) n)) (entries_of rows) 0
    (λ k. ap (λ m. at_entry test (slice_get (entries_of rows) m)) (zero_sum k)) (λ k within. refl)
  where
    zero_sum : (k : ℕ) → 0 + k ≡ k
    zero_sum k = omega arith

-- candidates that are kept by their own rows
module _ (indexed : Indexed) (release : Release) (is : IsIndexOf indexed release)
    (rising : IsStrictlyIncreasing release.concepts)
    (count : Cardinality) (one : ℕ → Bool) (passes : Value → Bool) where
  -- the candidates whose own rows give a number of pairs in `count` are the candidates whose number of distinct
  -- matching pairs lies in `count`
  pub among_within : All (λ (row : Attribute). has release.concepts row.source ≡ true) release.attributes
      → (back : Bool) (bound : ℕ) → bound ≡ length release.concepts → (may : ℕ → Bool) (asked kept found : List ℕ)
      → ((n : ℕ) → n < bound → has asked n ≡ may n)
      → kept ≡ filter (λ number. lies_in count (pairs_of_concept indexed back one passes number)) asked
      → found ≡ numbers_where bound (has kept)
      → found ≡ numbers_within release may (λ concept. has_pairs count one passes (pairs_of release back concept))
  among_within known back bound counted may asked kept found asked_are kept_is found_is =
      found_is
      ∙ (λ i. numbers_where (counted i) (has (kept_is i)))
      ∙ numbers_where-agree (length release.concepts) (has (filter keeps asked))
      (λ n. may n && has_pairs count one passes (pairs_of release back (get_or release.concepts n 0)))
      (λ n within. has_kept keeps asked n
      ∙ (λ i. asked_are n (omega (arith, within, counted)) i && ap (lies_in count) (own back n within) i))
    where
      keeps : ℕ → Bool
      keeps number = lies_in count (pairs_of_concept indexed back one passes number)

      own : (turn : Bool) (n : ℕ) → n < length release.concepts → pairs_of_concept indexed turn one passes n
          ≡ count_by (λ pair. one pair.type_id && passes pair.value)
          (pairs_of release turn (get_or release.concepts n 0))
      own true n within =
          count_kept (λ (entry : Entry). value_eq entry.row.value (concept_value (get_or indexed.concepts n 0)))
          (λ entry. entry.is_first && has_source_in one passes entry.row) (entries_of indexed.rows)
          ∙ values_counted indexed release is rising one passes known n
      own false n within =
          places_counted indexed.rows (λ (row : Attribute). row.source == get_or indexed.concepts n 0)
          (pair_counts false one passes)
          ∙ sources_counted indexed release is rising one passes n within

  -- the candidate groups whose own rows give a number of pairs in `count` are the candidate groups whose number of
  -- distinct matching pairs lies in `count`
  pub groups_among_within : (bound : ℕ) → bound ≡ length (groups_in indexed)
      → (may : ℕ → Bool) (asked kept found : List ℕ)
      → ((n : ℕ) → n < bound → has asked n ≡ may n)
      → kept ≡ filter (λ number. lies_in count (pairs_among indexed true one passes
      (rows_of_group_number indexed (slice_get (groups_in indexed) number)))) asked
      → found ≡ numbers_where bound (has kept)
      → found ≡ groups_within release may (has_pairs count one passes)
  groups_among_within bound counted may asked kept found asked_are kept_is found_is =
      found_is
      ∙ (λ i. numbers_where (counted i) (has (kept_is i)))
      ∙ numbers_where-agree (length (groups_in indexed)) (has (filter keeps asked))
      (λ n. may n && some_group_in release (has_pairs count one passes) (slice_get (groups_in indexed) n))
      (λ n within. has_kept keeps asked n
      ∙ (λ i. asked_are n (omega (arith, within, counted)) i && own n within (slice_get (groups_in indexed) n) refl i))
      ∙ ap (λ (groups : List ConceptGroup). numbers_where (length groups)
      (λ n. may n && some_group_in release (has_pairs count one passes) (slice_get groups n)))
      (groups_are indexed release is rising)
    where
      keeps : ℕ → Bool
      keeps number = lies_in count
          (pairs_among indexed true one passes (rows_of_group_number indexed (slice_get (groups_in indexed) number)))

      own : (n : ℕ) → n < length (groups_in indexed) → (at : Option ConceptGroup) → slice_get (groups_in indexed) n ≡ at
          → lies_in count (pairs_among indexed true one passes (rows_of_group_number indexed at))
          ≡ some_group_in release (has_pairs count one passes) at
      own n within None at = absurd (none_within (groups_in indexed) n within at)
      own n within (Some group) at = ap (lies_in count)
          (places_counted indexed.rows (is_in_group group) (pair_counts true one passes)
          ∙ (λ i. count_by (λ (entry : Entry). is_in_some (sym at i) entry.row
          && (entry.is_first_in_group && has_pair_in one passes entry.row))
          (entries_of indexed.rows))
          ∙ group_counted indexed release is rising one passes n group at)

-- the rows that the reader hands out for group `n` are the rows of the group with that number
pub group_told : (indexed : Indexed) (n : ℕ) (rows : List ℕ) → n < length (groups_in indexed)
    → IfSome (slice_get (groups_in indexed) n) (λ group. rows ≡ rows_of_group indexed group)
    → rows ≡ rows_of_group_number indexed (slice_get (groups_in indexed) n)
group_told indexed n rows within told = by_case (slice_get (groups_in indexed) n) refl told
  where
    by_case : (at : Option ConceptGroup) → slice_get (groups_in indexed) n ≡ at
        → IfSome at (λ group. rows ≡ rows_of_group indexed group)
        → rows ≡ rows_of_group_number indexed at
    by_case None is told = absurd (none_within (groups_in indexed) n within is)
    by_case (Some group) is told = told

-- the rows of a group are below the number of rows
pub group_below : (indexed : Indexed) (at : Option ConceptGroup)
    → All (λ n. n < length indexed.rows) (rows_of_group_number indexed at)
group_below indexed None = All-nil (λ n. n < length indexed.rows)
group_below indexed (Some group) = places_where-within (is_in_group group) indexed.rows

-- a group has as many rows as `rows_in_group` counts
pub group_count : (indexed : Indexed) (group : Option ConceptGroup)
    → length (rows_of_group_number indexed group) ≡ rows_in_group indexed group
group_count indexed None = refl
group_count indexed (Some group) = refl
