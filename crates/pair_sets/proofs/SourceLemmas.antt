-- The concepts from which attributes lead to concepts: which they are, and that they are no more than the rows of the
-- types.
use Rattle.std.proofs.Common.{ℕ, ◌≡◌, ◌≤◌, ◌<◌, ◌∙◌, ◌∷◌, [], ◌&&◌, ◌==◌, Bool, true, false, cond, List, None}
use Rattle.std.proofs.Common.{length, get_or, map, refl, sym, ap, subst, arith}
use Rattle.std.specs.Prelude.{All, count_by, filter, nat_le}
use Rattle.std.specs.List.{flat_map, list_any, sum_by}
use Rattle.std.specs.List.Sorted.{IsStrictlyIncreasing}
use Rattle.std.proofs.lemmas.Bool.{leb-true}
use Rattle.std.proofs.lemmas.List.Concat.{length-flat_map}
use Rattle.std.proofs.lemmas.List.Elements.{All-tail, Contains-get_or}
use Rattle.std.proofs.lemmas.List.Sums.{length-filter, sum_by-cons, sum_by-le-sum_by}
use Rattle.release_model.specs.Pairs.{Pair, out_pairs, pair_of, rows_of}
use Rattle.release_model.specs.Release.{Attribute, Release, Value, concept_value, number_value, text_value}
use Rattle.number_lists.specs.Rising.{IsRisingBelow}
use Rattle.number_lists.proofs.BlockLemmas.{any-map}
use Rattle.number_lists.proofs.RisingLemmas.{numbers_where-rising}
use Rattle.number_lists.proofs.WhereLemmas.{there_where}
use Rattle.constraint_tree.specs.Passing.{is_outside}
use Rattle.set_algebra.specs.Meaning.{has_pairs}
use Rattle.postings.specs.Entries.{Entry, entries_of, entries_with_type}
use Rattle.postings.specs.Indexed.{Indexed, IsIndexOf, types_of}
use Rattle.postings.specs.Stats.{type_row_count}
use Rattle.postings.proofs.EntryLemmas.{rows_of_entries}
use Rattle.postings.proofs.PlaceLemmas.{length-places_where}
use Rattle.candidates.specs.Numbers.{numbers_in}
use Rattle.candidates.proofs.Normal.{numbers_in-agree}
use Rattle.pair_sets.specs.Sources.{is_concept, is_source}
use Rattle.pair_sets.specs.inside.Hits.{counts_for_source, has_pair_in}
use Rattle.pair_sets.proofs.LeafLemmas.{count_kept, count_map, passing_pair, sources_counted, types_counted}
use Rattle.pair_sets.proofs.RoomLemmas.{all_pass, one_number, rows_once}
use Rattle.pair_sets.proofs.ValueStepLemmas.{any_distinct, count_any, with_true}

-- a value is outside the empty set exactly if it is a concept
outside_none : (value : Value) → is_outside (λ id. false) value ≡ is_concept value
outside_none (concept_value id) = refl
outside_none (number_value number) = refl
outside_none (text_value text) = refl

-- the concepts with at least one pair along `types` whose value is outside the empty set are those that have an
-- attribute along the types whose value is a concept
pub some_pair_is_source : (release : Release) (types : ℕ → Bool)
    → numbers_in release (λ concept. has_pairs (record { min = 1; max = None }) types (is_outside (λ id. false))
    (out_pairs release concept))
    ≡ numbers_in release (is_source release types)
some_pair_is_source release types =
    numbers_in-agree release
    (λ concept. has_pairs (record { min = 1; max = None }) types (is_outside (λ id. false)) (out_pairs release concept))
    (is_source release types) (λ n within. at (get_or release.concepts n 0))
  where
    at : (concept : ℕ) → has_pairs (record { min = 1; max = None }) types (is_outside (λ id. false))
        (out_pairs release concept) ≡ is_source release types concept
    at concept =
        let test : Pair → Bool = λ pair. types pair.type_id && is_outside (λ id. false) pair.value in
        with_true (nat_le 1 (count_by test (out_pairs release concept)))
        ∙ count_any test (out_pairs release concept)
        ∙ any_distinct test (map pair_of (rows_of release concept))
        ∙ any-map test pair_of (rows_of release concept)
        ∙ (λ i. list_any (λ (row : Attribute). types row.type_id && outside_none row.value i) (rows_of release concept))

-- ---- how many they are
-- if each number counts for at least 1, there are no more numbers than their sum
ones_le : (f : ℕ → ℕ) (numbers : List ℕ) → All (λ n. 1 ≤ f n) numbers → length numbers ≤ sum_by f numbers
ones_le f [] each = omega arith
ones_le f (n ∷ numbers) each =
    let here : 1 ≤ f n = each 0 0 (omega arith) in
    omega (arith, here, sum_by-cons f n numbers, ones_le f numbers (All-tail (λ m. 1 ≤ f m) n numbers each))

-- the rows of the types that pass `one` are as many as the rows whose type passes
typed_rows : (indexed : Indexed) (one : ℕ → Bool)
    → sum_by (type_row_count indexed) (filter one (types_of indexed.rows))
    ≡ count_by (λ (entry : Entry). one entry.row.type_id) (entries_of indexed.rows)
typed_rows indexed one =
    let rows = indexed.rows in
    let kept : List ℕ = filter one (types_of rows) in
    (λ i. sum_by (λ id. with_type id i) kept)
    ∙ sym (length-flat_map (entries_with_type rows) kept)
    ∙ sym (all_pass (flat_map (entries_with_type rows) kept))
    ∙ types_counted rows one (λ entry. true) (λ entry. true) (λ entry. true)
    ∙ (λ i. count_by (λ (entry : Entry). with_true (one entry.row.type_id) i) (entries_of rows))
  where
    with_type : (id : ℕ) → type_row_count indexed id ≡ length (entries_with_type indexed.rows id)
    with_type id =
        length-places_where (λ (row : Attribute). row.type_id == id) indexed.rows
        ∙ ap (count_by (λ (row : Attribute). row.type_id == id)) (sym (rows_of_entries [] indexed.rows))
        ∙ count_map (λ (row : Attribute). row.type_id == id) (λ (entry : Entry). entry.row) (entries_of indexed.rows)
        ∙ sym (length-filter (λ (entry : Entry). entry.row.type_id == id) (entries_of indexed.rows))

module _ (indexed : Indexed) (release : Release) (is : IsIndexOf indexed release)
    (rising : IsStrictlyIncreasing release.concepts) (one : ℕ → Bool) (passes : Value → Bool) where
  -- whether a concept has at least one pair that passes
  abbrev has_some : ℕ → Bool
  has_some concept = has_pairs (record { min = 1; max = None }) one passes (out_pairs release concept)

  -- the rows that have one of the types
  abbrev typed : List Entry
  typed = filter (λ (entry : Entry). one entry.row.type_id) (entries_of indexed.rows)

  -- whether a row has the concept with a number as its source
  abbrev has_source : Entry → ℕ → Bool
  has_source entry n = entry.row.source == get_or indexed.concepts n 0

  -- a concept with at least one pair that passes is the source of a row with one of the types
  has_row : (n : ℕ) → n < length release.concepts → has_some (get_or release.concepts n 0) ≡ true
      → 1 ≤ length (filter (λ entry. has_source entry n) typed)
  has_row n within some =
      let rows : List Entry = entries_of indexed.rows in
      let pairs : ℕ = count_by (passing_pair indexed release is rising one passes)
      (out_pairs release (get_or release.concepts n 0)) in
      let enough : 1 ≤ pairs = leb-true 1 pairs (sym (with_true (nat_le 1 pairs)) ∙ some) in
      let counted : count_by (counts_for_source indexed.concepts (has_pair_in one passes) n) rows ≡ pairs =
      sources_counted indexed release is rising one passes n within in
      let less : count_by (counts_for_source indexed.concepts (has_pair_in one passes) n) rows
      ≤ count_by (λ (entry : Entry). one entry.row.type_id && has_source entry n) rows =
      sum_by-le-sum_by
      (λ (entry : Entry). cond (counts_for_source indexed.concepts (has_pair_in one passes) n entry) 1 0)
      (λ (entry : Entry). cond (one entry.row.type_id && has_source entry n) 1 0) rows
      (λ entry. fewer (has_source entry n) entry.is_first (one entry.row.type_id) (passes entry.row.value)) in
      let own : length (filter (λ entry. has_source entry n) typed)
      ≡ count_by (λ (entry : Entry). one entry.row.type_id && has_source entry n) rows =
      length-filter (λ entry. has_source entry n) typed
      ∙ count_kept (λ (entry : Entry). one entry.row.type_id) (λ entry. has_source entry n) rows in
      omega (arith, enough, counted, less, own)
    where
      fewer : (a b c d : Bool) → cond {A = ℕ} (a && (b && (c && d))) 1 0 ≤ cond {A = ℕ} (c && a) 1 0
      fewer true true true true = omega arith
      fewer true true true false = omega arith
      fewer true true false d = omega arith
      fewer true false c d = omega arith
      fewer false b c d = omega arith

  -- no more concepts have a pair that passes than there are rows with one of the types
  few_pairs : length (numbers_in release has_some)
      ≤ sum_by (type_row_count indexed) (filter one (types_of indexed.rows))
  few_pairs =
      let numbers : List ℕ = numbers_in release has_some in
      let concepts_rise : IsStrictlyIncreasing indexed.concepts = subst IsStrictlyIncreasing (sym is.concepts) rising in
      let numbers_rise : IsRisingBelow (length indexed.concepts) numbers =
      subst (λ (concepts : List ℕ). IsRisingBelow (length concepts) numbers) (sym is.concepts)
      (numbers_where-rising (length release.concepts) (λ n. has_some (get_or release.concepts n 0))) in
      let own : ℕ → ℕ = λ n. length (filter (λ entry. has_source entry n) typed) in
      let each : length numbers ≤ sum_by own numbers =
      ones_le own numbers
      (λ k d within.
      let there = there_where (length release.concepts) (λ n. has_some (get_or release.concepts n 0))
      (get_or numbers k d) (Contains-get_or numbers k d within) in
      has_row (get_or numbers k d) there.0 there.1) in
      let once : sum_by own numbers ≤ length typed =
      rows_once has_source numbers
      (λ entry. one_number indexed.concepts concepts_rise entry.row.source 0 numbers numbers_rise) typed in
      let all : length typed ≡ sum_by (type_row_count indexed) (filter one (types_of indexed.rows)) =
      length-filter (λ (entry : Entry). one entry.row.type_id) (entries_of indexed.rows)
      ∙ sym (typed_rows indexed one) in
      omega (arith, each, once, all)

-- no more concepts have an attribute along `types` whose value is a concept than there are rows with one of the types
pub few_sources : (indexed : Indexed) (release : Release) → IsIndexOf indexed release
    → IsStrictlyIncreasing release.concepts → (types : ℕ → Bool)
    → length (numbers_in release (is_source release types))
    ≤ sum_by (type_row_count indexed) (filter types (types_of indexed.rows))
few_sources indexed release is rising types =
    omega (
      arith,
      ap (λ (numbers : List ℕ). length numbers) (some_pair_is_source release types),
      few_pairs indexed release is rising types (is_outside (λ id. false)),
    )
