-- The rows that are read by type and the rows that are read by value count for the same numbers.
use Rattle.std.proofs.Common.{ℕ, suc, ◌≡◌, ◌<◌, ◌+◌, ◌∙◌, ◌∷◌, ◌++◌, [], inl, inr, arith}
use Rattle.std.proofs.Common.{Bool, true, false, ◌&&◌, ◌||◌, ◌==◌, cond, List, length, get_or, take, refl, sym, ap}
use Rattle.std.specs.Prelude.{count_by, filter}
use Rattle.std.specs.List.{flat_map, list_any}
use Rattle.std.specs.List.Sorted.{IsStrictlyIncreasing}
use Rattle.std.proofs.lemmas.Bool.{cases_eq, eq-eqb, eqb-true, ne_eqb}
use Rattle.std.proofs.lemmas.List.Elements.{filter_more}
use Rattle.std.proofs.Math.Bool.{and-false}
use Rattle.release_model.specs.Pairs.{value_eq}
use Rattle.release_model.specs.Release.{Value, concept_value, number_value, text_value}
use Rattle.constraint_tree.specs.Passing.{is_within}
use Rattle.number_lists.specs.Rising.{numbers_where, rises_within}
use Rattle.number_lists.proofs.WhereLemmas.{numbers_where-more}
use Rattle.number_lists.proofs.RisingLemmas.{rises_on}
use Rattle.number_lists.proofs.ListLemmas.{both_ways}
use Rattle.postings.specs.Entries.{Entry, entries_of}
use Rattle.postings.specs.Indexed.{Indexed, types_of}
use Rattle.pair_sets.specs.inside.Hits.{AreHits, entries_with_sources, entries_with_types, entries_with_values}
use Rattle.candidates.specs.Numbers.{is_one_of}
use Rattle.pair_sets.proofs.HitLemmas.{count-append}
use Rattle.pair_sets.proofs.LeafLemmas.{count_either, count_kept, count_none, types_counted}
use Rattle.candidates.proofs.Normal.{same_by_number}

-- ---- tests
-- a conjunction with true is its other part
always : (a : Bool) → a ≡ (a && true)
always true = refl
always false = refl

-- the first of four parts of a conjunction can be put last
moved : (a b c d : Bool) → (a && (b && (c && d))) ≡ (b && (c && (d && a)))
moved true b c d = λ i. b && (c && always d i)
moved false b c d = sym ((λ i. b && (c && and-false d i)) ∙ (λ i. b && and-false c i) ∙ and-false b)

-- two tests that are never passed together are not passed together with a third
both_apart : (a b c : Bool) → (a && b) ≡ false → ((a && c) && (b && c)) ≡ false
both_apart true true c apart = absurd cc
both_apart true false c apart = and-false c
both_apart false b c apart = refl

-- a disjunction within a conjunction may be split into two conjunctions
one_of_both : (a b c : Bool) → ((a || b) && c) ≡ ((a && c) || (b && c))
one_of_both true b true = refl
one_of_both true b false = sym (and-false b)
one_of_both false b c = refl

-- a test that is passed with neither of two others is not passed with their disjunction
apart_from_both : (a b c : Bool) → (a && b) ≡ false → (a && c) ≡ false → (a && (b || c)) ≡ false
apart_from_both true true c first second = first
apart_from_both true false c first second = second
apart_from_both false b c first second = refl

-- an equation can be read from either side
swapped : (a b : ℕ) → (a == b) ≡ (b == a)
swapped a b = both_ways (a == b) (b == a) (λ told. eq-eqb b a (sym (eqb-true a b told)))
    (λ told. eq-eqb a b (sym (eqb-true b a told)))

-- ---- the types so far
module _ (one : ℕ → Bool) (types : List ℕ) (k : ℕ) (within : k < length types) (answer : Bool)
    (asked : one (get_or types k 0) ≡ answer) where
  -- if `ids` has those of the first `k` types that pass `one`, adding type `k` exactly if it passes makes them those of
  -- the first `k + 1`
  pub id_more : (ids : List ℕ) → ids ≡ filter one (take k types)
      → ids ++ cond answer (get_or types k 0 ∷ []) [] ≡ filter one (take (k + 1) types)
  id_more ids are =
      (λ i. are i ++ cond (sym asked i) (get_or types k 0 ∷ []) []) ∙ sym (filter_more one types k 0 within)

  -- if `places` has the places below `k` of types that pass `one`, adding `k` exactly if type `k` passes makes them
  -- those below `k + 1`
  pub place_more : (places : List ℕ) → places ≡ numbers_where k (λ place. one (get_or types place 0))
      → places ++ cond answer (k ∷ []) [] ≡ numbers_where (k + 1) (λ place. one (get_or types place 0))
  place_more places are =
      (λ i. are i ++ cond (sym asked i) (k ∷ []) []) ∙ sym (numbers_where-more k (λ place. one (get_or types place 0)))

-- ---- rows key by key
-- whether a row has one of `keys`
abbrev pub has_some : (ℕ → Entry → Bool) → List ℕ → Entry → Bool
has_some has keys entry = list_any (λ key. has key entry) keys

-- rising keys, of which no row has two
module _ (bound : ℕ) (has : ℕ → Entry → Bool)
    (apart : (a b : ℕ) → a < bound → b < bound → (a ≡ b → ⊥) → (entry : Entry) → (has a entry && has b entry) ≡ false)
  where
    -- a row with a key below all of rising keys has none of these keys
    not_again : (key lowest : ℕ) → key < lowest → key < bound → (keys : List ℕ) → rises_within lowest bound keys ≡ true
        → (entry : Entry) → (has key entry && has_some has keys entry) ≡ false
    not_again key lowest less within [] rises entry = and-false (has key entry)
    not_again key lowest less within (next ∷ keys) rises entry =
        let on = rises_on lowest bound next keys rises in
        apart_from_both (has key entry) (has next entry) (has_some has keys entry)
        (apart key next within on.below (λ same. absurd (omega (arith, less, same, on.above))) entry)
        (not_again key (suc next) (omega (arith, less, on.above)) within keys on.rest entry)

    -- if no row has two keys, counting the rows key by key, for rising `keys`, counts the rows that have one of the
    -- keys
    pub keys_counted : (entries : List Entry) (test : Entry → Bool) (lowest : ℕ) (keys : List ℕ)
        → rises_within lowest bound keys ≡ true
        → count_by test (flat_map (λ key. filter (has key) entries) keys)
        ≡ count_by (λ entry. has_some has keys entry && test entry) entries
    keys_counted entries test lowest [] rises = sym (count_none (λ (entry : Entry). false) entries (λ entry. refl))
    keys_counted entries test lowest (key ∷ keys) rises =
        let on = rises_on lowest bound key keys rises in
        count-append test (filter (has key) entries) (flat_map (λ key. filter (has key) entries) keys)
        ∙ (λ i. count_kept (has key) test entries i + keys_counted entries test (suc key) keys on.rest i)
        ∙ count_either (λ entry. has key entry && test entry) (λ entry. has_some has keys entry && test entry)
        (λ (entry : Entry). has_some has (key ∷ keys) entry && test entry) entries
        (λ entry. both_apart (has key entry) (has_some has keys entry) (test entry)
        (not_again key (suc key) (omega arith) on.below keys on.rest entry))
        (λ entry. one_of_both (has key entry) (has_some has keys entry) (test entry))

-- ---- concepts as keys: the values of rows, and their sources
-- no number of a list passes the test that is always false
none_of : (numbers : List ℕ) → list_any (λ number. false) numbers ≡ false
none_of [] = refl
none_of (number ∷ numbers) = none_of numbers

module _ (concepts : List ℕ) where
  -- whether the value of a row is the concept with a number
  abbrev pub has_value : ℕ → Entry → Bool
  has_value number entry = value_eq entry.row.value (concept_value (get_or concepts number 0))

  -- whether the source of a row is the concept with a number
  abbrev pub has_source : ℕ → Entry → Bool
  has_source number entry = entry.row.source == get_or concepts number 0

  -- a value is the concept with one of `numbers` exactly if it is one of the concepts that they stand for
  value_of_some : (numbers : List ℕ) (value : Value)
      → list_any (λ number. value_eq value (concept_value (get_or concepts number 0))) numbers
      ≡ is_within (is_one_of concepts numbers) value
  value_of_some numbers (concept_value concept) =
      λ i. list_any (λ number. swapped concept (get_or concepts number 0) i) numbers
  value_of_some numbers (number_value decimal) = none_of numbers
  value_of_some numbers (text_value text) = none_of numbers

  module _ (rising : IsStrictlyIncreasing concepts) where
    -- no concept has two numbers
    one_number : (a b : ℕ) → a < length concepts → b < length concepts → (a ≡ b → ⊥) → (concept : ℕ)
        → ((concept == get_or concepts a 0) && (concept == get_or concepts b 0)) ≡ false
    one_number a b a_within b_within other concept = elim (cases_eq concept (get_or concepts a 0)) [
      | inl same ↦
          (λ i. (concept == get_or concepts a 0) && (ap (λ (c : ℕ). c == get_or concepts b 0) same
          ∙ same_by_number concepts rising a b a_within b_within ∙ ne_eqb a b other) i)
          ∙ and-false (concept == get_or concepts a 0)
      | inr differs ↦ (λ i. ne_eqb concept (get_or concepts a 0) differs i && (concept == get_or concepts b 0))
    ]

    -- no value is the concept with two numbers
    values_apart : (a b : ℕ) → a < length concepts → b < length concepts → (a ≡ b → ⊥) → (value : Value)
        → (value_eq value (concept_value (get_or concepts a 0)) && value_eq value (concept_value (get_or concepts b 0)))
        ≡ false
    values_apart a b a_within b_within other (concept_value concept) = one_number a b a_within b_within other concept
    values_apart a b a_within b_within other (number_value decimal) = refl
    values_apart a b a_within b_within other (text_value text) = refl

-- ---- hits of rows that are read by type or by value are hits of all rows
module _ (bound : ℕ) (belongs : ℕ → Entry → Bool) (first passes : Entry → Bool) (indexed : Indexed) (one : ℕ → Bool)
    (hits : List ℕ) where
  -- whether a row counts for a number: it belongs to it, is the first with its pair, and has a type and a value that
  -- pass
  abbrev pub counts : ℕ → Entry → Bool
  counts number entry = belongs number entry && (first entry && (one entry.row.type_id && passes entry))

  -- the hits of the rows whose type is among the types that pass `one` are the hits of all rows that count
  pub of_types : (ids : List ℕ) → ids ≡ filter one (types_of indexed.rows)
      → AreHits bound (λ number entry. belongs number entry && (first entry && passes entry))
      (entries_with_types indexed.rows ids) hits
      → AreHits bound counts (entries_of indexed.rows) hits
  of_types ids ids_are are = record {
    within = are.within;
    times = λ n inside.
        are.times n inside
        ∙ ap (λ (all : List ℕ). count_by (λ (entry : Entry). belongs n entry && (first entry && passes entry))
        (entries_with_types indexed.rows all)) ids_are
        ∙ types_counted indexed.rows one (belongs n) first passes;
  }

  -- the hits of the rows of keys, of which no row has two, are the hits of all rows that count
  of_keys : (has : ℕ → Entry → Bool) (count : ℕ)
      → ((a b : ℕ) → a < count → b < count → (a ≡ b → ⊥) → (entry : Entry) → (has a entry && has b entry) ≡ false)
      → (keys : List ℕ) → rises_within 0 count keys ≡ true → ((entry : Entry) → has_some has keys entry ≡ passes entry)
      → AreHits bound (λ number entry. belongs number entry && (first entry && one entry.row.type_id))
      (flat_map (λ key. filter (has key) (entries_of indexed.rows)) keys) hits
      → AreHits bound counts (entries_of indexed.rows) hits
  of_keys has count apart keys rises told are = record {
    within = are.within;
    times = λ n inside.
        are.times n inside
        ∙ keys_counted count has apart (entries_of indexed.rows)
        (λ (entry : Entry). belongs n entry && (first entry && one entry.row.type_id)) 0 keys rises
        ∙ (λ i. count_by (λ (entry : Entry). moved (told entry i) (belongs n entry) (first entry)
        (one entry.row.type_id) i) (entries_of indexed.rows));
  }

module _ (bound : ℕ) (belongs : ℕ → Entry → Bool) (first : Entry → Bool) (indexed : Indexed)
    (rising : IsStrictlyIncreasing indexed.concepts)
    (one : ℕ → Bool) (hits numbers : List ℕ) (rises : rises_within 0 (length indexed.concepts) numbers ≡ true) where
  -- whether a value is one of the concepts `numbers`
  abbrev pub passing : Value → Bool
  passing = is_within (is_one_of indexed.concepts numbers)

  -- the hits of the rows whose value is in `numbers` are the hits of all rows that count and have such a value
  pub of_values : AreHits bound (λ number entry. belongs number entry && (first entry && one entry.row.type_id))
      (entries_with_values indexed numbers) hits
      → AreHits bound (λ number entry. belongs number entry
      && (first entry && (one entry.row.type_id && passing entry.row.value)))
      (entries_of indexed.rows) hits
  of_values are =
      of_keys bound belongs first (λ entry. passing entry.row.value) indexed one hits (has_value indexed.concepts)
      (length indexed.concepts)
      (λ a b a_within b_within other entry. values_apart indexed.concepts rising a b a_within b_within other
      entry.row.value)
      numbers rises (λ entry. value_of_some indexed.concepts numbers entry.row.value) are

  -- read backwards, the hits of the rows whose source is in `numbers` are the hits of all rows that count and have such
  -- a source
  pub of_sources : AreHits bound (λ number entry. belongs number entry && (first entry && one entry.row.type_id))
      (entries_with_sources indexed numbers) hits
      → AreHits bound (λ number entry. belongs number entry
      && (first entry && (one entry.row.type_id && passing (concept_value entry.row.source))))
      (entries_of indexed.rows) hits
  of_sources are =
      of_keys bound belongs first (λ entry. passing (concept_value entry.row.source)) indexed one hits
      (has_source indexed.concepts)
      (length indexed.concepts)
      (λ a b a_within b_within other entry. one_number indexed.concepts rising a b a_within b_within other
      entry.row.source)
      numbers rises (λ entry. value_of_some indexed.concepts numbers (concept_value entry.row.source)) are
