-- What a leaf reads is within its bound, under each choice.
use Rattle.std.proofs.Common.{ℕ, ◌+◌, [], ◌≡◌, ◌≤◌, ◌∙◌, Bool, true, List, Option, Some, None, length, get_or}
use Rattle.std.proofs.Common.{refl, sym, ap, subst, arith}
use Rattle.std.specs.Prelude.{◌&&◌, ◌==◌, count_by, filter}
use Rattle.std.specs.List.{flat_map, sum_by}
use Rattle.std.specs.List.Sorted.{IsStrictlyIncreasing}
use Rattle.std.proofs.lemmas.Bool.{and_parts, eq-eqb, eqb-true, false≢true}
use Rattle.std.proofs.Math.Bool.{or-false}
use Rattle.std.proofs.lemmas.List.Concat.{length-flat_map}
use Rattle.std.proofs.lemmas.List.Sums.{length-filter, sum_by-cons}
use Rattle.release_model.specs.Release.{Attribute, Release}
use Rattle.number_lists.specs.Members.{has}
use Rattle.number_lists.specs.Rising.{IsRisingBelow}
use Rattle.held_release.specs.Numbering.{concept_number}
use Rattle.set_algebra.specs.Meaning.{means}
use Rattle.set_algebra.specs.Physical.{Physical, PhysicalTest, logical, physical_empty, physical_all, physical_one}
use Rattle.set_algebra.specs.Physical.{physical_walk, physical_members, physical_and, physical_or, physical_minus}
use Rattle.set_algebra.specs.Physical.{physical_values, physical_pairs, physical_groups}
use Rattle.postings.specs.Indexed.{Indexed, IsIndexOf, types_of}
use Rattle.postings.specs.Stats.{type_row_count}
use Rattle.postings.proofs.PlaceLemmas.{length-places_from}
use Rattle.plan_bounds.specs.Alternatives.{leaf_bound}
use Rattle.plan_bounds.specs.Counts.{counted, leaf_of, rows_left, type_rows, value_row_count, value_rows}
use Rattle.plan_bounds.proofs.FewLemmas.{count_le, count_none}
use Rattle.candidates.specs.RowCounts.{row_count_of}
use Rattle.candidates.specs.Numbers.{is_one_of, numbers_in}
use Rattle.candidates.proofs.Normal.{as_list, concept_number-Some, none_in, one_in}
use Rattle.constraint_tree.specs.declared.operator.Cardinality.{Cardinality}
use Rattle.set_algebra.specs.declared.choice.Choice.{Choice}
use Rattle.set_algebra.specs.declared.choice.Choice.TheVariants.{ByValue, ByType, Scan}
use Rattle.pair_sets.specs.Room.{leaf_items, type_items, value_items}
use Rattle.pair_sets.specs.Tested.{found_for}
use Rattle.pair_sets.specs.declared.tested.Tested.{Tested}
use Rattle.pair_sets.proofs.LeafLemmas.{count_by_keys, types_apart}
use Rattle.pair_sets.proofs.RoomLemmas.{all_pass, rows_few, type_rows_few}

-- the rows of the types that pass `one` are the rows whose type passes it
kept_rows : (indexed : Indexed) (one : ℕ → Bool)
    → sum_by (type_row_count indexed) (filter one (types_of indexed.rows))
    ≡ count_by (λ (row : Attribute). (has (types_of indexed.rows) row.type_id && one row.type_id) && true) indexed.rows
kept_rows indexed one =
    let rows = indexed.rows in
    let types = types_of rows in
    let own : ℕ → List Attribute = λ id. filter (λ (row : Attribute). row.type_id == id) rows in
    (λ i. sum_by (λ id. length-places_from (λ (row : Attribute). row.type_id == id) 0 rows i) (filter one types))
    ∙ sym (length-flat_map own (filter one types))
    ∙ sym (all_pass (flat_map own (filter one types)))
    ∙ count_by_keys (λ (row : Attribute). row.type_id) one (λ row. true) rows types (types_apart rows)

-- the rows of the types that pass `one`, if only the type `id` may pass, are at most the rows of `id`
rows_of_one : (indexed : Indexed) (one : ℕ → Bool) (id : ℕ) → ((other : ℕ) → one other ≡ true → (other == id) ≡ true)
    → sum_by (type_row_count indexed) (filter one (types_of indexed.rows)) ≤ type_row_count indexed id
rows_of_one indexed one id alone =
    let rows = indexed.rows in
    let types = types_of rows in
    omega (
      arith,
      kept_rows indexed one,
      count_le (λ (row : Attribute). (has types row.type_id && one row.type_id) && true)
          (λ (row : Attribute). row.type_id == id) rows
          (λ row passes. alone row.type_id (and_parts (has types row.type_id) (one row.type_id)
          (and_parts (has types row.type_id && one row.type_id) true passes).0).1),
      length-filter (λ (row : Attribute). row.type_id == id) rows,
      length-places_from (λ (row : Attribute). row.type_id == id) 0 rows,
    )

module _ (release : Release) (indexed : Indexed) (index : IsIndexOf indexed release)
    (rising : IsStrictlyIncreasing release.concepts)
    (items : List ℕ) (size : ℕ) (few : length items ≤ size) where
  -- the items of the types found are at most `size` and all rows
  of_any : type_items indexed items ≤ size + length indexed.rows
  of_any = omega (arith, few, type_rows_few indexed (is_one_of indexed.concepts items))

  -- if the items are the number of a concept `id`, each concept among them is `id`
  one_alone : (id : ℕ) (number : Option ℕ) → concept_number release.concepts id ≡ number → items ≡ as_list number
      → (other : ℕ) → is_one_of indexed.concepts items other ≡ true → (other == id) ≡ true
  one_alone id None at is other told =
      absurd (false≢true (ap (λ (xs : List ℕ). is_one_of indexed.concepts xs other) (sym is) ∙ told))
  one_alone id (Some n) at is other told =
      let found = concept_number-Some release.concepts id n at in
      let named : get_or indexed.concepts n 0 ≡ id = ap (λ (ids : List ℕ). get_or ids n 0) index.concepts ∙ found.1 in
      let same : (get_or indexed.concepts n 0 == other) ≡ true =
      sym (or-false (get_or indexed.concepts n 0 == other))
      ∙ ap (λ (xs : List ℕ). is_one_of indexed.concepts xs other) (sym is) ∙ told in
      eq-eqb other id (sym (eqb-true (get_or indexed.concepts n 0) other same) ∙ named)

  -- if `items` is what `plan` means for the types of a leaf, and has at most `size` concepts, reading the types and
  -- their rows takes at most `size` items and the rows of the plan's types
  pub types_read : (plan : Physical) → items ≡ numbers_in release (means release (logical plan))
      → type_items indexed items ≤ size + type_rows indexed plan
  types_read (physical_one id) is =
      let number = concept_number release.concepts id in
      omega (
        arith,
        few,
        rows_of_one indexed (is_one_of indexed.concepts items) id
            (one_alone id number refl (is ∙ sym (one_in release rising id number refl))),
      )
  types_read physical_empty is =
      let rows = indexed.rows in
      let none : items ≡ [] = is ∙ sym (none_in release) in
      omega (
        arith,
        few,
        kept_rows indexed (is_one_of indexed.concepts items),
        count_none (λ (row : Attribute). (has (types_of rows) row.type_id
            && is_one_of indexed.concepts items row.type_id) && true) rows
            (λ row there passes. false≢true (ap (λ (xs : List ℕ). is_one_of indexed.concepts xs row.type_id) (sym none)
            ∙ (and_parts (has (types_of rows) row.type_id) (is_one_of indexed.concepts items row.type_id)
            (and_parts (has (types_of rows) row.type_id && is_one_of indexed.concepts items row.type_id)
            true passes).0).1)),
      )
  types_read physical_all is = of_any
  types_read (physical_walk operator operand) is = of_any
  types_read (physical_members operand) is = of_any
  types_read (physical_and parts) is = of_any
  types_read (physical_or parts) is = of_any
  types_read (physical_minus first second) is = of_any
  types_read (physical_values start names) is = of_any
  types_read (physical_pairs back count types test choice) is = of_any
  types_read (physical_groups count units) is = of_any

  -- ---- by value: the values found, and their rows
  module _ (back : Bool) (below : IsRisingBelow (length release.concepts) items) where
    -- the rows of the values found are at most all rows
    rows_of_any : sum_by (row_count_of indexed back) items ≤ length indexed.rows
    rows_of_any =
        rows_few indexed (subst IsStrictlyIncreasing (sym index.concepts) rising) items
        (subst (λ (ids : List ℕ). IsRisingBelow (length ids) items) (sym index.concepts) below) back

    -- the rows of at most one value are at most those of its number
    rows_of_number : (number : Option ℕ) → sum_by (row_count_of indexed back) (as_list number)
        ≤ counted (row_count_of indexed back) number
    rows_of_number None = omega arith
    rows_of_number (Some n) = omega (arith, sum_by-cons (row_count_of indexed back) n [])

    -- if `items` is what `plan` means, the rows with one of them as value or (if `back`) as source are at most those
    -- that `rows_left` allows for the plan
    pub values_read : (plan : Physical) → items ≡ numbers_in release (means release (logical plan))
        → sum_by (row_count_of indexed back) items ≤ rows_left (value_row_count indexed back) (length indexed.rows) plan
    values_read (physical_one id) is =
        let number = concept_number release.concepts id in
        omega (
          arith,
          ap (sum_by (row_count_of indexed back)) (is ∙ sym (one_in release rising id number refl)),
          rows_of_number number,
          ap (λ (ids : List ℕ). counted (row_count_of indexed back) (concept_number ids id)) index.concepts,
        )
    values_read physical_empty is = omega (arith, ap (sum_by (row_count_of indexed back)) (is ∙ sym (none_in release)))
    values_read physical_all is = rows_of_any
    values_read (physical_walk operator operand) is = rows_of_any
    values_read (physical_members operand) is = rows_of_any
    values_read (physical_and parts) is = rows_of_any
    values_read (physical_or parts) is = rows_of_any
    values_read (physical_minus first second) is = rows_of_any
    values_read (physical_values start names) is = rows_of_any
    values_read (physical_pairs other count types test choice) is = rows_of_any
    values_read (physical_groups count units) is = rows_of_any

-- ---- the bound of a leaf has room for what its choice reads
-- what a leaf reads under `choice` is at most the bound of that choice, computed from how many concepts its types and
-- its test have found
pub leaf_room : (release : Release) (indexed : Indexed) → IsIndexOf indexed release
    → IsStrictlyIncreasing release.concepts
    → {S : Type 0} (items_of : S → List ℕ) (all : ℕ) (back : Bool) (count : Cardinality) (types : Physical)
    (test : PhysicalTest) (found : List ℕ)
    → found ≡ numbers_in release (means release (logical types)) → (tested : Tested S)
    → ((back : Bool) → value_items items_of indexed back tested ≤ found_for items_of tested
    + value_rows indexed back test)
    → (type_count value_count : ℕ) → type_count ≡ length found → value_count ≡ found_for items_of tested
    → (choice : Choice)
    → leaf_items items_of indexed back choice found tested
    ≤ leaf_bound (leaf_of indexed all back count types test type_count value_count) choice
leaf_room release indexed index rising items_of all back count types test found is tested read type_count value_count
    typed_is tested_is ByValue =
    omega (arith, read back, tested_is)
leaf_room release indexed index rising items_of all back count types test found is tested read type_count value_count
    typed_is tested_is ByType =
    omega (arith, types_read release indexed index rising found (length found) (omega arith) types is, typed_is)
leaf_room release indexed index rising items_of all back count types test found is tested read type_count value_count
    typed_is tested_is Scan =
    omega arith
