-- The values of attribute rows by their numbers: the concepts, the decimals and the other texts.
use Rattle.std.proofs.Common.{ℕ, ℤ, zero, suc, ◌+◌, ◌-◌, ◌==◌, ◌≡◌, ◌≤◌, ◌<◌, ◌++◌, ◌∷◌, [], ◌∙◌}
use Rattle.std.proofs.Common.{◌⊎◌, inl, inr, Bool, true, false, List, length, get_or, map, nat_eq, Some, refl, sym}
use Rattle.std.proofs.Common.{ap, slice_index, subst, arith, length-append}
use Rattle.std.specs.Prelude.{All, Contains, bytes_eq}
use Rattle.std.specs.List.{AllByRecursion, IsDistinct, slice_get}
use Rattle.std.specs.List.Sorted.{IsStrictlyIncreasing, IsStrictlySortedBy}
use Rattle.std.specs.Cmp.Lexicographic.{texts_ties}
use Rattle.std.specs.Ordering.{int_cmp, int_eq}
use Rattle.std.proofs.lemmas.Bool.{cases_lt, cases_order, eq-eqb, false_from_ne_true, ne_eqb, true≢false}
use Rattle.std.proofs.lemmas.List.{get_or-append-add, get_or_append_left, get_or-map, get_or_default, length-map}
use Rattle.std.proofs.lemmas.List.Elements.{All-append, All-cons, All-head, All-map}
use Rattle.std.proofs.lemmas.List.Elements.{All-nil, All-tail, Contains-append_left, Contains-append_right}
use Rattle.std.proofs.lemmas.List.Elements.{Contains-append_cases}
use Rattle.std.proofs.lemmas.List.Elements.{recursion_from_All}
use Rattle.std.proofs.lemmas.Map.Keys.{IsDistinct-from_sorted, IsDistinct-from_apart, apart_from_distinct}
use Rattle.std.proofs.lemmas.Option.{get_or_from_slice_get, slice_get-get_or, slice_get_within}
use Rattle.release_model.specs.Pairs.{value_eq}
use Rattle.release_model.specs.Release.{Attribute, Value, concept_value, number_value, text_value}
use Rattle.release_model.proofs.PairLemmas.{tells_same_value}
use Rattle.held_release.specs.AttributesBySource.{IsNumberBelow, by_identifiers, value_by_identifier}
use Rattle.held_release.specs.ValuesInForce.{is_value_among}
use Rattle.number_lists.proofs.MemberLemmas.{contains_had}
use Rattle.number_lists.proofs.BlockLemmas.{Contains-map}
use Rattle.number_lists.proofs.IncreasingLemmas.{earlier_below}
use Rattle.held_release.specs.CodedRows.{value_at, values_among, values_in}
use Rattle.held_release.specs.RowValues.{AreTables, IsInTables, decimals_at, decimals_of, text_cmp, texts_at, texts_of}
use Rattle.held_release.specs.inside.NumberedInside.{IsNumbered, attributes_numbered, row_numbered, value_numbered}
use Rattle.held_release.specs.declared.numbered_attributes.NumberedRow.{NumberedRow}
use Rattle.held_release.specs.declared.values.Values.{Values}
use Rattle.row_lists.specs.ConcreteValues.{Concrete, a_number, a_text, concrete_value}
use Rattle.held_release.proofs.SortedLemmas.{known_by_number}

-- each item of `map f xs` is `f` of an item of `xs`
pub from_map : {X Y : Type 0} (f : X → Y) (xs : List X) (y : Y) → Contains (map f xs) y
    → (x : X) × Contains xs x × (f x ≡ y)
from_map f [] y (k, below, is) = absurd (omega arith)
from_map f (x ∷ xs) y (zero, below, is) = (x, (0, omega arith, refl), is)
from_map f (x ∷ xs) y (suc k, below, is) =
    let later = from_map f xs y (k, omega arith, is) in
    (later.0, Contains-append_right (x ∷ []) xs later.0 later.1, later.2)

-- ---- the values that are no concepts: some decimals and texts
module _ (decimals : List ℤ) (texts : List (List ℕ)) where
  -- the values that are no concepts: first the decimals, and then the texts
  abbrev pub values_after : List Value
  values_after = map number_value decimals ++ map text_value texts

  -- the values that are no concepts are as many as the decimals and the texts
  pub length-values_after : length values_after ≡ length decimals + length texts
  length-values_after = omega (
    arith,
    length-append (map number_value decimals) (map text_value texts),
    length-map decimals number_value,
    length-map texts text_value,
  )

  -- among the values that are no concepts, value `k` is decimal `k`
  decimal_after : (k : ℕ) (d : Value) (e : ℤ) → k < length decimals
      → get_or values_after k d ≡ number_value (get_or decimals k e)
  decimal_after k d e below =
      get_or_append_left (map number_value decimals) (map text_value texts) d k
      (omega (arith, below, length-map decimals number_value))
      ∙ get_or-map number_value decimals k e d below

  -- in the list of decimals and then texts, item `k` after the decimals is text `k`
  pub text_after : (k : ℕ) (d : Value) → k < length texts
      → get_or values_after (length decimals + k) d ≡ text_value (get_or texts k [])
  text_after k d below =
      ap (λ (n : ℕ). get_or values_after (n + k) d) (sym (length-map decimals number_value))
      ∙ get_or-append-add (map number_value decimals) (map text_value texts) k d
      ∙ get_or-map text_value texts k [] d below

-- ---- the values of some concepts, decimals and texts
module _ (concepts : List ℕ) (decimals : List ℤ) (texts : List (List ℕ)) where
  abbrev values : List Value
  values = values_among concepts decimals texts

  -- the values after the concepts
  abbrev following : List Value
  following = values_after decimals texts

  -- there are as many values as concepts, decimals and texts together
  pub length-values : length values ≡ length concepts + (length decimals + length texts)
  length-values = omega (
    arith,
    length-append (map concept_value concepts) following,
    length-map concepts concept_value,
    length-values_after decimals texts,
  )

  -- item `k` after the concepts is item `k` of the decimals and texts
  pub value_after : (k : ℕ) (d : Value) → get_or values (length concepts + k) d ≡ get_or following k d
  value_after k d =
      ap (λ (n : ℕ). get_or values (n + k) d) (sym (length-map concepts concept_value))
      ∙ get_or-append-add (map concept_value concepts) following k d

  -- the value with the number `k` is concept `k`, if `k` is below the number of concepts
  pub concept_at : (k : ℕ) (d : Value) → k < length concepts → get_or values k d ≡ concept_value (get_or concepts k 0)
  concept_at k d below =
      get_or_append_left (map concept_value concepts) following d k
      (omega (arith, below, length-map concepts concept_value))
      ∙ get_or-map concept_value concepts k 0 d below

  -- the value with the number `k` plus the number of concepts is decimal `k`
  pub decimal_at : (k : ℕ) (d : Value) (e : ℤ) → k < length decimals
      → get_or values (length concepts + k) d ≡ number_value (get_or decimals k e)
  decimal_at k d e below = value_after k d ∙ decimal_after decimals texts k d e below

  -- each of `concepts` is among the values
  pub concept_there : (concept : ℕ) → Contains concepts concept → Contains values (concept_value concept)
  concept_there concept there = Contains-append_left (map concept_value concepts) following (concept_value concept)
      (Contains-map concept_value concepts concept there)

  -- each of `decimals` is among the values
  pub decimal_there : (decimal : ℤ) → Contains decimals decimal → Contains values (number_value decimal)
  decimal_there decimal there =
      Contains-append_right (map concept_value concepts) following (number_value decimal)
      (Contains-append_left (map number_value decimals) (map text_value texts) (number_value decimal)
      (Contains-map number_value decimals decimal there))

  -- each of `texts` is among the values
  pub text_there : (text : List ℕ) → Contains texts text → Contains values (text_value text)
  text_there text there =
      Contains-append_right (map concept_value concepts) following (text_value text)
      (Contains-append_right (map number_value decimals) (map text_value texts) (text_value text)
      (Contains-map text_value texts text there))

  -- a value is of a concept, a decimal or a text
  cases_of : (value : Value) → Contains values value
      → (((x : ℕ) × Contains concepts x × (concept_value x ≡ value)) ⊎
      (((x : ℤ) × Contains decimals x × (number_value x ≡ value)) ⊎
      ((x : List ℕ) × Contains texts x × (text_value x ≡ value))))
  cases_of value there = elim (Contains-append_cases (map concept_value concepts) following value there) [
    | inl among ↦ inl (from_map concept_value concepts value among)
    | inr others ↦ elim (Contains-append_cases (map number_value decimals) (map text_value texts) value others) [
      | inl among ↦ inr (inl (from_map number_value decimals value among))
      | inr among ↦ inr (inr (from_map text_value texts value among))
    ]
  ]

  -- a decimal that is among the values is in `decimals`
  pub had_decimal : (decimal : ℤ) → Contains values (number_value decimal) → Contains decimals decimal
  had_decimal decimal there = elim (cases_of (number_value decimal) there) [
    | inl found ↦ absurd (cc (found.2))
    | inr (inl found) ↦ let same : found.0 ≡ decimal = cc (found.2) in subst (Contains decimals) same found.1
    | inr (inr found) ↦ absurd (cc (found.2))
  ]

  -- a text that is among the values is in `texts`
  pub had_text : (text : List ℕ) → Contains values (text_value text) → Contains texts text
  had_text text there = elim (cases_of (text_value text) there) [
    | inl found ↦ absurd (cc (found.2))
    | inr (inl found) ↦ absurd (cc (found.2))
    | inr (inr found) ↦ let same : found.0 ≡ text = cc (found.2) in subst (Contains texts) same found.1
  ]

  -- a value that is no concept and is among the values is in its table
  pub had_concrete : (value : Concrete) → Contains values (value_by_identifier concepts (concrete_value value))
      → IsInTables decimals texts value
  had_concrete (a_number decimal) there = had_decimal decimal there
  had_concrete (a_text text) there = had_text text there

-- ---- the places of values in their tables

-- the value with the number of a concept is the concept
pub concept_placed : (concepts : List ℕ) (decimals : List ℤ) (texts : List (List ℕ)) (number : ℕ)
    → number < length concepts
    → slice_get (values_among concepts decimals texts) number ≡ Some (concept_value (slice_index concepts number))
concept_placed concepts decimals texts number below =
    slice_get-get_or (values_among concepts decimals texts) number (concept_value 0)
    (omega (arith, below, length-values concepts decimals texts))
    ∙ ap (λ (value : Value). Some value) (concept_at concepts decimals texts number (concept_value 0) below)

-- among the values that are no concepts, the place of a text is its own plus the number of decimals
pub text_placed : (decimals : List ℤ) (texts : List (List ℕ)) (text : List ℕ) (place : ℕ)
    → slice_get texts place ≡ Some text
    → slice_get (values_after decimals texts) (length decimals + place) ≡ Some (text_value text)
text_placed decimals texts text place found =
    let below : place < length texts = slice_get_within texts place text found in
    slice_get-get_or (values_after decimals texts) (length decimals + place) (text_value text)
    (omega (arith, below, length-values_after decimals texts))
    ∙ ap (λ (value : Value). Some value) (text_after decimals texts place (text_value text) below
    ∙ ap text_value (get_or_from_slice_get texts place text [] found))

-- the number of a value that is no concept is its place among these values plus the number of concepts
pub value_placed : (concepts : List ℕ) (decimals : List ℤ) (texts : List (List ℕ)) (value : Value) (place : ℕ)
    → slice_get (values_after decimals texts) place ≡ Some value
    → slice_get (values_among concepts decimals texts) (length concepts + place) ≡ Some value
value_placed concepts decimals texts value place found =
    let following = values_after decimals texts in
    let below : place < length following = slice_get_within following place value found in
    slice_get-get_or (values_among concepts decimals texts) (length concepts + place) value
    (omega (arith, below, length-values concepts decimals texts, length-values_after decimals texts))
    ∙ ap (λ (value : Value). Some value) (value_after concepts decimals texts place value
    ∙ get_or_from_slice_get following place value value found)

-- ---- the values of rows
-- the rows have together at most as many decimals and texts as there are rows
pub few_values : (rows : List Attribute) → length (decimals_of rows) + length (texts_of rows) ≤ length rows
few_values [] = omega arith
few_values (row ∷ rows) =
    omega (
      arith,
      length-append (decimals_at row.value) (decimals_of rows),
      length-append (texts_at row.value) (texts_of rows),
      one row.value,
      few_values rows,
    )
  where
    one : (value : Value) → length (decimals_at value) + length (texts_at value) ≤ 1
    one (concept_value concept) = omega arith
    one (number_value decimal) = omega arith
    one (text_value text) = omega arith

-- values of rows, by tables that have the concepts, the decimals and the texts of the rows
module _ (concepts : List ℕ) (decimals : List ℤ) (texts : List (List ℕ)) where
  value_there : (value : Value) → is_value_among concepts value ≡ true
      → ((decimal : ℤ) → Contains (decimals_at value) decimal → Contains decimals decimal)
      → ((text : List ℕ) → Contains (texts_at value) text → Contains texts text)
      → Contains (values_among concepts decimals texts) value
  value_there (concept_value concept) among had_decimals had_texts =
      concept_there concepts decimals texts concept (contains_had concepts concept among)
  value_there (number_value decimal) among had_decimals had_texts =
      decimal_there concepts decimals texts decimal (had_decimals decimal (0, omega arith, refl))
  value_there (text_value text) among had_decimals had_texts =
      text_there concepts decimals texts text (had_texts text (0, omega arith, refl))

  -- if each decimal and text of the rows is in the tables, and each value that is a concept is in `concepts`, then each
  -- row's value is among the values
  pub values_there : (rows : List Attribute) → All (λ (row : Attribute). is_value_among concepts row.value ≡ true) rows
      → ((decimal : ℤ) → Contains (decimals_of rows) decimal → Contains decimals decimal)
      → ((text : List ℕ) → Contains (texts_of rows) text → Contains texts text)
      → All (λ (row : Attribute). Contains (values_among concepts decimals texts) row.value) rows
  values_there [] among had_decimals had_texts =
      All-nil (λ row. Contains (values_among concepts decimals texts) row.value)
  values_there (row ∷ rows) among had_decimals had_texts =
      All-cons (λ row. Contains (values_among concepts decimals texts) row.value) row rows
      (value_there row.value (All-head (λ (row : Attribute). is_value_among concepts row.value ≡ true) row rows among)
      (λ decimal there. had_decimals decimal (Contains-append_left (decimals_at row.value) (decimals_of rows) decimal
      there))
      (λ text there. had_texts text (Contains-append_left (texts_at row.value) (texts_of rows) text there)))
      (values_there rows (All-tail (λ (row : Attribute). is_value_among concepts row.value ≡ true) row rows among)
      (λ decimal there. had_decimals decimal (Contains-append_right (decimals_at row.value) (decimals_of rows) decimal
      there))
      (λ text there. had_texts text (Contains-append_right (texts_at row.value) (texts_of rows) text there)))

-- ---- the values of rows by numbers

-- a value that is no concept has no identifier to be replaced
pub same_concrete : (concepts : List ℕ) (value : Concrete)
    → value_by_identifier concepts (concrete_value value) ≡ concrete_value value
same_concrete concepts (a_number decimal) = refl
same_concrete concepts (a_text text) = refl

module _ (concepts : List ℕ) where
  -- replacing a concept's number by its identifier does not change which decimal a value is, if any
  same_decimals : (value : Value) → decimals_at (value_by_identifier concepts value) ≡ decimals_at value
  same_decimals (concept_value number) = refl
  same_decimals (number_value decimal) = refl
  same_decimals (text_value text) = refl

  -- replacing a concept's number by its identifier does not change which text a value is, if any
  same_texts : (value : Value) → texts_at (value_by_identifier concepts value) ≡ texts_at value
  same_texts (concept_value number) = refl
  same_texts (number_value decimal) = refl
  same_texts (text_value text) = refl

  -- the identifier of a number below the number of concepts is one of `concepts`
  value_known : (value : Value) → IsNumberBelow (length concepts) value
      → is_value_among concepts (value_by_identifier concepts value) ≡ true
  value_known (concept_value number) below = known_by_number concepts number below
  value_known (number_value decimal) below = refl
  value_known (text_value text) below = refl

  module _ (values : List Concrete) where
    -- rows with identifiers have the decimals of the rows with numbers
    pub decimals_numbered : (rows : List NumberedRow)
        → decimals_of (attributes_numbered concepts values rows) ≡ decimals_of (map (row_numbered values) rows)
    decimals_numbered [] = refl
    decimals_numbered (row ∷ rows) =
        λ i. same_decimals (value_numbered values row.value) i ++ decimals_numbered rows i

    -- rows with identifiers have the texts of the rows with numbers
    pub texts_numbered : (rows : List NumberedRow)
        → texts_of (attributes_numbered concepts values rows) ≡ texts_of (map (row_numbered values) rows)
    texts_numbered [] = refl
    texts_numbered (row ∷ rows) = λ i. same_texts (value_numbered values row.value) i ++ texts_numbered rows i

    -- the values of rows by numbers are among the concepts, if they are concepts
    pub values_known : (rows : List NumberedRow) → All (IsNumbered (length concepts) values) rows
        → All (λ (row : Attribute). is_value_among concepts row.value ≡ true)
        (attributes_numbered concepts values rows)
    values_known rows are =
        let among : Attribute → Type 0 = λ row. is_value_among concepts row.value ≡ true in
        All-map among (by_identifiers concepts) (map (row_numbered values) rows)
        (All-map (λ row. among (by_identifiers concepts row)) (row_numbered values) rows
        (λ k d within. value_known (value_numbered values (get_or rows k d).value) (are k d within).below.value))

-- ---- no value is there twice

-- if no two items of `xs` have `f` equal by `same`, `map f xs` has no repeats
pub distinct_map : {X Y : Type 0} (same : Y → Y → Bool) (f : X → Y) (xs : List X)
    → IsDistinct (λ x y. same (f x) (f y)) xs
    → IsDistinct same (map f xs)
unfolding IsDistinct
distinct_map same f [] apart = tt
distinct_map {X} same f (x ∷ xs) apart = (all_map xs apart.0, distinct_map same f xs apart.1)
  where
    all_map : (ys : List X) → AllByRecursion (λ y. same (f x) (f y) ≡ false) ys
        → AllByRecursion (λ y. same (f x) y ≡ false) (map f ys)
    all_map [] all = tt
    all_map (y ∷ ys) all = (all.0, all_map ys all.1)

-- in a strictly rising list, two concepts are equal exactly if their places `v` and `w` are
pub rising_apart : (concepts : List ℕ) → IsStrictlyIncreasing concepts → (v w : ℕ) → v < length concepts
    → w < length concepts
    → (get_or concepts v 0 == get_or concepts w 0) ≡ (v == w)
rising_apart concepts rising v w in' there = elim (cases_order v w) [
  | inl same ↦ eq-eqb (get_or concepts v 0) (get_or concepts w 0) (ap (λ (k : ℕ). get_or concepts k 0) same)
      ∙ sym (eq-eqb v w same)
  | inr (inl before) ↦
      let below = earlier_below concepts rising v w before there in
      ne_eqb (get_or concepts v 0) (get_or concepts w 0) (λ is. omega arith) ∙ sym (ne_eqb v w (λ is. omega arith))
  | inr (inr after) ↦
      let below = earlier_below concepts rising w v after in' in
      ne_eqb (get_or concepts v 0) (get_or concepts w 0) (λ is. omega arith) ∙ sym (ne_eqb v w (λ is. omega arith))
]

-- two lists without repeats have none when joined, if no item of the first is the same as one of the second
apart_both : {X : Type 0} (same : X → X → Bool) (xs ys : List X) → IsDistinct same xs → IsDistinct same ys
    → AllByRecursion (λ x. AllByRecursion (λ y. same x y ≡ false) ys) xs → IsDistinct same (xs ++ ys)
unfolding IsDistinct
apart_both same [] ys first later cross = later
apart_both {X} same (x ∷ xs) ys first later cross = (all_both xs first.0, apart_both same xs ys first.1 later cross.1)
  where
    all_both : (zs : List X) → AllByRecursion (λ z. same x z ≡ false) zs
        → AllByRecursion (λ z. same x z ≡ false) (zs ++ ys)
    all_both [] all = cross.0
    all_both (z ∷ zs) all = (all.0, all_both zs all.1)

-- decimals that rise strictly have no repeats
decimals_differ : (decimals : List ℤ) → IsStrictlySortedBy int_cmp decimals → IsDistinct int_eq decimals
decimals_differ decimals rises = IsDistinct-from_sorted int_cmp decimals rises

-- texts that rise strictly have no repeats
texts_differ : (texts : List (List ℕ)) → IsStrictlySortedBy text_cmp texts → IsDistinct bytes_eq texts
texts_differ texts rises =
    subst (λ (same : List ℕ → List ℕ → Bool). IsDistinct same texts) (λ i one other. sym (texts_ties one other) i)
    (IsDistinct-from_sorted text_cmp texts rises)

module _ (concepts : List ℕ) (values : Values) (rising : IsStrictlyIncreasing concepts) where
  abbrev all : List Value
  all = values_in concepts values

  abbrev numbers : List ℤ
  numbers = values.decimals.items

  -- no value after the concepts is a concept
  no_concept : (concept : ℕ) → All (λ value. value_eq value (concept_value concept) ≡ false)
      (values_after numbers values.texts)
  no_concept concept =
      All-append (λ value. value_eq value (concept_value concept) ≡ false) (map number_value numbers)
      (map text_value values.texts)
      (All-map (λ value. value_eq value (concept_value concept) ≡ false) number_value numbers (λ k d below. refl))
      (All-map (λ value. value_eq value (concept_value concept) ≡ false) text_value values.texts (λ k d below. refl))

  -- a concept is no decimal and no text
  concepts_apart : AllByRecursion (λ one. AllByRecursion (λ other. value_eq one other ≡ false)
      (values_after numbers values.texts)) (map concept_value concepts)
  concepts_apart =
      let apart : Value → Type 0 = λ one. AllByRecursion (λ other. value_eq one other ≡ false)
      (values_after numbers values.texts) in
      recursion_from_All apart (map concept_value concepts) (All-map apart concept_value concepts (λ k d below.
      let other_than : Value → Type 0 = λ other. value_eq (concept_value (get_or concepts k d)) other ≡ false in
      recursion_from_All other_than (values_after numbers values.texts)
      (All-append other_than (map number_value numbers) (map text_value values.texts)
      (All-map other_than number_value numbers (λ j e inside. refl))
      (All-map other_than text_value values.texts (λ j e inside. refl)))))

  -- a decimal is no text
  decimals_apart : AllByRecursion
      (λ one. AllByRecursion (λ other. value_eq one other ≡ false) (map text_value values.texts))
      (map number_value numbers)
  decimals_apart =
      let apart : Value → Type 0 =
      λ one. AllByRecursion (λ other. value_eq one other ≡ false) (map text_value values.texts) in
      recursion_from_All apart (map number_value numbers) (All-map apart number_value numbers (λ k d below.
      let other_than : Value → Type 0 = λ other. value_eq (number_value (get_or numbers k d)) other ≡ false in
      recursion_from_All other_than (map text_value values.texts)
      (All-map other_than text_value values.texts (λ j e inside. refl))))

  -- no value has two numbers
  pub values_apart : AreTables numbers values.texts → IsDistinct value_eq all
  values_apart tables =
      apart_both value_eq (map concept_value concepts) (values_after numbers values.texts)
      (distinct_map value_eq concept_value concepts (IsDistinct-from_apart nat_eq concepts (λ i j d before below.
      let rises = earlier_below concepts rising i j before below in
      ne_eqb (get_or concepts i d) (get_or concepts j d)
      (λ is. omega (arith, get_or_default concepts i d 0 (omega arith), get_or_default concepts j d 0 below)))))
      (apart_both value_eq (map number_value numbers) (map text_value values.texts)
      (distinct_map value_eq number_value numbers (decimals_differ numbers tables.decimals_rise))
      (distinct_map value_eq text_value values.texts (texts_differ values.texts tables.texts_rise))
      decimals_apart)
      concepts_apart

  -- two values are equal exactly if their numbers are
  pub values_exact : AreTables numbers values.texts → (v w : ℕ) → v < length all → w < length all
      → value_eq (value_at all v) (value_at all w) ≡ (v == w)
  values_exact tables v w in' there = elim (cases_order v w) [
    | inl same ↦ (tells_same_value (value_at all v) (value_at all w)).1 (ap (value_at all) same) ∙ sym (eq-eqb v w same)
    | inr (inl before) ↦ apart_from_distinct value_eq all v w (text_value []) (values_apart tables) before there
        ∙ sym (ne_eqb v w (λ is. omega arith))
    | inr (inr after) ↦
        let apart : value_eq (value_at all w) (value_at all v) ≡ false =
        apart_from_distinct value_eq all w v (text_value []) (values_apart tables) after in' in
        false_from_ne_true (value_eq (value_at all v) (value_at all w)) (λ alike.
        let back : value_eq (value_at all w) (value_at all v) ≡ true =
        (tells_same_value (value_at all w) (value_at all v)).1
        (sym ((tells_same_value (value_at all v) (value_at all w)).0 alike)) in
        true≢false (sym back ∙ apart))
        ∙ sym (ne_eqb v w (λ is. omega arith))
  ]

  -- the value with the number `v` is concept `c` exactly if `v` equals `c`
  pub value_of_concept : (v c : ℕ) → v < length all → c < length concepts
      → value_eq (value_at all v) (concept_value (slice_index concepts c)) ≡ (v == c)
  value_of_concept v c in' there = elim (cases_lt v (length concepts)) [
    | inl below ↦
        ap (λ (value : Value). value_eq value (concept_value (get_or concepts c 0)))
        (concept_at concepts numbers values.texts v (text_value []) below)
        ∙ rising_apart concepts rising v c below there
    | inr past ↦
        let at : length concepts + (v - length concepts) ≡ v = omega arith in
        let inside : v - length concepts < length (values_after numbers values.texts) =
        omega (arith, in', length-values concepts numbers values.texts, length-values_after numbers values.texts) in
        ap (λ (value : Value). value_eq value (concept_value (get_or concepts c 0)))
        (ap (value_at all) (sym at) ∙ value_after concepts numbers values.texts (v - length concepts) (text_value []))
        ∙ no_concept (get_or concepts c 0) (v - length concepts) (text_value []) inside
        ∙ sym (ne_eqb v c (λ is. omega arith))
  ]
