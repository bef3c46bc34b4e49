-- Distinct types, sources, values and groups have no more rows than there are rows in all.
use Rattle.std.proofs.Common.{ℕ, suc, ◌+◌, ◌∷◌, [], ◌≡◌, ◌≤◌, ◌<◌, ◌∙◌, Bool, true, false, not, cond, List}
use Rattle.std.proofs.Common.{length, get_or, refl, sym, ap, arith}
use Rattle.std.specs.Prelude.{Option, None, Some, count_by, filter, slice_get, ◌&&◌, ◌==◌}
use Rattle.std.specs.List.{flat_map, sum_by}
use Rattle.std.specs.List.Sorted.{IsStrictlyIncreasing}
use Rattle.std.proofs.lemmas.Bool.{eqb-true, ne_eqb}
use Rattle.std.proofs.lemmas.Option.{slice_get-get_or}
use Rattle.std.proofs.lemmas.List.Elements.{All-get_or}
use Rattle.std.proofs.lemmas.List.Concat.{length-flat_map}
use Rattle.std.proofs.lemmas.List.Sums.{count_by-le-length, sum_by-cons}
use Rattle.number_lists.specs.Members.{has}
use Rattle.number_lists.specs.Rising.{IsRisingBelow, rises_within}
use Rattle.number_lists.proofs.RisingLemmas.{rises_on}
use Rattle.release_model.specs.Pairs.{value_eq}
use Rattle.release_model.specs.Release.{Attribute, Release, Value, concept_value, number_value, text_value}
use Rattle.number_lists.proofs.ListLemmas.{same_place}
use Rattle.postings.specs.Groups.{ConceptGroup, group_of, groups_in, is_in_group, rows_alone}
use Rattle.postings.proofs.KeyLemmas.{IsTold, groups_once, groups_told_apart, in_one_group}
use Rattle.reading.specs.Counted.{full}
use Rattle.candidates.specs.Extents.{IsStatsOf, IsGroupStatsOf, group_row_count, rows_in_group}
use Rattle.candidates.specs.Within.{HaveStats, stats_told}
use Rattle.candidates.specs.declared.candidates.Candidates.{Candidates}
use Rattle.candidates.specs.declared.candidates.Candidates.TheVariants as candidates
use Rattle.pair_sets.specs.Room.{candidate_items}
use Rattle.pair_sets.specs.inside.AccessPaths.{AreListedFor, candidates_listed}
use Rattle.postings.specs.Indexed.{Indexed, types_of}
use Rattle.postings.specs.Stats.{type_row_count}
use Rattle.postings.proofs.PlaceLemmas.{length-places_from}
use Rattle.candidates.specs.RowCounts.{stats_items, row_count_of}
use Rattle.candidates.proofs.Normal.{same_by_number}
use Rattle.candidates.proofs.SumLemmas.{no_sum, two_sums}
use Rattle.pair_sets.proofs.LeafLemmas.{count_by_keys, types_apart}

-- a test that is always true counts all items
pub all_pass : {X : Type 0} (xs : List X) → count_by (λ x. true) xs ≡ length xs
all_pass [] = refl
all_pass (x ∷ xs) = omega (arith, sum_by-cons (λ x. 1) x xs, all_pass xs)

-- distinct types have together at most as many rows as there are, since no row has two types
pub type_rows_few : (indexed : Indexed) (one : ℕ → Bool)
    → sum_by (type_row_count indexed) (filter one (types_of indexed.rows)) ≤ length indexed.rows
type_rows_few indexed one =
    let rows = indexed.rows in
    let types = types_of rows in
    let own : ℕ → List Attribute = λ id. filter (λ (row : Attribute). row.type_id == id) rows in
    let each : sum_by (type_row_count indexed) (filter one types) ≡ length (flat_map own (filter one types)) =
    (λ i. sum_by (λ id. length-places_from (λ (row : Attribute). row.type_id == id) 0 rows i) (filter one types))
    ∙ sym (length-flat_map own (filter one types)) in
    omega (
      arith,
      each,
      all_pass (flat_map own (filter one types)),
      count_by_keys (λ (row : Attribute). row.type_id) one (λ row. true) rows types (types_apart rows),
      count_by-le-length (λ (row : Attribute). (has types row.type_id && one row.type_id) && true) rows,
    )

-- ---- rows by keys, of which each row has at most one
-- if each row has at most one of the keys, the keys have together no more rows than there are
pub rows_once : {X : Type 0} (has_key : X → ℕ → Bool) (keys : List ℕ) → ((x : X) → count_by (has_key x) keys ≤ 1)
    → (xs : List X) → sum_by (λ key. length (filter (λ x. has_key x key) xs)) keys ≤ length xs
rows_once has_key keys once [] = omega (arith, no_sum keys)
rows_once has_key keys once (x ∷ xs) =
    let rest : ℕ → ℕ = λ key. length (filter (λ x. has_key x key) xs) in
    let one : (key : ℕ) → length (filter (λ x. has_key x key) (x ∷ xs)) ≡ cond (has_key x key) 1 0 + rest key =
    λ key. by (has_key x key) (filter (λ x. has_key x key) xs) in
    let all : sum_by (λ key. length (filter (λ y. has_key y key) (x ∷ xs))) keys
    ≡ sum_by (λ key. cond (has_key x key) 1 0 + rest key) keys =
    (λ i. sum_by (λ key. one key i) keys) in
    omega (
      arith,
      all,
      two_sums (λ key. cond (has_key x key) 1 0) rest keys,
      once x,
      rows_once has_key keys once xs,
    )
  where
    by : (b : Bool) (ys : List _) → length (cond b (x ∷ ys) ys) ≡ cond b 1 0 + length ys
    by true ys = omega arith
    by false ys = omega arith

-- a test that no number passes after one that passes
module _ (count : ℕ) (test : ℕ → Bool)
    (apart : (n m : ℕ) → n < m → m < count → test n ≡ true → test m ≡ false) where
  -- if n passes, no number after it among rising numbers passes
  none_after : (n lowest : ℕ) (numbers : List ℕ) → n < lowest → test n ≡ true → rises_within lowest count numbers ≡ true
      → count_by test numbers ≡ 0
  none_after n lowest [] before passes rises = refl
  none_after n lowest (m ∷ numbers) before passes rises =
      let on = rises_on lowest count m numbers rises in
      omega (
        arith,
        sum_by-cons (λ k. cond (test k) 1 0) m numbers,
        ap (λ (b : Bool). cond {A = ℕ} b 1 0) (apart n m (omega (arith, before, on.above)) on.below passes),
        none_after n (suc m) numbers (omega (arith, before, on.above)) passes on.rest,
      )

  -- of rising numbers at most one passes
  one_passes : (lowest : ℕ) (numbers : List ℕ) → rises_within lowest count numbers ≡ true → count_by test numbers ≤ 1
  one_passes lowest [] rises = omega arith
  one_passes lowest (n ∷ numbers) rises =
      let rest = (rises_on lowest count n numbers rises).rest in
      by (test n) refl (none_after n (suc n) numbers (omega arith)) (one_passes (suc n) numbers rest) rest
    where
      by : (b : Bool) → test n ≡ b
          → (test n ≡ true → rises_within (suc n) count numbers ≡ true → count_by test numbers ≡ 0)
          → count_by test numbers ≤ 1 → rises_within (suc n) count numbers ≡ true → count_by test (n ∷ numbers) ≤ 1
      by true passes none one rest =
          omega (
            arith,
            sum_by-cons (λ k. cond (test k) 1 0) n numbers,
            ap (λ (b : Bool). cond {A = ℕ} b 1 0) passes,
            none passes rest,
          )
      by false fails none one rest =
          omega (
            arith,
            sum_by-cons (λ k. cond (test k) 1 0) n numbers,
            ap (λ (b : Bool). cond {A = ℕ} b 1 0) fails,
            one,
          )

-- an identifier is that of at most one of rising numbers of concepts
pub one_number : (concepts : List ℕ) → IsStrictlyIncreasing concepts → (id lowest : ℕ) (numbers : List ℕ)
    → rises_within lowest (length concepts) numbers ≡ true → count_by (λ n. id == get_or concepts n 0) numbers ≤ 1
one_number concepts rising id =
    one_passes (length concepts) (λ n. id == get_or concepts n 0)
    (λ n m before within same.
    ap (λ (k : ℕ). k == get_or concepts m 0) (eqb-true id (get_or concepts n 0) same)
    ∙ same_by_number concepts rising n m (omega (arith, before, within)) within
    ∙ ne_eqb n m (λ equal. omega (arith, equal, before)))

-- distinct sources have together at most as many rows as there are, since no row has two sources
pub source_rows_few : (indexed : Indexed) → IsStrictlyIncreasing indexed.concepts → (numbers : List ℕ)
    → IsRisingBelow (length indexed.concepts) numbers → sum_by (row_count_of indexed true) numbers ≤ length indexed.rows
source_rows_few indexed rising numbers rises =
    let test : ℕ → Attribute → Bool = λ n row. row.source == get_or indexed.concepts n 0 in
    let each : sum_by (row_count_of indexed true) numbers
    ≡ sum_by (λ n. length (filter (test n) indexed.rows)) numbers =
    (λ i. sum_by (λ n. length-places_from (test n) 0 indexed.rows i) numbers) in
    omega (
      arith,
      each,
      rows_once (λ (row : Attribute) (n : ℕ). test n row) numbers
          (λ row. one_number indexed.concepts rising row.source 0 numbers rises) indexed.rows,
    )

-- distinct values have together at most as many rows as there are, since no row has two values
pub value_rows_few : (indexed : Indexed) → IsStrictlyIncreasing indexed.concepts → (numbers : List ℕ)
    → IsRisingBelow (length indexed.concepts) numbers
    → sum_by (row_count_of indexed false) numbers ≤ length indexed.rows
value_rows_few indexed rising numbers rises =
    let test : ℕ → Attribute → Bool = λ n row. value_eq row.value (concept_value (get_or indexed.concepts n 0)) in
    let each : sum_by (row_count_of indexed false) numbers
    ≡ sum_by (λ n. length (filter (test n) indexed.rows)) numbers =
    (λ i. sum_by (λ n. length-places_from (test n) 0 indexed.rows i) numbers) in
    omega (
      arith,
      each,
      rows_once (λ (row : Attribute) (n : ℕ). test n row) numbers (λ row. once row.value) indexed.rows,
    )
  where
    once : (value : Value) → count_by (λ n. value_eq value (concept_value (get_or indexed.concepts n 0))) numbers ≤ 1
    once (concept_value id) = one_number indexed.concepts rising id 0 numbers rises
    once (number_value number) = omega (arith, no_sum numbers)
    once (text_value bytes) = omega (arith, no_sum numbers)

-- distinct concepts have together at most as many rows, as values or (if `back`) as sources, as there are
pub rows_few : (indexed : Indexed) → IsStrictlyIncreasing indexed.concepts → (numbers : List ℕ)
    → IsRisingBelow (length indexed.concepts) numbers → (back : Bool)
    → sum_by (row_count_of indexed back) numbers ≤ length indexed.rows
rows_few indexed rising numbers rises true = source_rows_few indexed rising numbers rises
rows_few indexed rising numbers rises false = value_rows_few indexed rising numbers rises

-- distinct groups have together at most as many rows as there are, since no row is in two groups
pub group_rows_few : (indexed : Indexed) → IsStrictlyIncreasing indexed.concepts → (numbers : List ℕ)
    → IsRisingBelow (length (groups_in indexed)) numbers
    → sum_by (group_row_count indexed) numbers ≤ length indexed.rows
group_rows_few indexed rising numbers rises =
    omega (
      arith,
      ap (λ (count : ℕ → ℕ). sum_by count numbers) each,
      rows_once (λ (row : Attribute) (n : ℕ). in_some (slice_get groups n) row) numbers
          (λ row. one_passes (length groups) (λ n. in_some (slice_get groups n) row) (apart row) 0 numbers rises)
          indexed.rows,
    )
  where
    release : Release
    release = rows_alone indexed.concepts indexed.rows

    groups : List ConceptGroup
    groups = groups_in indexed

    in_some : Option ConceptGroup → Attribute → Bool
    in_some None row = false
    in_some (Some group) row = is_in_group group row

    own : (group : Option ConceptGroup) → rows_in_group indexed group ≡ length (filter (in_some group) indexed.rows)
    own None = none indexed.rows
      where
        none : (rows : List Attribute) → 0 ≡ length (filter (λ row. false) rows)
        none [] = refl
        none (row ∷ rows) = none rows
    own (Some group) = length-places_from (is_in_group group) 0 indexed.rows

    each : group_row_count indexed ≡ (λ n. length (filter (in_some (slice_get groups n)) indexed.rows))
    each = λ i n. own (slice_get groups n) i

    group_at : (n : ℕ) (d : ConceptGroup) → n < length groups → slice_get groups n ≡ Some (get_or groups n d)
    group_at n d within = slice_get-get_or groups n d within

    its_group : (row : Attribute) (n : ℕ) → n < length groups → in_some (slice_get groups n) row ≡ true
        → get_or groups n (group_of row) ≡ group_of row
    its_group row n within passes =
        in_one_group (get_or groups n (group_of row)) row
        (All-get_or (λ (group : ConceptGroup). IsTold group.key) groups n (group_of row) within
        (groups_told_apart release indexed.concepts))
        (ap (λ (group : Option ConceptGroup). in_some group row) (sym (group_at n (group_of row) within)) ∙ passes)

    apart : (row : Attribute) (n m : ℕ) → n < m → m < length groups → in_some (slice_get groups n) row ≡ true
        → in_some (slice_get groups m) row ≡ false
    apart row n m before within passes = by (in_some (slice_get groups m) row) refl
      where
        by : (b : Bool) → in_some (slice_get groups m) row ≡ b → b ≡ false
        by false fails = refl
        by true also =
            absurd (omega (
              arith,
              before,
              same_place groups (groups_once release rising) n m (group_of row) (omega (arith, before, within)) within
                  (its_group row n (omega (arith, before, within)) passes ∙ sym (its_group row m within also)),
            ))

-- reading candidates that are concepts, and their rows, takes at most as many items as their statistics say
pub concepts_fit : {S : Type 0} (items_of : S → List ℕ) (indexed : Indexed) (back : Bool) (candidates : Candidates S)
    → HaveStats items_of (IsStatsOf indexed) candidates
    → full (candidate_items items_of indexed (row_count_of indexed (not back)) candidates)
    ≤ stats_items (stats_told back candidates)
concepts_fit items_of indexed back candidates.All stats = omega arith
concepts_fit items_of indexed true (candidates.Within set stats) is = omega (arith, is.items, is.back_rows)
concepts_fit items_of indexed false (candidates.Within set stats) is = omega (arith, is.items, is.rows)

-- reading candidates that are groups, and their rows, takes at most as many items as their statistics say
pub groups_fit : {S : Type 0} (items_of : S → List ℕ) (indexed : Indexed) (candidates : Candidates S)
    → HaveStats items_of (IsGroupStatsOf indexed) candidates
    → full (candidate_items items_of indexed (group_row_count indexed) candidates)
    ≤ stats_items (stats_told false candidates)
groups_fit items_of indexed candidates.All stats = omega arith
groups_fit items_of indexed (candidates.Within set stats) is = omega (arith, is.items, is.rows)

-- listing the candidates and reading their rows takes at most `candidate_items` items
pub asked_fit : {S : Type 0} (items_of : S → List ℕ) (indexed : Indexed) (rows : ℕ → ℕ) (candidates : Candidates S)
    (numbers : List ℕ)
    → AreListedFor items_of candidates numbers → sum_by rows numbers ≤ length indexed.rows
    → candidates_listed items_of candidates + sum_by rows numbers ≤ candidate_items items_of indexed rows candidates
asked_fit items_of indexed rows candidates.All numbers listed few = omega (arith, few)
asked_fit items_of indexed rows (candidates.Within set stats) numbers listed few =
    omega (arith, ap (sum_by rows) listed)
