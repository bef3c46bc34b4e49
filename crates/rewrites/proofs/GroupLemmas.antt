-- Every pair of a concept is in one of its groups, and every pair of a group is one of the concept's.
use Rattle.std.proofs.Common.{ℕ, ◌≡◌, ◌==◌, ◌&&◌, ◌||◌, not, Bool, true, false, List, [], ◌∷◌, map, filter}
use Rattle.std.proofs.Common.{nat_eq, refl, sym, ap, ◌∙◌, inl, inr}
use Rattle.std.specs.List.{list_any}
use Rattle.std.proofs.lemmas.Bool.{and_parts, and_from, or_cases, or_left, or_right, cases_Bool, eq-eqb}
use Rattle.std.proofs.lemmas.List.Folds.{list_any-append}
use Rattle.release_model.specs.Release.{Release, Attribute}
use Rattle.release_model.specs.Pairs.{Pair, pair_eq, pair_of, rows_of, out_pairs}
use Rattle.number_lists.specs.Distinct.{distinct, KeepsEachOnce}
use Rattle.release_model.specs.Groups.{group_numbers, pairs_in, groups_of}
use Rattle.number_lists.proofs.DistinctLemmas.{keeps_each_number_once}
use Rattle.release_model.proofs.PairLemmas.{keeps_each_pair_once}
use Rattle.number_lists.proofs.ListLemmas.{passing_item, some_item_passes}
use Rattle.rewrites.proofs.BoolLemmas.{same_if, or_only}

-- leaving out repeated items does not change whether some item passes
any_distinct : {X : Type 0} (same : X → X → Bool) (test : X → Bool) (items : List X) → KeepsEachOnce same items
    → list_any test (distinct same items) ≡ list_any test items
any_distinct same test items keeps = same_if _ _
    (λ holds.
    let found = passing_item test (distinct same items) holds in
    some_item_passes test items found.0 ((keeps.1 found.0).0 found.1) found.2)
    (λ holds.
    let found = passing_item test items holds in
    some_item_passes test (distinct same items) found.0 ((keeps.1 found.0).1 found.1) found.2)

-- an item of a mapped list passes `test` exactly if an item of the list passes `test` after `make`
any_mapped : {X Y : Type 0} (test : Y → Bool) (make : X → Y) (items : List X)
    → list_any test (map make items) ≡ list_any (λ item. test (make item)) items
any_mapped test make [] = refl
any_mapped test make (first ∷ rest) = ap (λ (b : Bool). test (make first) || b) (any_mapped test make rest)

-- an item of a filtered list passes `test` exactly if an item of the list passes `keep` and `test`
any_kept : {X : Type 0} (test keep : X → Bool) (items : List X)
    → list_any test (filter keep items) ≡ list_any (λ item. keep item && test item) items
any_kept test keep [] = refl
any_kept test keep (first ∷ rest) = elim (cases_Bool (keep first)) [
  | inl kept ↦ rw kept (ap (λ (b : Bool). test first || b) (any_kept test keep rest))
  | inr left ↦ rw left (any_kept test keep rest)
]

-- two tests that agree on each item agree on whether some item of a list passes
any_equivalent : {X : Type 0} (test other : X → Bool) → ((item : X) → test item ≡ other item) → (items : List X)
    → list_any test items ≡ list_any other items
any_equivalent test other same [] = refl
any_equivalent test other same (first ∷ rest) =
    ap (λ (b : Bool). b || list_any test rest) (same first)
    ∙ ap (λ (b : Bool). other first || b) (any_equivalent test other same rest)

module _ (release : Release) (concept : ℕ) where
  -- some distinct pair of the concept passes exactly if the pair of some row of the concept does
  in_rows : (test : Pair → Bool)
      → list_any test (out_pairs release concept) ≡ list_any (λ row. test (pair_of row)) (rows_of release concept)
  in_rows test =
      any_distinct pair_eq test (map pair_of (rows_of release concept))
      (keeps_each_pair_once (map pair_of (rows_of release concept)))
      ∙ any_mapped test pair_of (rows_of release concept)

  -- some distinct pair of a group number passes exactly if the pair of some row with that number does
  in_group_rows : (test : Pair → Bool) (group : ℕ)
      → list_any test (pairs_in release concept group)
      ≡ list_any (λ row. (row.group == group) && test (pair_of row)) (rows_of release concept)
  in_group_rows test group =
      let rows : List Attribute = filter (λ row. row.group == group) (rows_of release concept) in
      any_distinct pair_eq test (map pair_of rows) (keeps_each_pair_once (map pair_of rows))
      ∙ any_mapped test pair_of rows
      ∙ any_kept (λ row. test (pair_of row)) (λ row. row.group == group) (rows_of release concept)

  -- some group number passes exactly if some row has a number that is not 0 and passes
  by_number : (test : ℕ → Bool)
      → list_any test (group_numbers release concept)
      ≡ list_any (λ row. not (row.group == 0) && test row.group) (rows_of release concept)
  by_number test =
      let groups : List ℕ = map (λ row. row.group) (rows_of release concept) in
      any_distinct nat_eq test (filter (λ group. not (group == 0)) groups)
      (keeps_each_number_once (filter (λ group. not (group == 0)) groups))
      ∙ any_kept test (λ group. not (group == 0)) groups
      ∙ any_mapped (λ group. not (group == 0) && test group) (λ row. row.group) (rows_of release concept)

  -- whether a row has the group number `group` and a pair that passes
  abbrev passes_in : (Pair → Bool) → ℕ → Attribute → Bool
  passes_in test group row = (row.group == group) && test (pair_of row)

  -- whether a row has a group number other than 0, and some row with that number has a pair that passes
  abbrev is_numbered : (Pair → Bool) → Attribute → Bool
  is_numbered test row = not (row.group == 0) && list_any (passes_in test row.group) (rows_of release concept)

  -- whether a row has group number 0 and a pair that passes. Such a pair is a group by itself
  abbrev is_alone : (Pair → Bool) → Attribute → Bool
  is_alone test row = passes_in (λ pair. test pair || false) 0 row

  -- whether some pair of some group passes, as a test of the rows
  abbrev in_groups : (Pair → Bool) → Bool
  in_groups test =
      list_any (is_numbered test) (rows_of release concept) || list_any (is_alone test) (rows_of release concept)

  by_rows : (test : Pair → Bool) → list_any (list_any test) (groups_of release concept) ≡ in_groups test
  by_rows test =
      list_any-append (list_any test) (map (pairs_in release concept) (group_numbers release concept))
      (map (λ pair. pair ∷ []) (pairs_in release concept 0))
      ∙ ap (λ (b : Bool). b || list_any (list_any test) (map (λ pair. pair ∷ []) (pairs_in release concept 0)))
      (any_mapped (list_any test) (pairs_in release concept) (group_numbers release concept)
      ∙ by_number (λ group. list_any test (pairs_in release concept group))
      ∙ any_equivalent _ _ (λ row. ap (λ (b : Bool). not (row.group == 0) && b) (in_group_rows test row.group))
      (rows_of release concept))
      ∙ ap (λ (b : Bool). list_any (is_numbered test) (rows_of release concept) || b)
      (any_mapped (list_any test) (λ pair. pair ∷ []) (pairs_in release concept 0)
      ∙ in_group_rows (λ pair. test pair || false) 0)

  groups_then_rows : (test : Pair → Bool) → in_groups test ≡ true
      → list_any (λ row. test (pair_of row)) (rows_of release concept) ≡ true
  groups_then_rows test holds = elim (or_cases _ (list_any (is_alone test) (rows_of release concept)) holds) [
    | inl numbered ↦
        let found = passing_item (is_numbered test) (rows_of release concept) numbered in
        let inner = (and_parts (not (found.0.group == 0)) _ found.2).1 in
        let row = passing_item (passes_in test found.0.group) (rows_of release concept) inner in
        some_item_passes (λ row. test (pair_of row)) (rows_of release concept) row.0 row.1
        (and_parts (row.0.group == found.0.group) _ row.2).1
    | inr alone ↦
        let found = passing_item (is_alone test) (rows_of release concept) alone in
        some_item_passes (λ row. test (pair_of row)) (rows_of release concept) found.0 found.1
        (sym (or_only (test (pair_of found.0))) ∙ (and_parts (found.0.group == 0) _ found.2).1)
  ]

  rows_then_groups : (test : Pair → Bool)
      → list_any (λ row. test (pair_of row)) (rows_of release concept) ≡ true → in_groups test ≡ true
  rows_then_groups test holds =
      let found = passing_item (λ row. test (pair_of row)) (rows_of release concept) holds in
      elim (cases_Bool (found.0.group == 0)) [
        | inl alone ↦ or_right _ _
            (some_item_passes (is_alone test) (rows_of release concept) found.0 found.1
            (and_from _ _ alone (or_only (test (pair_of found.0)) ∙ found.2)))
        | inr numbered ↦ or_left _ _
            (some_item_passes (is_numbered test) (rows_of release concept) found.0 found.1
            (and_from _ _ (ap not numbered)
            (some_item_passes (passes_in test found.0.group) (rows_of release concept) found.0 found.1
            (and_from _ _ (eq-eqb found.0.group found.0.group refl) found.2))))
      ]

  -- some pair of some group of a concept passes `test` exactly if some distinct pair of the concept does
  pub some_pair_of_group : (test : Pair → Bool)
      → list_any (list_any test) (groups_of release concept) ≡ list_any test (out_pairs release concept)
  some_pair_of_group test =
      by_rows test ∙ same_if _ _ (groups_then_rows test) (rows_then_groups test) ∙ sym (in_rows test)
