-- Rows, chains of rows and cycles are the same with identifiers of concepts and with their numbers.
use Rattle.std.proofs.Common.{rules, lt-ltb, ℕ, ◌≡◌, ◌≤◌, ◌<◌, ◌-◌, List, [], ◌∷◌, length, get_or, map, Bool, true}
use Rattle.std.proofs.Common.{false, None, Some, subst, refl, arith, All, find, is_some, filter_map}
use Rattle.std.proofs.lemmas.Grind.{common_steps}
use Rattle.std.specs.List.Sorted.{IsStrictlyIncreasing}
use Rattle.std.proofs.lemmas.List.Sums.{count_by-le-length, length-filter}
use Rattle.std.proofs.lemmas.List.Elements.{All-map, filter_passes}
use Rattle.std.proofs.lemmas.List.Folds.{map_fixed}
use Rattle.std.proofs.lemmas.List.Recursion.{found_at, found_nowhere}
use Rattle.std.proofs.lemmas.Simd.{map-map}
use Rattle.std.proofs.lemmas.Bool.{and_parts, false_from_ne_true}
use Rattle.std.proofs.lemmas.Bool.Decides.{nat_tests}
use Rattle.hierarchy.specs.Hierarchy.{IsWithin, Reaches, more_rows, one_row, reaches}
use Rattle.hierarchy.proofs.HierarchyLemmas.{chain_from_test, test_from_chain}
use Rattle.std.proofs.lemmas.List.{length-map}
use Rattle.held_release.specs.Contents.{first_cyclic}
use Rattle.number_lists.specs.Members.{has}
use Rattle.number_lists.proofs.BlockLemmas.{Contains-map}
use Rattle.row_lists.specs.InForce.{rows_among}
use Rattle.held_release.specs.Numbering.{concept_number, numbered_row, row_of_numbers}
use Rattle.number_lists.proofs.PlaceLemmas.{get_or-place_of, place_below, place_of, place_of-get_or, place_within}
use Rattle.number_lists.proofs.IncreasingLemmas.{has-between}

-- a row with `f` applied to both ends
abbrev pub row_by : (ℕ → ℕ) → ℕ × ℕ → ℕ × ℕ
row_by f row = (f row.0, f row.1)

-- a chain of rows stays a chain if `f` renames both ends of each row
pub Reaches-map : (f : ℕ → ℕ) {rows : List (ℕ × ℕ)} {x y : ℕ} → Reaches rows x y
    → Reaches (map (row_by f) rows) (f x) (f y)
Reaches-map f {rows} {x} {y} (one_row there) = one_row (Contains-map (row_by f) rows (x, y) there)
Reaches-map f {rows} {x} {y} (more_rows {parent = parent} there rest) =
    more_rows (Contains-map (row_by f) rows (x, parent) there) (Reaches-map f rest)

-- the number of an identifier that is in `concepts` is its index there
pub concept_number-has : (concepts : List ℕ) (id : ℕ) → has concepts id ≡ true
    → concept_number concepts id ≡ Some (place_of concepts id)
concept_number-has concepts id there = rw (place_within concepts id, there) refl

-- an identifier has a number exactly if it is in `concepts`
pub number_has : (concepts : List ℕ) (id : ℕ) → is_some (concept_number concepts id) ≡ has concepts id
number_has concepts id = grind (arith, nat_tests, place_within concepts id)

-- in a rising list the number of the identifier at an index is this index
pub number_at : (concepts : List ℕ) → IsStrictlyIncreasing concepts → (id place : ℕ) → place < length concepts
    → get_or concepts place 0 ≡ id → Some place ≡ concept_number concepts id
number_at concepts rising id place within is =
    grind (arith, common_steps, nat_tests, concept_number-has, lt-ltb, place_of-get_or, place_within)

-- in a rising list an identifier has no number if those before some index are less, and those from it on are greater
pub number_nowhere : (concepts : List ℕ) → IsStrictlyIncreasing concepts → (id place : ℕ) → place ≤ length concepts
    → ((k : ℕ) → k < place → get_or concepts k 0 < id)
    → ((k : ℕ) → place ≤ k → k < length concepts → id < get_or concepts k 0)
    → None ≡ concept_number concepts id
number_nowhere concepts rising id place within above below =
    grind (
      arith,
      (has-between concepts rising id place within),
      (above (place - 1)),
      (below place),
      (place_within concepts id),
    )

-- the rows whose two concepts are in `concepts`, with indexes in place of identifiers, are the numbered rows
pub numbered_rows : (concepts : List ℕ) (rows : List (ℕ × ℕ))
    → map (row_by (place_of concepts)) (rows_among concepts rows) ≡ filter_map (numbered_row concepts) rows
numbered_rows concepts [] = refl
numbered_rows concepts (row ∷ rows) =
    grind (arith, nat_tests, numbered_rows concepts rows, place_within concepts row.0, place_within concepts row.1)

-- both ends of each row between `concepts` are in `concepts`
ends_among : (concepts : List ℕ) (rows : List (ℕ × ℕ))
    → All (λ (row : ℕ × ℕ). (has concepts row.0 ≡ true) × (has concepts row.1 ≡ true)) (rows_among concepts rows)
ends_among concepts rows k d within = grind (arith, common_steps, nat_tests, and_parts, filter_passes)

-- the numbered rows, with identifiers in place of numbers, are the rows whose two concepts are in `concepts`
pub rows_of_numbers : (concepts : List ℕ) (rows : List (ℕ × ℕ))
    → map (row_of_numbers concepts) (filter_map (numbered_row concepts) rows) ≡ rows_among concepts rows
rows_of_numbers concepts [] = refl
rows_of_numbers concepts (row ∷ rows) =
    grind (arith, common_steps, nat_tests, get_or-place_of, nat_tests, place_within, (rows_of_numbers concepts rows))

-- if the item at the index `i` is the first that passes `test`, `find` gives it
pub find-first : (test : ℕ → Bool) (xs : List ℕ) (i : ℕ) → i < length xs
    → ((k : ℕ) → k < i → test (get_or xs k 0) ≡ false)
    → test (get_or xs i 0) ≡ true → find test xs ≡ Some (get_or xs i 0)
find-first test xs i within before here =
    found_at (find test) test Some None refl (λ x xs. refl) xs i 0 within before here

-- if no item passes `test`, `find` gives none
pub find-none : (test : ℕ → Bool) (xs : List ℕ) → ((k : ℕ) → k < length xs → test (get_or xs k 0) ≡ false)
    → find test xs ≡ None
find-none test xs none = found_nowhere (find test) test Some None refl (λ x xs. refl) xs 0 none

module _ (concepts : List ℕ) (rising : IsStrictlyIncreasing concepts) (ends : List (ℕ × ℕ)) where
  -- a concept that reaches itself by its number reaches itself by its identifier
  reaches_by_id : (i : ℕ) → Reaches (filter_map (numbered_row concepts) ends) i i
      → reaches (rows_among concepts ends) (get_or concepts i 0) (get_or concepts i 0) ≡ true
  reaches_by_id i chain =
      test_from_chain (rows_among concepts ends)
      (rw (← rows_of_numbers concepts ends) (Reaches-map (λ (number : ℕ). get_or concepts number 0) chain))

  -- a concept that reaches itself by its identifier reaches itself by its number
  reaches_by_number : (i : ℕ) → i < length concepts
      → reaches (rows_among concepts ends) (get_or concepts i 0) (get_or concepts i 0) ≡ true
      → Reaches (filter_map (numbered_row concepts) ends) i i
  reaches_by_number i within holds =
      rw (← place_of-get_or concepts rising i within, ← numbered_rows concepts ends)
      (Reaches-map (place_of concepts) (chain_from_test (rows_among concepts ends) (get_or concepts i 0)
      (get_or concepts i 0) holds))

  -- a concept that does not reach itself by its number does not by its identifier
  lacks_by_id : (i : ℕ) → i < length concepts → (Reaches (filter_map (numbered_row concepts) ends) i i → ⊥)
      → reaches (rows_among concepts ends) (get_or concepts i 0) (get_or concepts i 0) ≡ false
  lacks_by_id i within none = grind (arith, common_steps, nat_tests, false_from_ne_true, get_or, reaches_by_number)

  -- the least concept that reaches itself by its number is the first that does by its identifier
  pub first_cyclic-Some : (i : ℕ) → i < length concepts → Reaches (filter_map (numbered_row concepts) ends) i i
      → ((k : ℕ) → k < i → Reaches (filter_map (numbered_row concepts) ends) k k → ⊥)
      → first_cyclic concepts (rows_among concepts ends) ≡ Some (get_or concepts i 0)
  first_cyclic-Some i within chain least =
      grind (arith, common_steps, nat_tests, find-first, lacks_by_id, reaches_by_id)

  -- if no concept reaches itself by its number, none does by its identifier
  pub first_cyclic-None : ((k : ℕ) → k < length concepts → Reaches (filter_map (numbered_row concepts) ends) k k → ⊥)
      → first_cyclic concepts (rows_among concepts ends) ≡ None
  first_cyclic-None none = grind (arith, common_steps, nat_tests, find-none, lacks_by_id)

-- each number in numbered rows is below the number of concepts
pub IsWithin-numbered : (concepts : List ℕ) (ends : List (ℕ × ℕ))
    → IsWithin (length concepts) (filter_map (numbered_row concepts) ends)
IsWithin-numbered concepts ends =
    subst (IsWithin (length concepts)) (numbered_rows concepts ends)
    (All-map (λ (row : ℕ × ℕ). (row.0 < length concepts) × (row.1 < length concepts)) (row_by (place_of concepts))
    (rows_among concepts ends) (λ k d within. grind (arith, (ends_among concepts ends k d within), place_below)))

-- there are at most as many numbered rows as rows
pub length-numbered : (concepts : List ℕ) (ends : List (ℕ × ℕ))
    → length (filter_map (numbered_row concepts) ends) ≤ length ends
length-numbered concepts ends =
    rw (← numbered_rows concepts ends)
    (grind (arith, common_steps, nat_tests, length-map, length-filter, count_by-le-length))

-- replacing the numbers in rows by identifiers, and these by their indexes in the rising list `concepts`, gives the
-- rows back
pub numbers_again : (concepts : List ℕ) → IsStrictlyIncreasing concepts → (rows : List (ℕ × ℕ))
    → IsWithin (length concepts) rows
    → map (λ (row : ℕ × ℕ). (place_of concepts row.0, place_of concepts row.1)) (map (row_of_numbers concepts) rows)
    ≡ rows
numbers_again concepts rises rows within = search (rules, map-map, map_fixed, place_of-get_or)

-- two lists of rows of numbers are equal if they are equal with identifiers in place of numbers
pub same_numbers : (concepts : List ℕ) → IsStrictlyIncreasing concepts → (rows others : List (ℕ × ℕ))
    → IsWithin (length concepts) rows → IsWithin (length concepts) others
    → map (row_of_numbers concepts) rows ≡ map (row_of_numbers concepts) others → rows ≡ others
same_numbers concepts rises rows others within near same =
    grind (arith, (numbers_again concepts rises rows within), (numbers_again concepts rises others near))
