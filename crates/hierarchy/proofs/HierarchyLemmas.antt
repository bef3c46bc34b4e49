-- The test `reaches`, which can be computed, holds exactly if there is a chain of is-a rows.
use Rattle.std.proofs.Common.{ℕ, ◌≡◌, ◌==◌, ◌||◌, ◌⊎◌, inl, inr, true, List, [], ◌∷◌, Contains, refl, ap, arith, eq-eqb}
use Rattle.std.proofs.lemmas.Bool.{false≢true, or_cases, or_left, or_right, and_parts}
use Rattle.std.proofs.lemmas.Bool.Decides.{nat_tests}
use Rattle.number_lists.proofs.ListLemmas.{contained_cases, first_contained, rest_contained}
use Rattle.hierarchy.specs.Hierarchy.{Reaches, one_row, more_rows, reaches, TellsReaches}

-- if `from` reaches `to` by `rows`, it does by `row` and `rows`
pub chain_with_more : (row : ℕ × ℕ) (rows : List (ℕ × ℕ)) {from to : ℕ} → Reaches rows from to
    → Reaches (row ∷ rows) from to
chain_with_more row rows (one_row first) = one_row (rest_contained row rows _ first)
chain_with_more row rows (more_rows first rest) =
    more_rows (rest_contained row rows _ first) (chain_with_more row rows rest)

-- if `from` reaches `between`, and `between` reaches `to`, then `from` reaches `to`
pub chain_of_two : {rows : List (ℕ × ℕ)} {from between to : ℕ} → Reaches rows from between → Reaches rows between to
    → Reaches rows from to
chain_of_two (one_row first) after = more_rows first after
chain_of_two (more_rows first rest) after = more_rows first (chain_of_two rest after)

-- if the test `reaches` holds, there is a chain of rows
pub chain_from_test : (rows : List (ℕ × ℕ)) (from to : ℕ) → reaches rows from to ≡ true → Reaches rows from to
chain_from_test [] from to holds = absurd (false≢true holds)
chain_from_test (row ∷ rows) from to holds = elim (or_cases (reaches rows from to) _ holds) [
  | inl without ↦ chain_with_more row rows (chain_from_test rows from to without)
  | inr by_row ↦
      let here : Reaches (row ∷ rows) row.0 row.1 = one_row (first_contained row rows) in
      let before : reaches rows from row.0 ≡ true → Reaches (row ∷ rows) from row.0 =
      λ up. chain_with_more row rows (chain_from_test rows from row.0 up) in
      let after : reaches rows row.1 to ≡ true → Reaches (row ∷ rows) row.1 to =
      λ up. chain_with_more row rows (chain_from_test rows row.1 to up) in
      grind (arith, nat_tests, chain_of_two, by_row, here, before, after)
]

-- if the parent of the first row is `to` or reaches it by all rows, it is `to` or reaches it by the other rows,
-- since a way back to the first row is not needed
test_after_first : (row : ℕ × ℕ) (rows : List (ℕ × ℕ)) (to : ℕ)
    → (row.1 ≡ to) ⊎ (reaches (row ∷ rows) row.1 to ≡ true) → (row.1 == to || reaches rows row.1 to) ≡ true
test_after_first row rows to x3 = grind (arith, or_left, eq-eqb, or_cases, reaches, inl, or_right, inr, and_parts)

-- if a row leads to a parent that is `to` or reaches `to`, the test `reaches` holds for its child
test_by_row : (rows : List (ℕ × ℕ)) (child parent to : ℕ) → Contains rows (child, parent)
    → (parent ≡ to) ⊎ (reaches rows parent to ≡ true) → reaches rows child to ≡ true
test_by_row [] child parent to (k, below, is) after = absurd (omega arith)
test_by_row (row ∷ rows) child parent to first after = elim (contained_cases row rows (child, parent) first) [
  | inl is ↦ grind (
    arith,
    nat_tests,
    (ap (λ pair. pair.0) is),
    (ap (λ pair. pair.1) is),
    (test_after_first row rows to),
    inl,
    inr,
  )
  | inr later ↦
      let same : (end : ℕ) → parent ≡ end → reaches rows child end ≡ true =
      λ end is. test_by_row rows child parent end later (inl is) in
      let up : (end : ℕ) → reaches rows parent end ≡ true → reaches rows child end ≡ true =
      λ end told. test_by_row rows child parent end later (inr told) in
      grind (arith, nat_tests, (same to), (up to), (same row.0), (up row.0))
]

-- if there is a chain of rows, the test `reaches` holds
pub test_from_chain : (rows : List (ℕ × ℕ)) {from to : ℕ} → Reaches rows from to → reaches rows from to ≡ true
test_from_chain rows (one_row first) = test_by_row rows _ _ _ first (inl refl)
test_from_chain rows (more_rows first rest) = test_by_row rows _ _ _ first (inr (test_from_chain rows rest))

-- the test `reaches` holds exactly if there is a chain of rows
pub tells_reaches : TellsReaches
tells_reaches rows from to = (chain_from_test rows from to, test_from_chain rows)
