-- Lemmas for the search for cycles: the marks are closed under rows, and if no row leads to a lower rank, no chain
-- does.
use Rattle.std.proofs.Common.{ℕ, ◌≡◌, ◌≢◌, ◌∙◌, ◌≤◌, ◌<◌, ◌⊎◌, inr, ⊎_elim, List, Bool, true, ◌+◌, set, arith}
use Rattle.std.proofs.Common.{below_more, All, Contains, get_or-set_other, subst, sym, get_or, false, inl, ap, length}
use Rattle.std.specs.Bool.{OnFalse, OnTrue}
use Rattle.std.proofs.lemmas.Bool.{cases_Bool, cases_eq}
use Rattle.std.proofs.lemmas.List.{get_or_default}
use Rattle.std.proofs.lemmas.Grind.{get_or-set_at}
use Rattle.std.proofs.lemmas.List.Elements.{All-contains}
use Rattle.hierarchy.specs.Hierarchy.{Reaches, one_row, more_rows}
use Rattle.hierarchy.proofs.HierarchyLemmas.{chain_of_two}
use Rattle.hierarchy.specs.inside.Search.{IsMarked, IsFollowed, MarksReached, NoneFalls, rank_in}

-- if only concepts that the start reaches are marked, this stays so after the parent of a row is marked whose child
-- is the start or marked
pub marks_reached_set : (rows : List (ℕ × ℕ)) (start : ℕ) (marks : List Bool) (row : ℕ × ℕ) → Contains rows row
    → (row.0 ≡ start) ⊎ IsMarked marks row.0 → MarksReached rows start marks
    → MarksReached rows start (set marks row.1 true)
marks_reached_set rows start marks row there from sound concept marked =
    let parent : Reaches rows start row.1 = ⊎_elim
    (λ (own : row.0 ≡ start). subst (λ c. Reaches rows c row.1) own (one_row there))
    (λ (child : IsMarked marks row.0). chain_of_two (sound row.0 child) (one_row there))
    from in ⊎_elim
    (λ (same : concept ≡ row.1). subst (λ c. Reaches rows start c) (sym same) parent)
    (λ (other : concept ≢ row.1). sound concept (sym (get_or-set_other marks row.1 concept true false other) ∙ marked))
    (cases_eq concept row.1)

-- if each row is followed, every concept that the start or a marked concept reaches is marked
pub marked-from_followed : {rows : List (ℕ × ℕ)} {child ancestor : ℕ} (start : ℕ) (marks : List Bool)
    → All (IsFollowed start marks) rows → (child ≡ start) ⊎ IsMarked marks child → Reaches rows child ancestor
    → IsMarked marks ancestor
marked-from_followed {rows} {child} {ancestor} start marks closed from (one_row there) = grind arith
marked-from_followed {rows} start marks closed from (more_rows there rest) =
    grind (
      arith,
      inr,
      (marked-from_followed start marks closed
          (inr (All-contains (IsFollowed start marks) rows _ closed there from)) rest),
    )

-- if no row leads to a lower rank, no chain of rows does
pub rank_in-Reaches : {rows : List (ℕ × ℕ)} {child ancestor : ℕ} (ranks : List ℕ) → NoneFalls ranks rows
    → Reaches rows child ancestor → rank_in ranks child ≤ rank_in ranks ancestor
rank_in-Reaches {rows} {child} {ancestor} ranks rise (one_row there) = grind (arith, rank_in)
rank_in-Reaches {rows} {child} {ancestor} ranks rise (more_rows {parent = parent} there rest) =
    grind (arith, rank_in, (rank_in-Reaches ranks rise rest))

-- if a concept reaches itself, one of its rows leads to a parent of the same rank, by any ranks with which no row
-- leads to a lower rank
pub level_row : {rows : List (ℕ × ℕ)} (concept : ℕ) → Reaches rows concept concept
    → (parent : ℕ) × Contains rows (concept, parent)
    × ((ranks : List ℕ) → NoneFalls ranks rows → rank_in ranks concept ≡ rank_in ranks parent)
level_row {rows} concept chain = grind (arith, rank_in, one_row, more_rows, rank_in-Reaches)

-- if `P` holds of all numbers below `i` unless something was found, and `P` holds of `i`, then `P` holds of all
-- numbers below `i + 1` unless something was found
pub pass_same : (P : ℕ → Type 0) (i : ℕ) (found : Bool) → OnFalse found ((k : ℕ) → k < i → P k) → P i
    → OnFalse found ((k : ℕ) → k < i + 1 → P k)
pass_same x0 i x2 earlier here = grind (arith, below_more)

-- a row may be part of a cycle: both its ends have one rank, or some row leads to a lower rank
abbrev pub IsSuspect : Bool → List ℕ → ℕ × ℕ → Type 0
IsSuspect all_rise ranks row = (all_rise ≡ false) ⊎ (rank_in ranks row.0 ≡ rank_in ranks row.1)

-- if the child of each suspect row is marked, no unmarked concept reaches itself
pub unmarked_acyclic : (rows : List (ℕ × ℕ)) (ranks : List ℕ) (marks : List Bool) (all_rise : Bool)
    → OnTrue all_rise (NoneFalls ranks rows)
    → ((k : ℕ) → k < length rows → (d : ℕ × ℕ) → IsSuspect all_rise ranks (get_or rows k d)
    → IsMarked marks (get_or rows k d).0)
    → (concept : ℕ) → ¬ IsMarked marks concept → ¬ Reaches rows concept concept
unmarked_acyclic rows ranks marks all_rise rise marked concept none chain =
    let found = level_row concept chain in
    let row : ℕ × ℕ = (concept, found.0) in
    let suspect : IsSuspect all_rise ranks row = ⊎_elim
    (λ (told : all_rise ≡ true). inr (found.2 ranks (rw told at rise)))
    (λ (told : all_rise ≡ false). inl told)
    (cases_Bool all_rise) in
    none (subst (λ (r : ℕ × ℕ). IsMarked marks r.0) found.1.2
    (marked found.1.0 found.1.1 row (subst (λ (r : ℕ × ℕ). IsSuspect all_rise ranks r) (sym found.1.2) suspect)))

-- ---- a loop over rows that marks the children of rows with the property `P`
module _ (P : ℕ × ℕ → Type 0) (rows : List (ℕ × ℕ)) (i : ℕ) (marks : List Bool) (within : i < length rows)
    (earlier : (k : ℕ) → k < i → (d : ℕ × ℕ) → P (get_or rows k d) → IsMarked marks (get_or rows k d).0) where
  -- if each row with `P` before row `i` has a marked child, and the child of row `i` is marked, each row with `P`
  -- up to row `i` has a marked child
  pub pass_marked : (get_or rows i (0, 0)).0 < length marks
      → (k : ℕ) → k < i + 1 → (d : ℕ × ℕ) → P (get_or rows k d)
      → IsMarked (set marks (get_or rows i (0, 0)).0 true) (get_or rows k d).0
  pass_marked near =
      let child = (get_or rows i (0, 0)).0 in
      below_more (λ k. (d : ℕ × ℕ) → P (get_or rows k d) → IsMarked (set marks child true) (get_or rows k d).0) i
      (λ k less d suspect. ⊎_elim
      (λ (same : (get_or rows k d).0 ≡ child). get_or-set_at marks child (get_or rows k d).0 true false same near)
      (λ (other : (get_or rows k d).0 ≢ child).
      get_or-set_other marks child (get_or rows k d).0 true false other ∙ earlier k less d suspect)
      (cases_eq (get_or rows k d).0 child))
      (λ d suspect. get_or-set_at marks child (get_or rows i d).0 true false
      (ap (λ (r : ℕ × ℕ). r.0) (get_or_default rows i d (0, 0) within)) near)

  -- if each row with `P` before row `i` has a marked child, and row `i` lacks `P`, each row with `P` up to row `i`
  -- has a marked child
  pub pass_unmarked : ¬ P (get_or rows i (0, 0))
      → (k : ℕ) → k < i + 1 → (d : ℕ × ℕ) → P (get_or rows k d) → IsMarked marks (get_or rows k d).0
  pass_unmarked none =
      below_more (λ k. (d : ℕ × ℕ) → P (get_or rows k d) → IsMarked marks (get_or rows k d).0) i earlier
      (λ d suspect. absurd (none (subst P (get_or_default rows i d (0, 0) within) suspect)))
