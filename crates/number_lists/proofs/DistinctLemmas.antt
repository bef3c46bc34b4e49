-- The distinct items of a list are its members, each once.
use Rattle.std.proofs.Common.{arith, ◌≡◌, Bool, true, false, not, List, [], ◌∷◌, filter, nat_eq, refl, sym, ap, ◌∙◌}
use Rattle.std.proofs.Common.{inl, inr, eqb-true}
use Rattle.std.proofs.lemmas.Bool.Decides.{nat_tests}
use Rattle.std.proofs.lemmas.Grind.{common_steps}
use Rattle.std.specs.Cmp.{IsEquivalence}
use Rattle.std.specs.List.{IsDistinct, list_any}
use Rattle.std.proofs.lemmas.Bool.{cases_Bool, not-true}
use Rattle.std.proofs.lemmas.Cmp.{nat_eq_equiv}
use Rattle.std.proofs.lemmas.List.Elements.{All-weaker, filter_passes, recursion_from_All}
use Rattle.std.proofs.lemmas.List.Kept.{AllPairs-filter}
use Rattle.std.proofs.lemmas.Map.Keys.{IsDistinct-cons, IsDistinct-from_apart, apart_from_distinct}
use Rattle.std.proofs.lemmas.Map.Views.{Contains-from_any, any-filter_same, list_any-from_Contains}
use Rattle.number_lists.specs.Distinct.{KeepsEachNumberOnce, KeepsEachOnce, distinct}

module _ {X : Type 0} (same : X → X → Bool) where
  -- filtering distinct items leaves distinct items
  distinct_kept : (test : X → Bool) (ys : List X) → IsDistinct same ys → IsDistinct same (filter test ys)
  distinct_kept test ys apart =
      IsDistinct-from_apart same (filter test ys)
      (AllPairs-filter (λ x y. same x y ≡ false) test ys
      (λ i j d before within. apart_from_distinct same ys i j d apart before within))

  -- no two items of `distinct` are the same
  distinct_once : (xs : List X) → IsDistinct same (distinct same xs)
  unfolding IsDistinct
  distinct_once [] = tt
  distinct_once (x ∷ xs) =
      grind (
        arith,
        common_steps,
        nat_tests,
        All-weaker,
        IsDistinct-cons,
        distinct_kept,
        filter_passes,
        not-true,
        recursion_from_All,
        (distinct_once xs),
      )

  module _ (is : IsEquivalence same) where
    -- if `k` is the same as `q`, and `q` is not the same as `x`, `k` is not the same as `x`
    beside : (q x k : X) → same q x ≡ false → same q k ≡ true → not (same x k) ≡ true
    beside q x k apart alike = ap not (is.symm x k ∙ sym (is.congr q k x alike) ∙ apart)

    -- some item of `distinct same xs` is the same as `q` exactly if some item of `xs` is
    pub any_distinct : (q : X) (xs : List X) → list_any (same q) (distinct same xs) ≡ list_any (same q) xs
    any_distinct q [] = refl
    any_distinct q (x ∷ xs) = elim (cases_Bool (same q x)) [
      | inl here ↦ rw here refl
      | inr apart ↦ rw apart (any-filter_same (same q) (λ y. not (same x y)) true (λ k alike. beside q x k apart alike)
          (distinct same xs) ∙ any_distinct q xs)
    ]

    -- if items that `same` finds the same are equal, `distinct same xs` has no repeats and exactly the members of
    -- `xs`
    pub keeps_each_once : ((x y : X) → same x y ≡ true → x ≡ y) → (xs : List X) → KeepsEachOnce same xs
    keeps_each_once exact xs = (
      distinct_once xs,
      λ q. (
        λ there. Contains-from_any exact q xs (sym (any_distinct q xs)
            ∙ list_any-from_Contains is q (distinct same xs) there),
        λ there. Contains-from_any exact q (distinct same xs) (any_distinct q xs
            ∙ list_any-from_Contains is q xs there),
      ),
    )

-- for every list of numbers, `distinct` of it has no repeats and exactly its members
pub keeps_each_number_once : KeepsEachNumberOnce
keeps_each_number_once numbers = keeps_each_once nat_eq nat_eq_equiv (λ x y alike. eqb-true x y alike) numbers
