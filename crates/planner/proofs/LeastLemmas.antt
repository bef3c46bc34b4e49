-- The choice that a leaf takes is one that it offers, and of the offered ones the first with the least bound.
use Rattle.std.proofs.Common.{ℕ, ◌≡◌, ◌≤◌, ◌<◌, ◌&&◌, ◌∙◌, ◌⊎◌, Bool, true, false, cond, inl, inr, refl, sym, ap, subst}
use Rattle.std.proofs.Common.{arith}
use Rattle.std.specs.Prelude.{IsTrue, nat_le}
use Rattle.std.proofs.lemmas.Bool.{and_parts, cases_Bool, leb-false, leb-true}
use Rattle.set_algebra.specs.declared.choice.Choice.{Choice}
use Rattle.set_algebra.specs.declared.choice.Choice.TheVariants.{ByValue, ByType, Scan}
use Rattle.plan_bounds.specs.declared.leaf.Leaf.{Leaf}
use Rattle.plan_bounds.specs.Alternatives.{IsLeast, leaf_bound, least_choice, offers, rank}

-- if `a && b` is false, `a` or `b` is false
one_fails : (a b : Bool) → (a && b) ≡ false → (a ≡ false) ⊎ (b ≡ false)
one_fails true b fails = inr fails
one_fails false b fails = inl refl

module _ (leaf : Leaf) where
  -- the bound of the leaf by value
  abbrev value : ℕ
  value = leaf_bound leaf ByValue

  -- the bound of the leaf by type
  abbrev by_type : ℕ
  by_type = leaf_bound leaf ByType

  -- the bound of the leaf in a scan
  abbrev scan : ℕ
  scan = leaf_bound leaf Scan

  -- by value is the least choice if the leaf offers it and its bound is at most the other two
  by_value_is_least : IsTrue leaf.is_within → leaf_bound leaf ByValue ≤ leaf_bound leaf ByType
      → leaf_bound leaf ByValue ≤ leaf_bound leaf Scan
      → IsLeast leaf ByValue
  by_value_is_least offered first second = record {
    offered = offered;
    least = least;
    first = λ other there same. omega arith;
  }
    where
      least : (other : Choice) → IsTrue (offers leaf.is_within other) → leaf_bound leaf ByValue ≤ leaf_bound leaf other
      least ByValue there = omega arith
      least ByType there = first
      least Scan there = second

  -- the bound by value is larger than a number, if the leaf offers by value
  abbrev IsWorse : ℕ → Type 0
  IsWorse bound = IsTrue leaf.is_within → bound < leaf_bound leaf ByValue

  -- by type is the least choice if its bound is at most that of a scan and by value is worse
  by_type_is_least : IsWorse (leaf_bound leaf ByType) → leaf_bound leaf ByType ≤ leaf_bound leaf Scan
      → IsLeast leaf ByType
  by_type_is_least worse second = record { offered = refl; least = least; first = first }
    where
      least : (other : Choice) → IsTrue (offers leaf.is_within other) → leaf_bound leaf ByType ≤ leaf_bound leaf other
      least ByValue there = let more : leaf_bound leaf ByType < leaf_bound leaf ByValue =
          worse there in omega (arith, more)
      least ByType there = omega arith
      least Scan there = second

      first : (other : Choice) → IsTrue (offers leaf.is_within other) → leaf_bound leaf other ≡ leaf_bound leaf ByType
          → rank ByType ≤ rank other
      first ByValue there same = let more : leaf_bound leaf ByType < leaf_bound leaf ByValue =
          worse there in absurd (omega (arith, more, same))
      first ByType there same = omega arith
      first Scan there same = omega arith

  -- a scan is the least choice if its bound is below that by type and by value is worse
  scan_is_least : IsWorse (leaf_bound leaf Scan) → leaf_bound leaf Scan < leaf_bound leaf ByType → IsLeast leaf Scan
  scan_is_least worse second = record { offered = refl; least = least; first = first }
    where
      least : (other : Choice) → IsTrue (offers leaf.is_within other) → leaf_bound leaf Scan ≤ leaf_bound leaf other
      least ByValue there = let more : leaf_bound leaf Scan < leaf_bound leaf ByValue =
          worse there in omega (arith, more)
      least ByType there = omega (arith, second)
      least Scan there = omega arith

      first : (other : Choice) → IsTrue (offers leaf.is_within other) → leaf_bound leaf other ≡ leaf_bound leaf Scan
          → rank Scan ≤ rank other
      first ByValue there same = let more : leaf_bound leaf Scan < leaf_bound leaf ByValue =
          worse there in absurd (omega (arith, more, same))
      first ByType there same = absurd (omega (arith, second, same))
      first Scan there same = omega arith

  -- `least_choice leaf` is the first choice with the least bound among those that the leaf offers
  pub least_is_least : IsLeast leaf (least_choice leaf)
  least_is_least =
      elim (cases_Bool (leaf.is_within && (nat_le value by_type && nat_le value scan))) [
        | inl all ↦
            let parts = and_parts leaf.is_within (nat_le value by_type && nat_le value scan) all in
            let bounds = and_parts (nat_le value by_type) (nat_le value scan) parts.1 in
            subst (IsLeast leaf) (λ i. cond (sym all i) ByValue (cond (nat_le by_type scan) ByType Scan))
            (by_value_is_least parts.0 (leb-true value by_type bounds.0) (leb-true value scan bounds.1))
        | inr some ↦ elim (cases_Bool (nat_le by_type scan)) [
          | inl first ↦
              subst (IsLeast leaf) (λ i. cond (sym some i) ByValue (cond (sym first i) ByType Scan))
              (by_type_is_least
              (λ within. elim (fails some within) [
                | inl more ↦ leb-false value by_type more
                | inr more ↦ omega (arith, leb-false value scan more, leb-true by_type scan first)
              ])
              (leb-true by_type scan first))
          | inr later ↦
              subst (IsLeast leaf) (λ i. cond (sym some i) ByValue (cond (sym later i) ByType Scan))
              (scan_is_least
              (λ within. elim (fails some within) [
                | inl more ↦ omega (arith, leb-false value by_type more, leb-false by_type scan later)
                | inr more ↦ leb-false value scan more
              ])
              (leb-false by_type scan later))
        ]
      ]
    where
      fails : (leaf.is_within && (nat_le value by_type && nat_le value scan)) ≡ false → IsTrue leaf.is_within
          → (nat_le value by_type ≡ false) ⊎ (nat_le value scan ≡ false)
      fails some within =
          one_fails (nat_le value by_type) (nat_le value scan)
          (sym (ap (λ (b : Bool). b && (nat_le value by_type && nat_le value scan)) within) ∙ some)
