-- Rows that numbers stand for: the tests on them are those on the numbers, so no two rows of numbers stand for one row.
use Rattle.std.proofs.Common.{ℕ, ◌==◌, ◌≡◌, ◌≢◌, ◌<◌, ◌&&◌, ◌∷◌, [], ◌∙◌, ⊎_elim, ◌⊎◌, List}
use Rattle.std.proofs.Common.{length, get_or, map, nat_eq, refl, sym, ap, arith, inl, inr}
use Rattle.std.specs.Prelude.{All}
use Rattle.std.specs.List.{IsDistinct}
use Rattle.std.specs.List.Sorted.{IsStrictlyIncreasing}
use Rattle.std.proofs.lemmas.Bool.{cases_eq, cases_order, eq-eqb, eqb-true, ne_eqb}
use Rattle.std.proofs.lemmas.Cmp.{nat_eq_equiv}
use Rattle.std.proofs.lemmas.List.Elements.{All-head, All-tail}
use Rattle.std.proofs.lemmas.Map.Keys.{apart_from_distinct}
use Rattle.release_model.specs.Pairs.{pair_eq, pair_of, value_eq}
use Rattle.release_model.specs.Release.{Attribute, Value}
use Rattle.release_model.proofs.PairLemmas.{tells_same_value}
use Rattle.number_lists.proofs.PlaceLemmas.{place_of, place_of-get_or}
use Rattle.held_release.specs.CodedRows.{IsCoded, row_coded}
use Rattle.postings.specs.inside.Coded.{has_same_pair}
use Rattle.postings.specs.Entries.{is_alike, is_alike_in_group}
use Rattle.postings.specs.Indexed.{value_at}
use Rattle.held_release.specs.declared.coded_rows.CodedRow.{CodedRow}

-- in a strictly rising list, two concepts are equal exactly if their places `a` and `b` are
pub same_concept : (concepts : List ℕ) → IsStrictlyIncreasing concepts → (a b : ℕ) → a < length concepts
    → b < length concepts
    → (get_or concepts a 0 == get_or concepts b 0) ≡ (a == b)
same_concept concepts rising a b near far = ⊎_elim
    (λ (same : a ≡ b). eq-eqb (get_or concepts a 0) (get_or concepts b 0) (ap (λ k. get_or concepts k 0) same)
    ∙ sym (eq-eqb a b same))
    (λ (other : a ≢ b).
    ne_eqb (get_or concepts a 0) (get_or concepts b 0)
    (λ same. other (sym (place_of-get_or concepts rising a near) ∙ ap (place_of concepts) same
    ∙ place_of-get_or concepts rising b far))
    ∙ sym (ne_eqb a b other))
    (cases_eq a b)

-- in a list without repeats, two types are equal exactly if their places `a` and `b` are
pub same_type : (types : List ℕ) → IsDistinct nat_eq types → (a b : ℕ) → a < length types → b < length types
    → (get_or types a 0 == get_or types b 0) ≡ (a == b)
same_type types once a b near far = by (cases_order a b)
  where
    by : (a ≡ b) ⊎ ((a < b) ⊎ (b < a)) → (get_or types a 0 == get_or types b 0) ≡ (a == b)
    by (inl same) = eq-eqb (get_or types a 0) (get_or types b 0) (ap (λ k. get_or types k 0) same)
        ∙ sym (eq-eqb a b same)
    by (inr (inl less)) = apart_from_distinct nat_eq types a b 0 once less far
        ∙ sym (ne_eqb a b (λ same. absurd (omega arith)))
    by (inr (inr more)) = nat_eq_equiv.symm (get_or types a 0) (get_or types b 0)
        ∙ apart_from_distinct nat_eq types b a 0 once more near
        ∙ sym (ne_eqb a b (λ same. absurd (omega arith)))

module _ (concepts types : List ℕ) (values : List Value) (rising : IsStrictlyIncreasing concepts)
    (once : IsDistinct nat_eq types)
    (exact : (v w : ℕ) → v < length values → w < length values
    → value_eq (value_at values v) (value_at values w) ≡ (v == w)) where
  -- two attribute rows have equal pairs exactly if the coded rows `a` and `b` that encode them have equal numbers for
  -- type and value
  pub same_pair_coded : (a b : CodedRow) → IsCoded concepts types values a → IsCoded concepts types values b
      → pair_eq (pair_of (row_coded concepts types values a)) (pair_of (row_coded concepts types values b))
      ≡ has_same_pair a b
  same_pair_coded a b one other = λ i. same_type types once a.type_place b.type_place one.type_place other.type_place i
      && exact a.value b.value one.value other.value i

  -- two attribute rows have the same source and pair exactly if the coded rows `a` and `b` that encode them do
  pub alike_coded : (a b : CodedRow) → IsCoded concepts types values a → IsCoded concepts types values b
      → is_alike (row_coded concepts types values a) (row_coded concepts types values b)
      ≡ ((a.source == b.source) && has_same_pair a b)
  alike_coded a b one other = λ i. same_concept concepts rising a.source b.source one.source other.source i
      && same_pair_coded a b one other i

  -- two attribute rows have the same source, group number and pair exactly if the coded rows `a` and `b` that encode
  -- them do
  pub alike_in_group_coded : (a b : CodedRow) → IsCoded concepts types values a → IsCoded concepts types values b
      → is_alike_in_group (row_coded concepts types values a) (row_coded concepts types values b)
      ≡ ((a.group == b.group) && ((a.source == b.source) && has_same_pair a b))
  alike_in_group_coded a b one other = λ i. (a.group == b.group) && alike_coded a b one other i

  -- coded rows that encode one attribute row are equal
  pub same_coded : (a b : CodedRow) → IsCoded concepts types values a → IsCoded concepts types values b
      → row_coded concepts types values a ≡ row_coded concepts types values b → a ≡ b
  same_coded a b one other same =
      let source : a.source ≡ b.source = eqb-true a.source b.source
      (sym (same_concept concepts rising a.source b.source one.source other.source)
      ∙ eq-eqb _ _ (ap (λ (row : Attribute). row.source) same)) in
      let type_place : a.type_place ≡ b.type_place =
      eqb-true a.type_place b.type_place
      (sym (same_type types once a.type_place b.type_place one.type_place other.type_place)
      ∙ eq-eqb _ _ (ap (λ (row : Attribute). row.type_id) same)) in
      let value : a.value ≡ b.value = eqb-true a.value b.value
      (sym (exact a.value b.value one.value other.value)
      ∙ (tells_same_value (value_at values a.value) (value_at values b.value)).1
      (ap (λ (row : Attribute). row.value) same)) in
      let group : a.group ≡ b.group = ap (λ (row : Attribute). row.group) same in
      λ i. record { source = source i; type_place = type_place i; group = group i; value = value i }

  -- lists of coded rows that encode one list of attribute rows are equal
  pub same_all_coded : (xs ys : List CodedRow) → All (IsCoded concepts types values) xs
      → All (IsCoded concepts types values) ys
      → map (row_coded concepts types values) xs ≡ map (row_coded concepts types values) ys → xs ≡ ys
  same_all_coded [] [] near far same = refl
  same_all_coded [] (y ∷ ys) near far same = absurd (cc)
  same_all_coded (x ∷ xs) [] near far same = absurd (cc)
  same_all_coded (x ∷ xs) (y ∷ ys) near far same =
      let first : row_coded concepts types values x ≡ row_coded concepts types values y = cc in
      let others : map (row_coded concepts types values) xs ≡ map (row_coded concepts types values) ys = cc in
      let here = same_coded x y (All-head (IsCoded concepts types values) x xs near)
      (All-head (IsCoded concepts types values) y ys far)
      first in
      let rest = same_all_coded xs ys (All-tail (IsCoded concepts types values) x xs near)
      (All-tail (IsCoded concepts types values) y ys far) others in
      λ i. here i ∷ rest i
