-- Sets of concepts of a release by their numbers, and what joins them.
use Rattle.std.proofs.Common.{ℕ, ◌≡◌, ◌<◌, ◌∙◌, ◌∷◌, [], inl, inr, Bool, true, false, not, ◌&&◌, ◌||◌, ◌==◌, List}
use Rattle.std.proofs.Common.{length, get_or, map, ltb, cond, refl, sym, ap, arith, Option, None, Some}
use Rattle.std.specs.Prelude.{filter}
use Rattle.std.specs.List.{range_with_len}
use Rattle.std.specs.List.Sorted.{IsStrictlyIncreasing}
use Rattle.std.proofs.lemmas.Bool.{and_parts, cases_order, cases_Bool, eq-eqb, eqb-true, false≢true, lt-ltb, ltb-false}
use Rattle.std.proofs.lemmas.Bool.{not-true}
use Rattle.std.proofs.lemmas.List.Elements.{Contains-get_or}
use Rattle.std.proofs.lemmas.List.FromFn.{fill_by_all}
use Rattle.std.proofs.lemmas.List.Quantifiers.{position-Some}
use Rattle.std.proofs.lemmas.List.Sums.{prefix_len_passes}
use Rattle.std.proofs.Math.Bool.{or-false}
use Rattle.release_model.specs.Release.{Release}
use Rattle.constraint_tree.specs.Walks.{has_concept}
use Rattle.constraint_tree.proofs.WalkLemmas.{tells_in_force}
use Rattle.idset.specs.Sets.{all_items}
use Rattle.number_lists.specs.Members.{has}
use Rattle.number_lists.specs.Rising.{IsRisingBelow}
use Rattle.number_lists.proofs.RisingLemmas.{rises_from_on, rising_is_where}
use Rattle.idset.proofs.Normal.{all_items-numbers_where}
use Rattle.number_lists.proofs.WhereLemmas.{has-numbers_where_any, numbers_where-agree, numbers_where-all}
use Rattle.number_lists.proofs.WhereLemmas.{numbers_where-none}
use Rattle.held_release.specs.Numbering.{concept_number}
use Rattle.number_lists.proofs.PlaceLemmas.{place_of}
use Rattle.number_lists.proofs.IncreasingLemmas.{earlier_below}
use Rattle.number_lists.proofs.ListLemmas.{both_ways}
use Rattle.candidates.specs.Numbers.{numbers_in}

-- if `p` and `q` agree on the concepts of the release, the same numbers of concepts pass both
pub numbers_in-agree : (release : Release) (p q : ℕ → Bool)
    → ((n : ℕ) → n < length release.concepts → p (get_or release.concepts n 0) ≡ q (get_or release.concepts n 0))
    → numbers_in release p ≡ numbers_in release q
numbers_in-agree release p q agree =
    numbers_where-agree (length release.concepts) (λ n. p (get_or release.concepts n 0))
    (λ n. q (get_or release.concepts n 0)) agree

-- each of the release's concepts is in force
pub in_force_at : (release : Release) (n : ℕ) → n < length release.concepts
    → has_concept release (get_or release.concepts n 0) ≡ true
in_force_at release n within =
    (tells_in_force release (get_or release.concepts n 0)).1 (Contains-get_or release.concepts n 0 within)

-- for a set of concepts, the test of being in force can be added without changing the numbers
pub in_force_kept : (release : Release) (set : ℕ → Bool)
    → numbers_in release set ≡ numbers_in release (λ concept. has_concept release concept && set concept)
in_force_kept release set =
    numbers_in-agree release set (λ concept. has_concept release concept && set concept)
    (λ n within i. sym (in_force_at release n within) i && set (get_or release.concepts n 0))

-- all numbers below the number of concepts are the numbers of the set of all concepts
pub each_in : (release : Release) → range_with_len 0 (length release.concepts) ≡ numbers_in release (λ _. true)
each_in release = sym (numbers_where-all (length release.concepts))

-- all numbers below the number of concepts are the numbers of the concepts in force
pub each_in_force : (release : Release)
    → range_with_len 0 (length release.concepts) ≡ numbers_in release (has_concept release)
each_in_force release =
    each_in release ∙ numbers_in-agree release (λ _. true) (has_concept release)
    (λ n within. sym (in_force_at release n within))

-- the empty list has the numbers of the empty set of concepts
pub none_in : (release : Release) → [] ≡ numbers_in release (λ _. false)
none_in release = sym (numbers_where-none (length release.concepts))

-- the numbers of `set` contain `n` exactly if the concept with the number `n` is in `set`
pub member_in : (release : Release) (set : ℕ → Bool) (n : ℕ) → n < length release.concepts
    → has (numbers_in release set) n ≡ set (get_or release.concepts n 0)
member_in release set n within =
    has-numbers_where_any (length release.concepts) (λ m. set (get_or release.concepts m 0)) n ∙ below
  where
    below : (ltb n (length release.concepts) && set (get_or release.concepts n 0)) ≡ set (get_or release.concepts n 0)
    below i = lt-ltb n (length release.concepts) within i && set (get_or release.concepts n 0)

-- the numbers of two sets of concepts, `p` and `q`
module _ (release : Release) (one other : List ℕ) (p q : ℕ → Bool) (one_is : one ≡ numbers_in release p)
    (other_is : other ≡ numbers_in release q) where
  -- the test `set` on the concept with a number
  abbrev by_number : (ℕ → Bool) → ℕ → Bool
  by_number set n = set (get_or release.concepts n 0)

  -- the union of the numbers of `p` and of `q` has the numbers of the concepts that are in `p` or in `q`
  pub either_in : (bound : ℕ) → bound ≡ length release.concepts
      → all_items bound one other ≡ numbers_in release (λ concept. p concept || q concept)
  either_in bound is = (λ i. all_items (is i) (one_is i) (other_is i))
      ∙ all_items-numbers_where (length release.concepts) (by_number p) (by_number q)

-- ---- the number of a concept
-- in a strictly rising list, equal items have equal places
pub same_place : (xs : List ℕ) → IsStrictlyIncreasing xs → (i j : ℕ) → i < length xs → j < length xs
    → get_or xs i 0 ≡ get_or xs j 0 → i ≡ j
same_place xs rising i j i_within j_within same = elim (cases_order i j) [
  | inl here ↦ here
  | inr (inl before) ↦ let below : get_or xs i 0 < get_or xs j 0 =
      earlier_below xs rising i j before j_within in absurd (omega arith)
  | inr (inr after) ↦ let below : get_or xs j 0 < get_or xs i 0 =
      earlier_below xs rising j i after i_within in absurd (omega arith)
]

-- in a strictly rising list, two items are equal exactly if their places are
pub same_by_number : (xs : List ℕ) → IsStrictlyIncreasing xs → (i j : ℕ) → i < length xs → j < length xs
    → (get_or xs i 0 == get_or xs j 0) ≡ (i == j)
same_by_number xs rising i j i_within j_within =
    both_ways (get_or xs i 0 == get_or xs j 0) (i == j)
    (λ told. eq-eqb i j (same_place xs rising i j i_within j_within (eqb-true (get_or xs i 0) (get_or xs j 0) told)))
    (λ told. eq-eqb (get_or xs i 0) (get_or xs j 0) (ap (λ (k : ℕ). get_or xs k 0) (eqb-true i j told)))

-- if `id` has the number `place`, then `id` is at `place` in the list
pub concept_number-Some : (xs : List ℕ) (id place : ℕ) → concept_number xs id ≡ Some place
    → (place < length xs) × (get_or xs place 0 ≡ id)
concept_number-Some xs id place at =
    let found = position-Some (λ other. id == other) xs place 0 at in
    (found.0, sym (eqb-true id (get_or xs place 0) found.1))

-- if `id` has no number, it is at no place of the list
pub concept_number-None : (xs : List ℕ) (id : ℕ) → concept_number xs id ≡ None → (i : ℕ) → i < length xs
    → get_or xs i 0 ≡ id → ⊥
concept_number-None xs id at i within same = elim (cases_Bool (ltb (place_of xs id) (length xs))) [
  | inl there ↦ let found : Some (place_of xs id) ≡ None = rw there at at in absurd cc
  | inr past ↦
      let before : i < place_of xs id = omega (arith, ltb-false (place_of xs id) (length xs) past) in
      let other : not (id == get_or xs i 0) ≡ true = prefix_len_passes (λ x. not (id == x)) xs i 0 before in
      false≢true (sym (not-true (id == get_or xs i 0) other) ∙ eq-eqb id (get_or xs i 0) (sym same))
]

-- a list of the number, if there is one
abbrev pub as_list : Option ℕ → List ℕ
as_list None = []
as_list (Some number) = number ∷ []

-- the set of the concept in force `id` has exactly the number of `id`, if it has one
pub one_in : (release : Release) → IsStrictlyIncreasing release.concepts → (id : ℕ) (number : Option ℕ)
    → concept_number release.concepts id ≡ number
    → as_list number ≡ numbers_in release (λ concept. has_concept release concept && (concept == id))
one_in release rising id None at =
    none_in release
    ∙ numbers_in-agree release (λ _. false) (λ concept. has_concept release concept && (concept == id))
    (λ n within. both_ways false _ (λ told. absurd (false≢true told))
    (λ told. absurd (concept_number-None release.concepts id at n within
    (eqb-true (get_or release.concepts n 0) id (and_parts (has_concept release (get_or release.concepts n 0)) _
    told).1))))
one_in release rising id (Some place) at =
    let found = concept_number-Some release.concepts id place at in
    rising_is_where (length release.concepts) (place ∷ []) _ (alone place (length release.concepts) found.0)
    (λ n within.
    or-false (place == n)
    ∙ sym (same_by_number release.concepts rising place n found.0 within)
    ∙ turned_round (get_or release.concepts place 0) (get_or release.concepts n 0)
    ∙ ap (λ (k : ℕ). get_or release.concepts n 0 == k) found.1
    ∙ (λ i. sym (in_force_at release n within) i && (get_or release.concepts n 0 == id)))
  where
    alone : (n bound : ℕ) → n < bound → IsRisingBelow bound (n ∷ [])
    alone n bound below = rises_from_on 0 bound n [] (omega arith) below refl

    turned_round : (a b : ℕ) → (a == b) ≡ (b == a)
    turned_round a b = both_ways (a == b) (b == a) (λ told. eq-eqb b a (sym (eqb-true a b told)))
        (λ told. eq-eqb a b (sym (eqb-true b a told)))

-- ---- back to the concepts
-- to map and then filter gives the list that is filtered by the test of the mapped items and then mapped
filter_of_map : (test : ℕ → Bool) (f : ℕ → ℕ) (xs : List ℕ)
    → filter test (map f xs) ≡ map f (filter (λ x. test (f x)) xs)
filter_of_map test f [] = refl
filter_of_map test f (x ∷ xs) =
    elim (test (f x)) as (λ b. cond b (f x ∷ filter test (map f xs)) (filter test (map f xs))
    ≡ map f (cond b (x ∷ filter (λ y. test (f y)) xs) (filter (λ y. test (f y)) xs))) [
      | true ↦ ap (λ (ys : List ℕ). f x ∷ ys) (filter_of_map test f xs)
      | false ↦ filter_of_map test f xs
    ]

-- looking up the numbers of a set of concepts gives the concepts of the release that are in the set
pub concepts_of : (release : Release) (set : ℕ → Bool) → map (λ n. get_or release.concepts n 0) (numbers_in release set)
    ≡ filter set release.concepts
concepts_of release set =
    sym (ap (filter set) (fill_by_all (λ n. get_or release.concepts n 0) release.concepts (length release.concepts) 0
    refl (λ k within. refl))
    ∙ filter_of_map set (λ n. get_or release.concepts n 0) (range_with_len 0 (length release.concepts)))
