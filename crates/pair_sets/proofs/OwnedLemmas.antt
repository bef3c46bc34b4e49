-- The numbers of the groups of concepts.
use Rattle.std.proofs.Common.{ℕ, zero, suc, ◌≡◌, ◌≤◌, ◌<◌, ◌+◌, ◌-◌, ◌∙◌, ◌∷◌, ◌++◌, [], inl, inr, ◌⊎◌, arith}
use Rattle.std.proofs.Common.{length-append}
use Rattle.std.proofs.Common.{Bool, true, false, ◌||◌, ◌==◌, List, length, get_or, map, take, drop, refl, sym, ap}
use Rattle.std.proofs.Common.{subst}
use Rattle.std.specs.Prelude.{All, Contains, Option, nat_eq, slice_get}
use Rattle.std.specs.List.{AllByRecursion, IsDistinct, range_with_len}
use Rattle.std.specs.List.Sorted.{IsStrictlyIncreasing}
use Rattle.std.proofs.lemmas.Bool.{cases_eq, cases_lt, eq-eqb, false≢true, ne_eqb}
use Rattle.std.proofs.lemmas.List.{length-map, take-append-drop, take_more}
use Rattle.std.proofs.lemmas.List.Folds.{list_any-append}
use Rattle.pair_sets.proofs.TimesLemmas.{item_more}
use Rattle.std.proofs.lemmas.List.Elements.{Contains-append_right, Contains-get_or}
use Rattle.std.proofs.lemmas.List.FromFn.{get_or-range_with_len, length-range_with_len}
use Rattle.std.proofs.lemmas.Grind.{flat_map-append}
use Rattle.std.proofs.Math.Bool.{or-false}
use Rattle.release_model.specs.Release.{Release}
use Rattle.number_lists.specs.Members.{has}
use Rattle.number_lists.specs.Rising.{numbers_where}
use Rattle.number_lists.proofs.WhereLemmas.{has-numbers_where}
use Rattle.postings.specs.Groups.{ConceptGroup, GroupKey, all_groups, groups_among, groups_before, groups_in, keys_of}
use Rattle.postings.specs.Groups.{rows_alone}
use Rattle.postings.specs.Indexed.{Indexed, IsIndexOf}
use Rattle.postings.proofs.KeyLemmas.{group_with, groups_at}
use Rattle.candidates.specs.Groups.{concept_in}
use Rattle.pair_sets.specs.Owned.{HaveGroupsOf}
use Rattle.candidates.proofs.GroupLemmas.{groups_are}
use Rattle.pair_sets.proofs.LeafLemmas.{concepts_apart}

-- ---- ranges
-- a range contains each number from its start to before its end
pub has_range : (start n g : ℕ) → start ≤ g → g < start + n → has (range_with_len start n) g ≡ true
has_range start zero g from within = absurd (omega (arith, from, within))
has_range start (suc n) g from within = elim (cases_eq start g) [
  | inl same ↦ (λ i. eq-eqb start g same i || has (range_with_len (start + 1) n) g)
  | inr apart ↦
      (λ i. ne_eqb start g apart i || has (range_with_len (start + 1) n) g)
      ∙ has_range (start + 1) n g (omega (arith, from, apart)) (omega (arith, within))
]

-- a range that ends at `end` is below `bound`, if `end` is at most `bound`
pub range_below : (start end bound : ℕ) → end ≤ bound → All (λ g. g < bound) (range_with_len start (end - start))
range_below start end bound fits k d within =
    let short : k < end - start = omega (arith, within, length-range_with_len start (end - start)) in
    omega (arith, short, fits, get_or-range_with_len start (end - start) k d short)

-- a range of `n + 1` numbers is the range of `n` numbers, then `start + n`
pub range_next : (start n : ℕ) → range_with_len start (n + 1) ≡ range_with_len start n ++ (start + n) ∷ []
range_next start zero = ap (λ (m : ℕ). m ∷ []) (omega arith)
range_next start (suc n) =
    let longer : suc n + 1 ≡ suc (n + 1) = omega arith in
    let last : start + 1 + n ≡ start + suc n = omega arith in
    ap (range_with_len start) longer
    ∙ ap (λ (xs : List ℕ). start ∷ xs) (range_next (start + 1) n)
    ∙ ap (λ (m : ℕ). start ∷ (range_with_len (start + 1) n ++ m ∷ [])) last

-- ---- an item of one of two lists
-- an item of `xs` is in `xs ++ ys`
pub has_sooner : (xs ys : List ℕ) (n : ℕ) → has xs n ≡ true → has (xs ++ ys) n ≡ true
has_sooner xs ys n there = list_any-append (λ x. x == n) xs ys ∙ (λ i. there i || has ys n)

-- an item of `ys` is in `xs ++ ys`
pub has_later : (xs ys : List ℕ) (n : ℕ) → has ys n ≡ true → has (xs ++ ys) n ≡ true
has_later xs ys n there = list_any-append (λ x. x == n) xs ys ∙ (λ i. has xs n || there i) ∙ always (has xs n)
  where
    always : (b : Bool) → (b || true) ≡ true
    always true = refl
    always false = refl

-- an item of the first `k + 1` is one of the first `k`, or item `k`
pub taken_more : (xs : List ℕ) (k n : ℕ) → k < length xs → has (take (k + 1) xs) n ≡ true → (has (take k xs) n ≡ true)
    ⊎ (get_or xs k 0 ≡ n)
taken_more xs k n within there = elim (cases_eq (get_or xs k 0) n) [
  | inl same ↦ inr same
  | inr apart ↦
      inl (sym (or-false (has (take k xs) n)) ∙ (λ i. has (take k xs) n || sym (ne_eqb (get_or xs k 0) n apart) i)
      ∙ sym (item_more (take k xs) (get_or xs k 0) n) ∙ ap (λ (ys : List ℕ). has ys n) (sym (take_more xs k 0 within))
      ∙ there)
]

-- ---- items of two lists, one after the other
-- both lists together have at a place within the first list the item of that list
get_left : {X : Type 0} (xs ys : List X) (k : ℕ) → k < length xs → slice_get (xs ++ ys) k ≡ slice_get xs k
get_left [] ys k within = absurd (omega (arith, within))
get_left (x ∷ xs) ys zero within = refl
get_left (x ∷ xs) ys (suc k) within = get_left xs ys k (omega (arith, within))

-- both lists together have, after the first list, the items of the second list
get_right : {X : Type 0} (xs ys : List X) (k : ℕ) → slice_get (xs ++ ys) (length xs + k) ≡ slice_get ys k
get_right [] ys k = ap (slice_get ys) (omega arith)
get_right (x ∷ xs) ys k = ap (slice_get (x ∷ (xs ++ ys))) next ∙ get_right xs ys k
  where
    next : length (x ∷ xs) + k ≡ suc (length xs + k)
    next = omega arith

-- a list all of whose items differ from x does not contain x
absent : (x : ℕ) (xs : List ℕ) → AllByRecursion (λ other. nat_eq x other ≡ false) xs → Contains xs x → ⊥
absent x [] apart (k, within, is) = omega (arith, within)
absent x (y ∷ ys) apart (zero, within, is) = false≢true (sym apart.0 ∙ eq-eqb x y (sym is))
absent x (y ∷ ys) apart (suc k, within, is) = absent x ys apart.1 (k, omega (arith, within), is)

module _ (release : Release) where
  -- each group of a concept's block has this concept
  of_block : (c : ℕ) (keys : List GroupKey) (g : ℕ) → g < length keys
      → concept_in (slice_get (map (group_with c) keys) g) ≡ c
  of_block c [] g within = absurd (omega (arith, within))
  of_block c (key ∷ keys) zero within = refl
  of_block c (key ∷ keys) (suc g) within = of_block c keys g (omega (arith, within))

  -- the concept of a group is one of those whose groups are listed
  own_among : (xs : List ℕ) (g : ℕ) → g < length (groups_among release xs)
      → Contains xs (concept_in (slice_get (groups_among release xs) g))
  own_among [] g within = absurd (omega (arith, within))
  own_among (x ∷ xs) g within =
      let block : List ConceptGroup = groups_at release x in
      let rest : List ConceptGroup = groups_among release xs in
      let all : length (block ++ rest) ≡ length block + length rest = length-append block rest in
      elim (cases_lt g (length block)) [
        | inl near ↦
            let is : concept_in (slice_get (block ++ rest) g) ≡ x =
            ap concept_in (get_left block rest g near) ∙ of_block x (keys_of release x) g
            (omega (arith, near, length-map (keys_of release x) (group_with x))) in
            subst (Contains (x ∷ xs)) (sym is) (0, omega arith, refl)
        | inr far ↦
            let at : g ≡ length block + (g - length block) = omega (arith, far) in
            let is : slice_get (block ++ rest) g ≡ slice_get rest (g - length block) =
            ap (slice_get (block ++ rest)) at ∙ get_right block rest (g - length block) in
            subst (λ (found : Option ConceptGroup). Contains (x ∷ xs) (concept_in found)) (sym is)
            (Contains-append_right (x ∷ []) xs (concept_in (slice_get rest (g - length block)))
            (own_among xs (g - length block) (omega (arith, far, within, all))))
      ]

  -- a group of the concept at place n comes after the groups of the concepts before n, and before those of the concepts
  -- after n
  spans : (xs : List ℕ) → IsDistinct nat_eq xs → (g n : ℕ) → g < length (groups_among release xs) → n < length xs
      → concept_in (slice_get (groups_among release xs) g) ≡ get_or xs n 0
      → (length (groups_among release (take n xs)) ≤ g) × (g < length (groups_among release (take (suc n) xs)))
  unfolding IsDistinct
  spans [] distinct g n within inside is = absurd (omega (arith, inside))
  spans (x ∷ xs) distinct g zero within inside is =
      let block : List ConceptGroup = groups_at release x in
      let rest : List ConceptGroup = groups_among release xs in
      elim (cases_lt g (length block)) [
        | inl near ↦ (omega arith, omega (arith, near, length-append block []))
        | inr far ↦
            let at : g ≡ length block + (g - length block) = omega (arith, far) in
            let its : slice_get (block ++ rest) g ≡ slice_get rest (g - length block) =
            ap (slice_get (block ++ rest)) at ∙ get_right block rest (g - length block) in
            let below : g - length block < length rest = omega (arith, far, within, length-append block rest) in
            absurd (absent x xs distinct.0 (subst (Contains xs) (ap concept_in (sym its) ∙ is)
            (own_among xs (g - length block) below)))
      ]
  spans (x ∷ xs) distinct g (suc n) within inside is =
      let block : List ConceptGroup = groups_at release x in
      let rest : List ConceptGroup = groups_among release xs in
      let inner : n < length xs = omega (arith, inside) in
      elim (cases_lt g (length block)) [
        | inl near ↦
            let its : concept_in (slice_get (block ++ rest) g) ≡ x =
            ap concept_in (get_left block rest g near) ∙ of_block x (keys_of release x) g
            (omega (arith, near, length-map (keys_of release x) (group_with x))) in
            absurd (absent x xs distinct.0 (subst (Contains xs) (sym is ∙ its) (Contains-get_or xs n 0 inner)))
        | inr far ↦
            let at : g ≡ length block + (g - length block) = omega (arith, far) in
            let its : slice_get (block ++ rest) g ≡ slice_get rest (g - length block) =
            ap (slice_get (block ++ rest)) at ∙ get_right block rest (g - length block) in
            let below : g - length block < length rest = omega (arith, far, within, length-append block rest) in
            let span = spans xs distinct.1 (g - length block) n below inner (ap concept_in (sym its) ∙ is) in (
              omega (arith, far, span.0, length-append block (groups_among release (take n xs))),
              omega (arith, far, span.1, length-append block (groups_among release (take (suc n) xs))),
            )
      ]

-- ---- the groups in the indexes
-- the concepts before `n` have at most as many groups as all concepts
pub before_all : (indexed : Indexed) (n : ℕ) → length (groups_before indexed n) ≤ length (groups_in indexed)
before_all indexed n =
    let alone : Release = rows_alone indexed.concepts indexed.rows in
    omega (
      arith,
      length-append (groups_among alone (take n indexed.concepts)) (groups_among alone (drop n indexed.concepts)),
      ap (λ (groups : List ConceptGroup). length groups)
          (sym (flat_map-append (groups_at alone) (take n indexed.concepts) (drop n indexed.concepts))
          ∙ ap (groups_among alone) (take-append-drop n indexed.concepts)),
    )

module _ (indexed : Indexed) (release : Release) (index : IsIndexOf indexed release)
    (rising : IsStrictlyIncreasing release.concepts) where
  -- if `found` contains, for each concept of `items`, the range of its group numbers, then it has all groups of these
  -- concepts
  pub owned : (items found : List ℕ)
      → ((concept group : ℕ) → has items concept ≡ true → length (groups_before indexed concept) ≤ group
      → group < length (groups_before indexed (concept + 1)) → has found group ≡ true)
      → (groups : List ℕ) → groups ≡ numbers_where (length (groups_in indexed)) (has found)
      → HaveGroupsOf release items groups
  owned items found have groups groups_are_found number group is_item inside within same =
      let all : groups_in indexed ≡ all_groups release = groups_are indexed release index rising in
      let near : group < length (groups_in indexed) =
      subst (λ (groups : List ConceptGroup). group < length groups) (sym all) within in
      let apart : IsDistinct nat_eq indexed.concepts =
      subst (IsDistinct nat_eq) (sym index.concepts) (concepts_apart release.concepts rising) in
      let span = spans (rows_alone indexed.concepts indexed.rows) indexed.concepts apart group number near
      (subst (λ (ids : List ℕ). number < length ids) (sym index.concepts) inside)
      (ap (λ (groups : List ConceptGroup). concept_in (slice_get groups group)) all ∙ same
      ∙ ap (λ (ids : List ℕ). get_or ids number 0) (sym index.concepts)) in
      ap (λ (xs : List ℕ). has xs group) groups_are_found
      ∙ has-numbers_where (length (groups_in indexed)) (has found) group near
      ∙ have number group is_item span.0 (subst (λ (m : ℕ). group < length (groups_before indexed m)) next span.1)
    where
      next : suc number ≡ number + 1
      next = omega arith
