-- Finding a key among keys that rise.
use Rattle.number_lists.proofs.BlockLemmas.{Contains-map}
use Rattle.std.proofs.Common.{ℕ, ◌+◌, ◌≡◌, ◌<◌, ◌∙◌, inl, inr, Bool, List, length, get_or, ltb, Err, Ok}
use Rattle.std.proofs.Common.{◌∷◌, [], Some, map, sym, ap, subst, arith}
use Rattle.std.specs.Prelude.{◌↔◌, bytes_eq}
use Rattle.std.specs.Cmp.{IsTotalOrder}
use Rattle.std.specs.Cmp.Lexicographic.{on_texts, on_texts_equal, texts_ties}
use Rattle.std.specs.List.{AllByRecursion, Contains, dedup, slice_get}
use Rattle.std.specs.List.Sorted.{IsBinarySearchResult, IsPermutation, IsSorted, IsStrictlySortedBy}
use Rattle.std.specs.Ordering.{is_lt, ordering_reverse}
use Rattle.std.specs.declared.cmp.Ordering.{Ordering}
use Rattle.std.specs.declared.cmp.Ordering.TheVariants.{Equal, Less}
use Rattle.std.proofs.lemmas.Bool.{cases_eq, cases_lt, le-ltb, lt-ltb}
use Rattle.std.proofs.lemmas.Cmp.{tied_itself}
use Rattle.std.proofs.lemmas.List.Sorted.{Contains-permutation, IsPermutation-sym, searchable_from_sorted}
use Rattle.std.proofs.lemmas.List.Kept.{Any-dedup, Contains-from_dedup, IsStrictlySortedBy-dedup}
use Rattle.std.proofs.lemmas.Map.Keys.{Less-from_sorted}
use Rattle.std.proofs.lemmas.Option.{slice_get-get_or}
use Rattle.std.proofs.lemmas.Slice.Eq.{bytes_eq-Decides}
use Rattle.held_release.specs.RowValues.{text_cmp}
use Rattle.held_release.proofs.ValueLemmas.{from_map}

module _ {K : Type 0} {R : K → K → Ordering} (order : IsTotalOrder R) (keys : List K)
    (rises : IsStrictlySortedBy R keys) where
  -- keys that rise strictly are sorted
  pub rising_is_sorted : IsSorted R keys
  rising_is_sorted k d from within =
      ap is_lt (order.antisymm (get_or keys (k + 1) d) (get_or keys k d)
      ∙ ap ordering_reverse (Less-from_sorted R keys k (k + 1) d rises (omega arith) within))

  module _ (key : K) (place : ℕ) (d : K) (below : place < length keys) (is : get_or keys place d ≡ key) where
    -- in strictly rising keys, the keys less than the one at `place` are those before it
    pub is_before : (k : ℕ) → k < length keys → is_lt (R (get_or keys k d) key) ≡ ltb k place
    is_before k within = elim (cases_lt k place) [
      | inl before ↦
          ap is_lt (subst (λ (key : K). R (get_or keys k d) key ≡ Less) is
          (Less-from_sorted R keys k place d rises before below))
          ∙ sym (lt-ltb k place before)
      | inr past ↦ elim (cases_eq k place) [
        | inl same ↦
            ap is_lt (ap (λ (k : ℕ). R (get_or keys k d) key) same ∙ ap (λ (x : K). R x key) is ∙ tied_itself order key)
            ∙ sym (le-ltb k place past)
        | inr apart ↦
            ap is_lt (order.antisymm (get_or keys k d) key
            ∙ ap ordering_reverse (subst (λ (key : K). R key (get_or keys k d) ≡ Less) is
            (Less-from_sorted R keys place k d rises (omega (arith, past, apart)) within)))
            ∙ sym (le-ltb k place past)
      ]
    ]

  -- a binary search for a key
  module _ (key : K) where
    -- a binary search for `key` that ends with `Ok` has found a place at which `key` is
    pub found_place : ((x y : K) → R x y ≡ Equal → x ≡ y) → (at : ℕ) → at < length keys
        → IsBinarySearchResult (λ y. R y key) keys (Ok at) → slice_get keys at ≡ Some key
    found_place exact at below tied =
        slice_get-get_or keys at key below ∙ ap (λ (x : K). Some x) (exact (get_or keys at key) key (tied key))

    -- a binary search for a key that is in the list cannot end with `Err`
    pub never_missed : Contains keys key → (at : ℕ) → IsBinarySearchResult (λ y. R y key) keys (Err at) → {X : Type 0}
        → X
    never_missed there at found =
        let point = found (searchable_from_sorted order (λ (x : K). x) keys key rising_is_sorted) in
        let tied : R (get_or keys there.0 key) key ≡ Equal = ap (λ (x : K). R x key) there.2 ∙ tied_itself order key in
        elim (cases_lt there.0 at) [
          | inl before ↦ absurd (cc (sym tied ∙ point.0 there.0 key (omega arith) before))
          | inr following ↦ absurd (cc (sym tied ∙ point.1 there.0 key following there.1))
        ]

-- ---- texts that are given by items, sorted and without repeats
module _ {X : Type 0} (f : X → List ℕ) (sorted : List X) where
  abbrev same : X → X → Bool
  same one other = bytes_eq (f one) (f other)

  -- sorted texts rise strictly after repeats are removed
  pub texts_sorted : IsSorted (λ one other. text_cmp (f one) (f other)) sorted
      → IsStrictlySortedBy text_cmp (map f (dedup same sorted))
  unfolding IsStrictlySortedBy
  texts_sorted in_order =
      by (dedup same sorted)
      (IsStrictlySortedBy-dedup (on_texts f) (λ one other. texts_ties (f one) (f other)) sorted in_order)
    where
      less : (x : X) (xs : List X) → AllByRecursion (λ y. text_cmp (f x) (f y) ≡ Less) xs
          → AllByRecursion (λ y. text_cmp (f x) y ≡ Less) (map f xs)
      less x [] all = tt
      less x (y ∷ xs) all = (all.0, less x xs all.1)

      by : (xs : List X) → IsStrictlySortedBy (λ one other. text_cmp (f one) (f other)) xs
          → IsStrictlySortedBy text_cmp (map f xs)
      by [] rises = tt
      by (x ∷ xs) rises = (less x xs rises.0, by xs rises.1)

-- sorting texts and removing repeats neither loses nor adds a text
pub texts_kept : {X : Type 0} (f : X → List ℕ) (xs sorted : List X) → IsPermutation xs sorted → (text : List ℕ)
    → Contains (map f (dedup (λ one other. bytes_eq (f one) (f other)) sorted)) text ↔ Contains (map f xs) text
texts_kept {X} f xs sorted moved text = (
  λ there.
      let from = from_map f (dedup same sorted) text there in
      subst (Contains (map f xs)) from.2 (Contains-map f xs from.0
      (Contains-permutation sorted xs from.0 (IsPermutation-sym xs sorted moved)
      (Contains-from_dedup same sorted from.0 from.1))),
  λ there.
      let from = from_map f xs text there in
      let kept = Any-dedup (on_texts_equal f) sorted from.0 (Contains-permutation xs sorted from.0 moved from.1) in
      let is : f kept.1 ≡ text = sym ((bytes_eq-Decides (f from.0) (f kept.1)).0 kept.4) ∙ from.2 in
      subst (Contains (map f (dedup same sorted))) is
      (Contains-map f (dedup same sorted) kept.1 (kept.0, kept.2, kept.3)),
)
  where
    same : X → X → Bool
    same one other = bytes_eq (f one) (f other)
