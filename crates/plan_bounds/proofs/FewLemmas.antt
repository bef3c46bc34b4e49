-- How many items of a list pass a test. At most as many pass as there are other things, if each of these counts for at
-- most one item.
use Rattle.std.proofs.Common.{ℕ, suc, ◌+◌, ◌≡◌, ◌≤◌, ◌∷◌, [], ◌∙◌, ◌&&◌, ◌||◌, not, inl, inr, Bool, true, false, cond}
use Rattle.std.proofs.Common.{List, Option, Some, length, get_or, refl, sym, ap, subst, arith}
use Rattle.std.specs.Prelude.{Contains, count_by, filter, slice_get}
use Rattle.std.specs.List.{flat_map, range_with_len}
use Rattle.std.proofs.lemmas.Bool.{and_parts, both_ways, cases_lt, false≢true, not-true}
use Rattle.std.proofs.lemmas.List.Elements.{Contains-append_left, Contains-append_right}
use Rattle.std.proofs.lemmas.List.Folds.{fold-map}
use Rattle.std.proofs.lemmas.List.Sums.{length-filter, sum_by-cons, sum_by-le-sum_by}
use Rattle.std.proofs.lemmas.Option.{slice_get-get_or}
use Rattle.number_lists.proofs.ListLemmas.{contained_cases, first_contained, rest_contained, IsOnce}
use Rattle.number_lists.specs.Rising.{numbers_where}
use Rattle.number_lists.proofs.WhereLemmas.{numbers_where-agree}
use Rattle.number_lists.proofs.BlockLemmas.{Contains-filter, items_by_place}

-- ---- how many items pass
module _ {X : Type 0} where
  -- the count of a list is 1 or 0 for its first item and the count of the rest
  count-cons : (p : X → Bool) (x : X) (xs : List X) → count_by p (x ∷ xs) ≡ cond (p x) 1 0 + count_by p xs
  count-cons p x xs = sum_by-cons (λ x. cond (p x) 1 0) x xs

  -- if at least one item of `xs` is counted, `xs` contains an item that passes `p`
  pub some_counted : (p : X → Bool) (xs : List X) → 1 ≤ count_by p xs → (x : X) × Contains xs x × (p x ≡ true)
  some_counted p [] some = absurd (omega (arith, some))
  some_counted p (x ∷ xs) some = by (p x) refl (some_counted p xs)
    where
      by : (b : Bool) → p x ≡ b → (1 ≤ count_by p xs → (y : X) × Contains xs y × (p y ≡ true))
          → (y : X) × Contains (x ∷ xs) y × (p y ≡ true)
      by true passes rest = (x, first_contained x xs, passes)
      by false fails rest =
          let none : cond {A = ℕ} (p x) 1 0 ≡ 0 = ap (λ (b : Bool). cond {A = ℕ} b 1 0) fails in
          let found = rest (omega (arith, some, none, count-cons p x xs)) in
          (found.0, rest_contained x xs found.0 found.1, found.2)

  -- if no item of `xs` passes `p`, the count is 0
  pub count_none : (p : X → Bool) (xs : List X) → ((x : X) → Contains xs x → p x ≡ true → ⊥) → count_by p xs ≡ 0
  count_none p xs none = elim (cases_lt (count_by p xs) 1) [
    | inl few ↦ omega arith
    | inr some ↦ let found = some_counted p xs some in absurd (none found.0 found.1 found.2)
  ]

  -- if each item that passes `p` passes `q`, at most as many items of `xs` pass `p` as pass `q`
  pub count_le : (p q : X → Bool) (xs : List X) → ((x : X) → p x ≡ true → q x ≡ true) → count_by p xs ≤ count_by q xs
  count_le p q xs each = sum_by-le-sum_by (λ x. cond (p x) 1 0) (λ x. cond (q x) 1 0) xs (λ x. one (p x) (q x) (each x))
    where
      one : (a b : Bool) → (a ≡ true → b ≡ true) → cond {A = ℕ} a 1 0 ≤ cond {A = ℕ} b 1 0
      one true true so = omega arith
      one true false so = absurd (false≢true (so refl))
      one false b so = omega arith

  -- the number of items that pass `p` or `q` is at most the sum of the numbers of those that pass `p` and of those
  -- that pass `q`
  pub count_either : (p q : X → Bool) (xs : List X) → count_by (λ x. p x || q x) xs ≤ count_by p xs + count_by q xs
  count_either p q [] = omega arith
  count_either p q (x ∷ xs) =
      omega (
        arith,
        count-cons (λ x. p x || q x) x xs,
        count-cons p x xs,
        count-cons q x xs,
        count_either p q xs,
        one (p x) (q x),
      )
    where
      one : (a b : Bool) → cond {A = ℕ} (a || b) 1 0 ≤ cond {A = ℕ} a 1 0 + cond {A = ℕ} b 1 0
      one true b = omega arith
      one false b = omega arith

  -- if all items of `xs` that pass `p` are equal, and no item is twice in `xs`, at most one item passes
  pub count_once : (xs : List X) → IsOnce xs → (p : X → Bool)
      → ((x y : X) → Contains xs x → Contains xs y → p x ≡ true → p y ≡ true → x ≡ y) → count_by p xs ≤ 1
  count_once [] once p same = omega arith
  count_once (x ∷ xs) once p same =
      by (p x) refl
      (count_once xs (λ i j d less below. once (suc i) (suc j) d (omega arith) (omega arith)) p
      (λ y z there also. same y z (rest_contained x xs y there) (rest_contained x xs z also)))
    where
      no_other : p x ≡ true → (y : X) → Contains xs y → p y ≡ true → ⊥
      no_other here y there passes =
          once 0 (suc there.0) y (omega arith) (omega (arith, there.1))
          (same x y (first_contained x xs) (rest_contained x xs y there) here passes ∙ sym there.2)

      by : (b : Bool) → p x ≡ b → count_by p xs ≤ 1 → count_by p (x ∷ xs) ≤ 1
      by true here rest =
          let one : cond {A = ℕ} (p x) 1 0 ≡ 1 = ap (λ (b : Bool). cond {A = ℕ} b 1 0) here in
          omega (arith, one, count-cons p x xs, count_none p xs (no_other here))
      by false fails rest =
          let none : cond {A = ℕ} (p x) 1 0 ≡ 0 = ap (λ (b : Bool). cond {A = ℕ} b 1 0) fails in
          omega (arith, none, count-cons p x xs, rest)

  -- if `key` is one of `keys`, each item of `f key` is an item of `flat_map f keys`
  pub Contains-blocks : {K : Type 0} (f : K → List X) (keys : List K) (key : K) (x : X) → Contains keys key
      → Contains (f key) x
      → Contains (flat_map f keys) x
  Contains-blocks f [] key x there inside = absurd (omega (arith, there.1))
  Contains-blocks f (first ∷ keys) key x there inside = elim (contained_cases first keys key there) [
    | inl is ↦ Contains-append_left (f first) (flat_map f keys) x (subst (λ key. Contains (f key) x) (sym is) inside)
    | inr later ↦ Contains-append_right (f first) (flat_map f keys) x (Contains-blocks f keys key x later inside)
  ]

-- ---- if each of the others counts for at most one item
module _ {X Y : Type 0} (counts : X → Y → Bool) (xs : List X) (once : (y : Y) → count_by (λ x. counts x y) xs ≤ 1) where
  -- if the first of the others does not count for an item, one of the rest counts for it
  following : (y : Y) (ys : List Y) (x : X) → counts x y ≡ false → (z : Y) × Contains (y ∷ ys) z × (counts x z ≡ true)
      → (z : Y) × Contains ys z × (counts x z ≡ true)
  following y ys x other found = elim (contained_cases y ys found.0 found.1) [
    | inl is ↦ absurd (both_ways (counts x y) other (ap (counts x) is ∙ found.2))
    | inr later ↦ (found.0, later, found.2)
  ]

  -- if for each item of `xs` that passes `p` some `y` in `ys` counts, and each `y` counts for at most one item, then
  -- at most as many items pass `p` as `ys` has
  pub few_counted : (ys : List Y) (p : X → Bool)
      → ((x : X) → Contains xs x → p x ≡ true → (y : Y) × Contains ys y × (counts x y ≡ true))
      → count_by p xs ≤ length ys
  few_counted [] p had =
      omega (
        arith,
        count_none p xs (λ x there passes. let found =
            had x there passes in absurd (omega (arith, found.1.1))),
      )
  few_counted (y ∷ ys) p had =
      omega (
        arith,
        few_counted ys (λ x. p x && not (counts x y))
            (λ x there passes. let both = and_parts (p x) (not (counts x y)) passes in
            following y ys x (not-true (counts x y) both.1) (had x there both.0)),
        count_le p (λ x. (p x && not (counts x y)) || counts x y) xs (λ x passes. either (p x) (counts x y) passes),
        count_either (λ x. p x && not (counts x y)) (λ x. counts x y) xs,
        once y,
      )
    where
      either : (a b : Bool) → a ≡ true → ((a && not b) || b) ≡ true
      either true true passes = refl
      either true false passes = refl
      either false b passes = absurd (false≢true passes)

  -- if for each item of `xs` that passes `p` some `y` in `ys` counts that passes `r`, and each `y` counts for at most
  -- one item, then at most as many items pass `p` as items of `ys` pass `r`
  pub few_passing : (ys : List Y) (r : Y → Bool) (p : X → Bool)
      → ((x : X) → Contains xs x → p x ≡ true → (y : Y) × Contains ys y × (counts x y ≡ true) × (r y ≡ true))
      → count_by p xs ≤ count_by r ys
  few_passing ys r p had =
      omega (
        arith,
        few_counted (filter r ys) p
            (λ x there passes. let found =
            had x there passes in (found.0, Contains-filter r ys found.0 found.3 found.1, found.2)),
        length-filter r ys,
      )

-- ---- the numbers of items
module _ {X : Type 0} where
  -- the number of indexes at which `xs` has an item that passes `p` is the number of items that pass `p`
  pub length-places : (p : X → Bool) (xs : List X) (d : X) → length (numbers_where (length xs) (λ n. p (get_or xs n d)))
      ≡ count_by p xs
  length-places p xs d =
      length-filter (λ n. p (get_or xs n d)) (range_with_len 0 (length xs))
      ∙ sym (fold-map (λ sum x. sum + cond (p x) 1 0) (λ n. get_or xs n d) 0 (range_with_len 0 (length xs)))
      ∙ ap (count_by p) (sym (items_by_place xs d))

  -- the number of indexes at which `slice_get` returns an item of `xs` that passes `test` is the number of items that
  -- pass `test`
  pub length-places_got : (test : Option X → Bool) (xs : List X)
      → length (numbers_where (length xs) (λ n. test (slice_get xs n))) ≡ count_by (λ x. test (Some x)) xs
  length-places_got test [] = refl
  length-places_got test (x ∷ xs) =
      ap (λ (numbers : List ℕ). length numbers)
      (numbers_where-agree (length (x ∷ xs)) (λ n. test (slice_get (x ∷ xs) n)) (λ n. test (Some (get_or (x ∷ xs) n x)))
      (λ n below. ap test (slice_get-get_or (x ∷ xs) n x below)))
      ∙ length-places (λ y. test (Some y)) (x ∷ xs) x
