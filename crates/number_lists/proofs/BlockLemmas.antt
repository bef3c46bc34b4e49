-- Lists in blocks, one for each number of a range: filters, maps and tests of them.
use Rattle.std.proofs.Common.{ℕ, zero, suc, ◌+◌, ◌≡◌, ◌<◌, ◌≤◌, ◌++◌, ◌∷◌, [], ◌∙◌, ◌&&◌}
use Rattle.std.proofs.Common.{◌||◌, List, length, get_or, map, take, Bool, true, false, cond, refl, ap, subst, arith}
use Rattle.std.proofs.Common.{length-append}
use Rattle.std.specs.Prelude.{All, Contains}
use Rattle.std.specs.List.{filter, flat_map, list_any, range_with_len}
use Rattle.std.proofs.lemmas.List.{get_or-map, length-map, map-append}
use Rattle.std.proofs.lemmas.List.Elements.{All-append, All-cons, All-head, All-nil, All-tail, Contains-append_right}
use Rattle.std.proofs.lemmas.List.Elements.{filter-append}
use Rattle.std.proofs.lemmas.List.Folds.{flat_map-map, list_any-append}
use Rattle.std.proofs.lemmas.List.FromFn.{fill_by_all, take-map-range_with_len}

-- ---- filters and maps
module _ {X : Type 0} where
  -- filtering `map f xs` by `p` is mapping the items `x` of `xs` for which `f x` passes `p`
  pub filter-map : {Y : Type 0} (p : Y → Bool) (f : X → Y) (xs : List X)
      → filter p (map f xs) ≡ map f (filter (λ x. p (f x)) xs)
  filter-map p f [] = refl
  filter-map p f (x ∷ xs) =
      let rest = filter-map p f xs in
      elim (p (f x)) as (λ b. cond b (f x ∷ filter p (map f xs)) (filter p (map f xs))
      ≡ map f (cond b (x ∷ filter (λ x. p (f x)) xs) (filter (λ x. p (f x)) xs)))
      [ true ↦ (λ i. f x ∷ rest i) | false ↦ rest ]

  -- tests that agree on the items of a list keep the same items of it
  pub filter-within : (p q : X → Bool) (xs : List X) → All (λ x. p x ≡ q x) xs → filter p xs ≡ filter q xs
  filter-within p q [] same = refl
  filter-within p q (x ∷ xs) same =
      let here : p x ≡ q x = All-head (λ x. p x ≡ q x) x xs same in
      let rest = filter-within p q xs (All-tail (λ x. p x ≡ q x) x xs same) in
      λ i. cond (here i) (x ∷ rest i) (rest i)

  -- filtering by `q` and then by `p` is filtering by both at once
  pub filter-twice : (p q : X → Bool) (xs : List X) → filter p (filter q xs) ≡ filter (λ x. q x && p x) xs
  filter-twice p q [] = refl
  filter-twice p q (x ∷ xs) =
      let rest = filter-twice p q xs in
      elim (q x) as (λ b. filter p (cond b (x ∷ filter q xs) (filter q xs))
      ≡ cond (b && p x) (x ∷ filter (λ x. q x && p x) xs) (filter (λ x. q x && p x) xs))
      [ true ↦ (λ i. cond (p x) (x ∷ rest i) (rest i)) | false ↦ rest ]

  -- if no item passes the test, the filter keeps nothing
  pub filter-none : (p : X → Bool) (xs : List X) → All (λ x. p x ≡ false) xs → filter p xs ≡ []
  filter-none p [] none = refl
  filter-none p (x ∷ xs) none =
      let here : p x ≡ false = All-head (λ x. p x ≡ false) x xs none in
      (λ i. cond (here i) (x ∷ filter p xs) (filter p xs)) ∙ filter-none p xs (All-tail (λ x. p x ≡ false) x xs none)

  -- if all items pass the test, the filter keeps all
  pub filter-all : (p : X → Bool) (xs : List X) → All (λ x. p x ≡ true) xs → filter p xs ≡ xs
  filter-all p [] all = refl
  filter-all p (x ∷ xs) all =
      let here : p x ≡ true = All-head (λ x. p x ≡ true) x xs all in
      (λ i. cond (here i) (x ∷ filter p xs) (filter p xs))
      ∙ ap (λ (rest : List X). x ∷ rest) (filter-all p xs (All-tail (λ x. p x ≡ true) x xs all))

  -- functions that agree on the items of a list map it to the same list
  pub map-within : {Y : Type 0} (f g : X → Y) (xs : List X) → All (λ x. f x ≡ g x) xs → map f xs ≡ map g xs
  map-within f g [] same = refl
  map-within f g (x ∷ xs) same =
      let here : f x ≡ g x = All-head (λ x. f x ≡ g x) x xs same in
      let rest = map-within f g xs (All-tail (λ x. f x ≡ g x) x xs same) in
      λ i. here i ∷ rest i

  -- functions that agree on the items of a list have the same flat map of it
  pub flat_map-within : {Y : Type 0} (f g : X → List Y) (xs : List X) → All (λ x. f x ≡ g x) xs
      → flat_map f xs ≡ flat_map g xs
  flat_map-within f g [] same = refl
  flat_map-within f g (x ∷ xs) same =
      let here : f x ≡ g x = All-head (λ x. f x ≡ g x) x xs same in
      let rest = flat_map-within f g xs (All-tail (λ x. f x ≡ g x) x xs same) in
      λ i. here i ++ rest i

  -- if `P` holds of every item of `map f xs`, `P` holds of `f x` for every `x` in `xs`
  pub All-mapped : {Y : Type 0} (P : Y → Type 0) (f : X → Y) (xs : List X) → All P (map f xs) → All (λ x. P (f x)) xs
  All-mapped P f xs all k d below =
      subst P (get_or-map f xs k d (f d) below) (all k (f d) (omega (arith, below, length-map xs f)))

  -- tests that agree on the items of a list agree on whether some item passes
  pub any-within : (p q : X → Bool) (xs : List X) → All (λ x. p x ≡ q x) xs → list_any p xs ≡ list_any q xs
  any-within p q [] same = refl
  any-within p q (x ∷ xs) same =
      let here : p x ≡ q x = All-head (λ x. p x ≡ q x) x xs same in
      let rest = any-within p q xs (All-tail (λ x. p x ≡ q x) x xs same) in
      λ i. here i || rest i

  -- some item of `map f xs` passes `p` exactly if `f x` does for some `x` in `xs`
  pub any-map : {Y : Type 0} (p : Y → Bool) (f : X → Y) (xs : List X)
      → list_any p (map f xs) ≡ list_any (λ x. p (f x)) xs
  any-map p f [] = refl
  any-map p f (x ∷ xs) = ap (λ (b : Bool). p (f x) || b) (any-map p f xs)

  -- some item kept by `q` passes `p` exactly if some item of the list passes both
  pub any-filter : (p q : X → Bool) (xs : List X) → list_any p (filter q xs) ≡ list_any (λ x. q x && p x) xs
  any-filter p q [] = refl
  any-filter p q (x ∷ xs) =
      let rest = any-filter p q xs in
      elim (q x) as (λ b. list_any p (cond b (x ∷ filter q xs) (filter q xs))
      ≡ ((b && p x) || list_any (λ x. q x && p x) xs))
      [ true ↦ (λ i. p x || rest i) | false ↦ rest ]

  -- an item of a list that passes the test is in the filtered list
  pub Contains-filter : (p : X → Bool) (xs : List X) (x : X) → p x ≡ true → Contains xs x → Contains (filter p xs) x
  Contains-filter p [] x passes there = absurd (omega (arith, there.1))
  Contains-filter p (y ∷ xs) x passes (zero, within, is) =
      let here : p y ≡ true = ap p is ∙ passes in
      subst-cond here (0, omega arith, is)
    where
      subst-cond : p y ≡ true → Contains (y ∷ filter p xs) x → Contains (filter p (y ∷ xs)) x
      subst-cond here there = rw here there
  Contains-filter p (y ∷ xs) x passes (suc k, within, is) =
      by (p y) (Contains-filter p xs x passes (k, omega arith, is))
    where
      by : (b : Bool) → Contains (filter p xs) x → Contains (cond b (y ∷ filter p xs) (filter p xs)) x
      by true there = Contains-append_right (y ∷ []) (filter p xs) x there
      by false there = there

  -- if `x` is in `xs`, `f x` is in `map f xs`
  pub Contains-map : {Y : Type 0} (f : X → Y) (xs : List X) (x : X) → Contains xs x → Contains (map f xs) (f x)
  Contains-map f [] x there = absurd (omega (arith, there.1))
  Contains-map f (y ∷ xs) x (zero, within, is) = (0, omega arith, ap f is)
  Contains-map f (y ∷ xs) x (suc k, within, is) =
      Contains-append_right (f y ∷ []) (map f xs) (f x) (Contains-map f xs x (k, omega arith, is))

-- ---- blocks
module _ {X : Type 0} where
  -- filtering a flat map is the flat map of the filtered lists
  pub filter-flat_map : {K : Type 0} (p : X → Bool) (f : K → List X) (keys : List K)
      → filter p (flat_map f keys) ≡ flat_map (λ key. filter p (f key)) keys
  filter-flat_map p f [] = refl
  filter-flat_map p f (key ∷ keys) = filter-append p (f key) (flat_map f keys)
      ∙ ap (λ rest. filter p (f key) ++ rest) (filter-flat_map p f keys)

  -- mapping a flat map is the flat map of the mapped lists
  pub map-flat_map : {K Y : Type 0} (h : X → Y) (f : K → List X) (keys : List K)
      → map h (flat_map f keys) ≡ flat_map (λ key. map h (f key)) keys
  map-flat_map h f [] = refl
  map-flat_map h f (key ∷ keys) = map-append h (f key) (flat_map f keys)
      ∙ ap (λ rest. map h (f key) ++ rest) (map-flat_map h f keys)

  -- some item of a flat map passes the test exactly if some item of some list of it does
  pub any-flat_map : {K : Type 0} (p : X → Bool) (f : K → List X) (keys : List K)
      → list_any p (flat_map f keys) ≡ list_any (λ key. list_any p (f key)) keys
  any-flat_map p f [] = refl
  any-flat_map p f (key ∷ keys) = list_any-append p (f key) (flat_map f keys)
      ∙ ap (λ (b : Bool). list_any p (f key) || b) (any-flat_map p f keys)

  -- if `f` and `g` give the same list for each number of a range, their flat maps of the range are equal
  pub blocks-same : (f g : ℕ → List X) (from n : ℕ) → ((k : ℕ) → k < from + n → f k ≡ g k)
      → flat_map f (range_with_len from n) ≡ flat_map g (range_with_len from n)
  blocks-same f g from zero same = refl
  blocks-same f g from (suc n) same =
      λ i. same from (omega arith) i ++ blocks-same f g (from + 1) n (λ k below. same k (omega arith)) i

  -- if `f` and `g` give equally long lists for each number of a range, their flat maps of the range are equally long
  pub blocks-long : {Y : Type 0} (f : ℕ → List X) (g : ℕ → List Y) (from n : ℕ)
      → ((k : ℕ) → k < from + n → length (f k) ≡ length (g k))
      → length (flat_map f (range_with_len from n)) ≡ length (flat_map g (range_with_len from n))
  blocks-long f g from zero same = refl
  blocks-long f g from (suc n) same =
      omega (
        arith,
        length-append (f from) (flat_map f (range_with_len (from + 1) n)),
        length-append (g from) (flat_map g (range_with_len (from + 1) n)),
        same from (omega arith),
        blocks-long f g (from + 1) n (λ k below. same k (omega arith)),
      )

  -- if `P` holds of every item of the list of each number of a range, `P` holds of every item of their flat map
  pub All-blocks : (P : X → Type 0) (f : ℕ → List X) (from n : ℕ) → ((k : ℕ) → from ≤ k → k < from + n → All P (f k))
      → All P (flat_map f (range_with_len from n))
  All-blocks P f from zero all = All-nil P
  All-blocks P f from (suc n) all =
      All-append P (f from) (flat_map f (range_with_len (from + 1) n)) (all from (omega arith) (omega arith))
      (All-blocks P f (from + 1) n (λ k above below. all k (omega arith) (omega arith)))

  -- if `P` holds of every item of the list of each key, `P` holds of every item of the flat map of the keys
  pub All-flat_map : {K : Type 0} (P : X → Type 0) (f : K → List X) (keys : List K)
      → ((key : K) → Contains keys key → All P (f key)) → All P (flat_map f keys)
  All-flat_map P f [] all = All-nil P
  All-flat_map P f (key ∷ keys) all =
      All-append P (f key) (flat_map f keys) (all key (0, omega arith, refl))
      (All-flat_map P f keys (λ other there. all other (Contains-append_right (key ∷ []) keys other there)))

-- ---- numbers of a range
-- if `P` holds of each number of a range, `P` holds of every item of the range
pub All-range : (P : ℕ → Type 0) (from n : ℕ) → ((k : ℕ) → from ≤ k → k < from + n → P k)
    → All P (range_with_len from n)
All-range P from zero all = All-nil P
All-range P from (suc n) all = All-cons P from (range_with_len (from + 1) n) (all from (omega arith) (omega arith))
    (All-range P (from + 1) n (λ k above below. all k (omega arith) (omega arith)))

-- a list is its items at the places from 0 to its length
pub items_by_place : {X : Type 0} (xs : List X) (d : X) → xs ≡ map (λ k. get_or xs k d) (range_with_len 0 (length xs))
items_by_place xs d = fill_by_all (λ k. get_or xs k d) xs (length xs) d refl (λ k within. refl)

-- the first `n` items of a list are its items at the first `n` places
pub items_before : {X : Type 0} (xs : List X) (d : X) (n : ℕ) → n ≤ length xs
    → take n xs ≡ map (λ k. get_or xs k d) (range_with_len 0 n)
items_before xs d n within = ap (take n) (items_by_place xs d)
    ∙ take-map-range_with_len (λ k. get_or xs k d) 0 (length xs) n within

-- the flat map of a list is the flat map of its items at all places
pub blocks_by_place : {X Y : Type 0} (f : X → List Y) (xs : List X) (d : X)
    → flat_map f xs ≡ flat_map (λ k. f (get_or xs k d)) (range_with_len 0 (length xs))
blocks_by_place f xs d = ap (flat_map f) (items_by_place xs d)
    ∙ flat_map-map f (λ k. get_or xs k d) (range_with_len 0 (length xs))

-- the flat map of the first `n` items of a list is the flat map of its items at the first `n` places
pub blocks_before : {X Y : Type 0} (f : X → List Y) (xs : List X) (d : X) (n : ℕ) → n ≤ length xs
    → flat_map f (take n xs) ≡ flat_map (λ k. f (get_or xs k d)) (range_with_len 0 n)
blocks_before f xs d n within = ap (flat_map f) (items_before xs d n within)
    ∙ flat_map-map f (λ k. get_or xs k d) (range_with_len 0 n)
