-- The places of the items of a list that pass a test.
use Rattle.std.proofs.Common.{ℕ, suc, ◌+◌, ◌==◌, ◌≡◌, ◌<◌, ◌++◌, ◌∷◌, [], ◌∙◌, Bool, true, false, cond}
use Rattle.std.proofs.Common.{List, length, get_or, map, refl, sym, ap, subst, arith, add-zero}
use Rattle.std.proofs.Common.{zero-add}
use Rattle.std.specs.Prelude.{All}
use Rattle.std.specs.List.{count_by, filter}
use Rattle.std.proofs.lemmas.List.{get_or_default}
use Rattle.std.proofs.lemmas.List.Elements.{All-tail}
use Rattle.std.proofs.lemmas.List.FromFn.{get_or-map-range_with_len, length-map-range_with_len}
use Rattle.std.proofs.lemmas.List.Sums.{length-filter}
use Rattle.number_lists.specs.Rising.{IsRisingBelow, numbers_where}
use Rattle.number_lists.proofs.WhereLemmas.{numbers_from}
use Rattle.number_lists.proofs.RisingLemmas.{get_or-below, numbers_where-rising}
use Rattle.number_lists.specs.KeyedLists.{list_of}
use Rattle.postings.specs.Places.{places_by, places_from, places_where}

-- ---- the places are numbers below the length
module _ {X : Type 0} where
  -- if `read` of `place + k` is item `k`, the places of passing items, counted from `place`, are the numbers there for
  -- which `read` passes
  pub places_from-numbers : (read : ℕ → X) (test : X → Bool) (place : ℕ) (xs : List X)
      → ((k : ℕ) (d : X) → k < length xs → read (place + k) ≡ get_or xs k d)
      → places_from place test xs ≡ numbers_from place (length xs) (λ at. test (read at))
  places_from-numbers read test place [] reads = refl
  places_from-numbers read test place (x ∷ xs) reads =
      let here : test x ≡ test (read place) = ap test (sym (reads 0 x (omega arith)) ∙ ap read (add-zero place)) in
      let rest : places_from (place + 1) test xs ≡ numbers_from (place + 1) (length xs) (λ at. test (read at)) =
      places_from-numbers read test (place + 1) xs (λ k d within. ap read (omega arith)
      ∙ reads (suc k) d (omega arith)) in
      λ i. cond (here i) (place ∷ rest i) (rest i)

  -- the places of passing items are the numbers below the length at which the item passes
  pub places_where-numbers : (test : X → Bool) (xs : List X) (d : X)
      → places_where test xs ≡ numbers_where (length xs) (λ place. test (get_or xs place d))
  places_where-numbers test xs d =
      places_from-numbers (λ place. get_or xs place d) test 0 xs
      (λ k e within. ap (λ at. get_or xs at d) (zero-add k) ∙ get_or_default xs k d e within)

  -- the places of passing items rise strictly, and are below the length
  pub places_where-rising : (test : X → Bool) (xs : List X) → IsRisingBelow (length xs) (places_where test xs)
  places_where-rising test [] = refl
  places_where-rising test (x ∷ xs) =
      subst (IsRisingBelow (length (x ∷ xs))) (sym (places_where-numbers test (x ∷ xs) x))
      (numbers_where-rising (length (x ∷ xs)) (λ place. test (get_or (x ∷ xs) place x)))

  -- each place of a passing item is below the length
  pub places_where-within : (test : X → Bool) (xs : List X) → All (λ place. place < length xs) (places_where test xs)
  places_where-within test xs k d within =
      subst (λ place. place < length xs) (get_or_default (places_where test xs) k 0 d within)
      (get_or-below 0 (length xs) (places_where test xs) k (places_where-rising test xs) within)

-- ---- other tests and other items
module _ {X : Type 0} where
  -- two tests that agree on all items of `xs` find the same places, counted from `place`
  pub places_from-agree : (one other : X → Bool) (place : ℕ) (xs : List X) → All (λ x. one x ≡ other x) xs
      → places_from place one xs ≡ places_from place other xs
  places_from-agree one other place [] agree = refl
  places_from-agree one other place (x ∷ xs) agree =
      let rest = places_from-agree one other (place + 1) xs (All-tail (λ x. one x ≡ other x) x xs agree) in
      λ i. cond (agree 0 x (omega arith) i) (place ∷ rest i) (rest i)

  -- two tests that agree on all items of `xs` find the same places
  pub places_where-agree : (one other : X → Bool) (xs : List X) → All (λ x. one x ≡ other x) xs
      → places_where one xs ≡ places_where other xs
  places_where-agree one other xs agree = places_from-agree one other 0 xs agree

  -- the places at which `map f xs` passes are those at which `f` of the items of `xs` passes, counted from `place`
  pub places_from-map : {Y : Type 0} (f : X → Y) (test : Y → Bool) (place : ℕ) (xs : List X)
      → places_from place test (map f xs) ≡ places_from place (λ x. test (f x)) xs
  places_from-map f test place [] = refl
  places_from-map f test place (x ∷ xs) =
      ap (λ rest. cond (test (f x)) (place ∷ rest) rest) (places_from-map f test (place + 1) xs)

  -- the places at which `map f xs` passes are those at which `f` of the items of `xs` passes
  pub places_where-map : {Y : Type 0} (f : X → Y) (test : Y → Bool) (xs : List X)
      → places_where test (map f xs) ≡ places_where (λ x. test (f x)) xs
  places_where-map f test xs = places_from-map f test 0 xs

  -- the places of passing items in `xs ++ ys` are those in `xs`, then those in `ys` counted on from the length of `xs`
  pub places_from-append : (test : X → Bool) (place : ℕ) (xs ys : List X)
      → places_from place test (xs ++ ys) ≡ places_from place test xs ++ places_from (place + length xs) test ys
  places_from-append test place [] ys = ap (λ at. places_from at test ys) (sym (add-zero place))
  places_from-append test place (x ∷ xs) ys =
      let next : place + 1 + length xs ≡ place + length (x ∷ xs) = omega arith in
      let rest = places_from-append test (place + 1) xs ys
      ∙ ap (λ at. places_from (place + 1) test xs ++ places_from at test ys) next in
      elim (test x) as (λ b. cond b (place ∷ places_from (place + 1) test (xs ++ ys))
      (places_from (place + 1) test (xs ++ ys))
      ≡ cond b (place ∷ places_from (place + 1) test xs) (places_from (place + 1) test xs)
      ++ places_from (place + length (x ∷ xs)) test ys)
      [ true ↦ ap (λ places. place ∷ places) rest | false ↦ rest ]

-- ---- the items at the places
module _ {X : Type 0} where
  -- reading at the places of the items that pass gives the items that pass
  rows_from : (read : ℕ → X) (test : X → Bool) (place : ℕ) (xs : List X)
      → ((k : ℕ) (d : X) → k < length xs → read (place + k) ≡ get_or xs k d)
      → map read (places_from place test xs) ≡ filter test xs
  rows_from read test place [] reads = refl
  rows_from read test place (x ∷ xs) reads =
      let first : read place ≡ x = ap read (sym (add-zero place)) ∙ reads 0 x (omega arith) in
      let rest = rows_from read test (place + 1) xs (λ k d within. ap read (omega arith)
      ∙ reads (suc k) d (omega arith)) in
      elim (test x) as (λ b. map read (cond b (place ∷ places_from (place + 1) test xs)
      (places_from (place + 1) test xs))
      ≡ cond b (x ∷ filter test xs) (filter test xs))
      [ true ↦ (λ i. first i ∷ rest i) | false ↦ rest ]

  -- reading `xs` at the places of passing items gives the passing items
  pub rows_at_places : (test : X → Bool) (xs : List X) (d : X)
      → map (λ place. get_or xs place d) (places_where test xs) ≡ filter test xs
  rows_at_places test xs d =
      rows_from (λ place. get_or xs place d) test 0 xs
      (λ k e within. ap (λ at. get_or xs at d) (zero-add k) ∙ get_or_default xs k d e within)

  -- there are as many places as passing items
  pub length-places_from : (test : X → Bool) (place : ℕ) (xs : List X)
      → length (places_from place test xs) ≡ length (filter test xs)
  length-places_from test place [] = refl
  length-places_from test place (x ∷ xs) =
      elim (test x) as (λ b. length (cond b (place ∷ places_from (place + 1) test xs) (places_from (place + 1) test xs))
      ≡ length (cond b (x ∷ filter test xs) (filter test xs)))
      [ true ↦ ap suc (length-places_from test (place + 1) xs) | false ↦ length-places_from test (place + 1) xs ]

  -- there are as many places of passing items as `count_by` counts
  pub length-places_where : (test : X → Bool) (xs : List X) → length (places_where test xs) ≡ count_by test xs
  length-places_where test xs = length-places_from test 0 xs ∙ length-filter test xs

-- ---- the places by keys

-- the lists of places by key have one list for each key below `count`
pub length-places_by : (count : ℕ) (keys : List ℕ) → length (places_by count keys) ≡ count
length-places_by count keys = length-map-range_with_len (λ key. places_where (λ other. other == key) keys) 0 count

-- the list of `key` has the places of `keys` that have this key
pub list_of-places_by : (count : ℕ) (keys : List ℕ) (key : ℕ) → key < count
    → list_of (places_by count keys) key ≡ places_where (λ other. other == key) keys
list_of-places_by count keys key below =
    get_or-map-range_with_len (λ key. places_where (λ other. other == key) keys) 0 count key key []
    below (zero-add key)
