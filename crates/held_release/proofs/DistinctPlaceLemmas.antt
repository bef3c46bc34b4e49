-- The distinct items of lists that grow at their end.
use Rattle.std.proofs.Common.{ℕ, ◌+◌, ◌≡◌, ◌≤◌, ◌<◌, ◌&&◌, ◌||◌, ◌++◌, ◌∷◌, [], ◌∙◌, Bool}
use Rattle.std.proofs.Common.{true, false, cond, not, List, length, get_or, map, take, refl, sym, ap, arith, append-nil}
use Rattle.std.specs.Prelude.{All}
use Rattle.std.specs.Cmp.{IsEquivalence}
use Rattle.std.specs.List.{filter, list_any, position_or_len}
use Rattle.std.proofs.lemmas.List.{map_more}
use Rattle.std.proofs.lemmas.List.Elements.{All-cons, All-filter, All-head, All-tail, All-weaker, filter-append}
use Rattle.std.proofs.lemmas.List.Elements.{filter_agree}
use Rattle.std.proofs.lemmas.List.Sums.{count_by-le-length, length-filter}
use Rattle.number_lists.specs.Distinct.{distinct}
use Rattle.number_lists.proofs.DistinctLemmas.{any_distinct}
use Rattle.number_lists.proofs.BlockLemmas.{filter-twice}

-- ---- lists, tests and places
module _ {X : Type 0} where
  -- if `one (f y)` equals `other y` for each `y` of `ys`, filtering `map f ys` by `one` is `map f` of filtering `ys` by
  -- `other`
  pub filter-map_agree : {Y : Type 0} (f : Y → X) (one : X → Bool) (other : Y → Bool) (ys : List Y)
      → All (λ y. one (f y) ≡ other y) ys → filter one (map f ys) ≡ map f (filter other ys)
  filter-map_agree f one other [] agree = refl
  filter-map_agree f one other (y ∷ ys) agree =
      let rest = filter-map_agree f one other ys (All-tail (λ y. one (f y) ≡ other y) y ys agree) in
      (λ i. cond (All-head (λ y. one (f y) ≡ other y) y ys agree i) (f y ∷ rest i) (rest i))
      ∙ (elim (other y) as (λ b. cond b (f y ∷ map f (filter other ys)) (map f (filter other ys))
      ≡ map f (cond b (y ∷ filter other ys) (filter other ys))) [ true ↦ refl | false ↦ refl ])

  -- if an item of `xs` passes, the first that passes has the same place in `xs ++ ys` as in `xs`
  pub position_or_len-append_found : (test : X → Bool) (xs ys : List X) → list_any test xs ≡ true
      → position_or_len test (xs ++ ys) ≡ position_or_len test xs
  position_or_len-append_found test [] ys found = absurd (cc)
  position_or_len-append_found test (x ∷ xs) ys found =
      (elim (test x) as (λ b. (b || list_any test xs) ≡ true
      → cond (not b) (1 + position_or_len test (xs ++ ys)) 0 ≡ cond (not b) (1 + position_or_len test xs) 0)
      [ true ↦ (λ _. refl) | false ↦ (λ rest. ap (λ n. 1 + n) (position_or_len-append_found test xs ys rest)) ]) found

  -- if no item of `xs` passes and `y` does, the first that passes in `xs ++ y ∷ ys` has the place at the end of `xs`
  pub position_or_len-append_none : (test : X → Bool) (xs : List X) (y : X) (ys : List X) → list_any test xs ≡ false
      → test y ≡ true → position_or_len test (xs ++ y ∷ ys) ≡ position_or_len test xs
  position_or_len-append_none test [] y ys none here = ap (λ b. cond (not b) (1 + position_or_len test ys) 0) here
  position_or_len-append_none test (x ∷ xs) y ys none here =
      (elim (test x) as (λ b. (b || list_any test xs) ≡ false
      → cond (not b) (1 + position_or_len test (xs ++ y ∷ ys)) 0 ≡ cond (not b) (1 + position_or_len test xs) 0)
      [ true ↦ (λ _. refl) | false ↦ (λ rest. ap (λ n. 1 + n) (position_or_len-append_none test xs y ys rest here)) ])
      none

-- a property of all of `xs` holds for the distinct items of `xs`
pub All-distinct : {X : Type 0} (same : X → X → Bool) (P : X → Type 0) (xs : List X) → All P xs
    → All P (distinct same xs)
All-distinct same P [] all = all
All-distinct same P (x ∷ xs) all =
    All-cons P x (filter (λ y. not (same x y)) (distinct same xs)) (All-head P x xs all)
    (All-filter (λ y. not (same x y)) P (distinct same xs) (All-distinct same P xs (All-tail P x xs all)))

-- `x` put at the end of a list, unless it is the same as an item of the list
abbrev pub insert_key : {X : Type 0} → (X → X → Bool) → List X → X → List X
insert_key same items item = cond (list_any (same item) items) items (items ++ item ∷ [])

-- ---- distinct items
module _ {X : Type 0} (same : X → X → Bool) where
  -- the distinct items of `xs ++ ys` are those of `xs`, then those of `ys` without the ones that equal an item of `xs`
  -- by `same`
  pub distinct-append : (xs ys : List X) → distinct same (xs ++ ys)
      ≡ distinct same xs ++ filter (λ y. not (list_any (λ x. same x y) xs)) (distinct same ys)
  distinct-append [] ys = sym (all (distinct same ys))
    where
      all : (zs : List X) → filter (λ _. true) zs ≡ zs
      all [] = refl
      all (z ∷ zs) = ap (λ rest. z ∷ rest) (all zs)
  distinct-append (x ∷ xs) ys =
      let other : X → Bool = λ y. not (same x y) in
      let following : X → Bool = λ y. not (list_any (λ x. same x y) xs) in
      let new : X → Bool = λ y. not (same x y || list_any (λ x. same x y) xs) in
      let left : filter other (filter following (distinct same ys)) ≡ filter new (distinct same ys) =
      filter-twice other following (distinct same ys)
      ∙ filter_agree (λ y. following y && other y) new (λ y. neither (same x y) (list_any (λ x. same x y) xs))
      (distinct same ys) in
      let rest : filter other (distinct same (xs ++ ys)) ≡ filter other (distinct same xs)
      ++ filter new (distinct same ys) =
      ap (filter other) (distinct-append xs ys)
      ∙ filter-append other (distinct same xs) (filter following (distinct same ys))
      ∙ ap (λ zs. filter other (distinct same xs) ++ zs) left in
      ap (λ zs. x ∷ zs) rest
    where
      neither : (a b : Bool) → (not b && not a) ≡ not (a || b)
      neither true true = refl
      neither true false = refl
      neither false true = refl
      neither false false = refl

  -- there are no more distinct items than items
  pub length-distinct : (xs : List X) → length (distinct same xs) ≤ length xs
  length-distinct [] = omega arith
  length-distinct (x ∷ xs) =
      omega (
        arith,
        length-filter (λ y. not (same x y)) (distinct same xs),
        count_by-le-length (λ y. not (same x y)) (distinct same xs),
        length-distinct xs,
      )

  -- if `same (f a) (f b)` equals `alike a b` for all items, the distinct items of `map f ys` by `same` are `f` of those
  -- of `ys` by `alike`
  pub distinct-map : {Y : Type 0} (f : Y → X) (alike : Y → Y → Bool) (P : Y → Type 0)
      → ((a b : Y) → P a → P b → same (f a) (f b) ≡ alike a b)
      → (ys : List Y) → All P ys → distinct same (map f ys) ≡ map f (distinct alike ys)
  distinct-map f alike P told [] all = refl
  distinct-map f alike P told (y ∷ ys) all =
      let rest = All-tail P y ys all in
      let agree = All-weaker P (λ z. not (same (f y) (f z)) ≡ not (alike y z))
      (λ z has. ap not (told y z (All-head P y ys all) has))
      (distinct alike ys) (All-distinct alike P ys rest) in
      let following : filter (λ x. not (same (f y) x)) (distinct same (map f ys))
      ≡ map f (filter (λ z. not (alike y z)) (distinct alike ys)) =
      ap (filter (λ x. not (same (f y) x))) (distinct-map f alike P told ys rest)
      ∙ filter-map_agree f (λ x. not (same (f y) x)) (λ z. not (alike y z)) (distinct alike ys) agree in
      ap (λ zs. f y ∷ zs) following

  module _ (is : IsEquivalence same) where
    -- whether an item of `xs` equals `q` by `same` does not depend on the order of the two arguments
    pub any-turned : (q : X) (xs : List X) → list_any (λ x. same x q) xs ≡ list_any (same q) xs
    any-turned q [] = refl
    any-turned q (x ∷ xs) = λ i. is.symm x q i || any-turned q xs i

    -- the distinct items of `xs ++ x ∷ []` are those of `xs`, with `x` added at the end unless it is among them by
    -- `same`
    pub distinct-more : (xs : List X) (x : X) → distinct same (xs ++ x ∷ []) ≡ insert_key same (distinct same xs) x
    distinct-more xs x =
        distinct-append xs (x ∷ [])
        ∙ (λ i. distinct same xs ++ cond (not ((any-turned x xs ∙ sym (any_distinct same is x xs)) i)) (x ∷ []) [])
        ∙ (elim (list_any (same x) (distinct same xs)) as (λ b. distinct same xs ++ cond (not b) (x ∷ []) []
        ≡ cond b (distinct same xs) (distinct same xs ++ x ∷ []))
        [ true ↦ append-nil (distinct same xs) | false ↦ refl ])

    -- the distinct items of `f` of the first `i + 1` items of `ys` are those for the first `i`, with `f` of item `i`
    -- added at the end unless it is among them
    pub distinct-map_more : {Y : Type 0} (f : Y → X) (ys : List Y) (i : ℕ) (d : Y) → i < length ys
        → distinct same (map f (take (i + 1) ys)) ≡ insert_key same (distinct same (map f (take i ys)))
        (f (get_or ys i d))
    distinct-map_more f ys i d within = ap (distinct same) (map_more f ys i d within)
        ∙ distinct-more (map f (take i ys)) (f (get_or ys i d))

    -- the place of `x` among the distinct items of `xs ++ x ∷ ys` does not depend on `ys`: it is its place among those
    -- of `xs`, or their count
    pub position-distinct : (xs : List X) (x : X) (ys : List X)
        → position_or_len (same x) (distinct same (xs ++ x ∷ ys)) ≡ position_or_len (same x) (distinct same xs)
    position-distinct xs x ys =
        ap (position_or_len (same x)) (distinct-append xs (x ∷ ys)) ∙ by (list_any (same x) (distinct same xs)) refl
      where
        new : X → Bool
        new y = not (list_any (λ x. same x y) xs)

        by : (b : Bool) → list_any (same x) (distinct same xs) ≡ b
            → position_or_len (same x) (distinct same xs ++ filter new (distinct same (x ∷ ys)))
            ≡ position_or_len (same x) (distinct same xs)
        by true found = position_or_len-append_found (same x) (distinct same xs) (filter new (distinct same (x ∷ ys)))
            found
        by false none =
            let first : new x ≡ true = ap not (any-turned x xs ∙ sym (any_distinct same is x xs) ∙ none) in
            let rest : List X = filter new (filter (λ y. not (same x y)) (distinct same ys)) in
            (λ i. position_or_len (same x) (distinct same xs ++ cond (first i) (x ∷ rest) rest))
            ∙ position_or_len-append_none (same x) (distinct same xs) x rest none (is.refl x)
