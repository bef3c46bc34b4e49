-- The distinct items of a list, and pairs of items: under maps, joined, and block by block.
use Rattle.std.proofs.Common.{ℕ, zero, suc, ◌+◌, ◌≡◌, ◌<◌, ◌++◌, ◌∷◌, [], ◌||◌, not}
use Rattle.std.proofs.Common.{List, length, get_or, map, Bool, true, false, cond, refl, sym, ap, subst, arith}
use Rattle.std.specs.Prelude.{All, AllPairs, Contains}
use Rattle.std.specs.List.{filter, flat_map, list_any, position_or_len, range_with_len}
use Rattle.std.proofs.lemmas.List.{get_or-map, length-map}
use Rattle.std.proofs.lemmas.List.Elements.{All-append}
use Rattle.std.proofs.lemmas.List.Elements.{Contains-append_right}
use Rattle.std.proofs.lemmas.List.Kept.{AllPairs-cons}
use Rattle.number_lists.specs.Distinct.{distinct}
use Rattle.number_lists.proofs.BlockLemmas.{All-blocks, Contains-filter}

-- ---- the place of an item that passes
module _ {X : Type 0} where
  -- if an item passes, the place of the first item that passes is below the length of the list
  pub position-within : (p : X → Bool) (xs : List X) → list_any p xs ≡ true → position_or_len p xs < length xs
  position-within p [] found = absurd (cc)
  position-within p (x ∷ xs) found = by (p x) refl found (position-within p xs)
    where
      by : (b : Bool) → p x ≡ b → (b || list_any p xs) ≡ true
          → (list_any p xs ≡ true → position_or_len p xs < length xs)
          → cond (not b) (1 + position_or_len p xs) 0 < suc (length xs)
      by true is found rest = omega arith
      by false is found rest = let later = rest found in omega arith

-- ---- the distinct items of a list
module _ {X : Type 0} where
  -- if `same` holds only for equal items, each item of a list is among its distinct items
  pub distinct-keeps : (same : X → X → Bool) → ((x y : X) → same x y ≡ true → x ≡ y) → (xs : List X) (x : X)
      → Contains xs x → Contains (distinct same xs) x
  distinct-keeps same exact [] x there = absurd (omega (arith, there.1))
  distinct-keeps same exact (y ∷ xs) x (zero, within, is) = (0, omega arith, is)
  distinct-keeps same exact (y ∷ xs) x (suc k, within, is) =
      by (same y x) refl (distinct-keeps same exact xs x (k, omega arith, is))
    where
      by : (b : Bool) → same y x ≡ b → Contains (distinct same xs) x → Contains (distinct same (y ∷ xs)) x
      by true alike there = (0, omega arith, exact y x alike)
      by false apart there = Contains-append_right (y ∷ []) (filter (λ other. not (same y other)) (distinct same xs)) x
          (Contains-filter (λ other. not (same y other)) (distinct same xs) x (ap not apart) there)

-- ---- pairs of the items of a list
module _ {X : Type 0} where
  -- if `R` holds between any two items of `xs`, any two of `ys`, and from each of `xs` to each of `ys`, it holds
  -- between any two of `xs ++ ys`
  pub AllPairs-append : (R : X → X → Type 0) (xs ys : List X) → AllPairs R xs → AllPairs R ys
      → ((x : X) → Contains xs x → All (R x) ys) → AllPairs R (xs ++ ys)
  AllPairs-append R [] ys left right across = right
  AllPairs-append R (x ∷ xs) ys left right across =
      AllPairs-cons R x (xs ++ ys)
      (All-append (R x) xs ys (λ k d below. left 0 (suc k) d (omega arith) (omega arith))
      (across x (0, omega arith, refl)))
      (AllPairs-append R xs ys (λ i j d less below. left (suc i) (suc j) d (omega arith) (omega arith)) right
      (λ y there. across y (Contains-append_right (x ∷ []) xs y there)))

  -- if `R x y` implies `S (f x) (f y)`, and `R` holds between any two items of `xs`, then `S` holds between any two of
  -- `map f xs`
  pub AllPairs-map : {Y : Type 0} (R : X → X → Type 0) (S : Y → Y → Type 0) (f : X → Y)
      → ((x y : X) → R x y → S (f x) (f y)) → (xs : List X) → AllPairs R xs → AllPairs S (map f xs)
  AllPairs-map R S f keeps [] pairs i j e less below = absurd (omega arith)
  AllPairs-map R S f keeps (x ∷ xs) pairs i j e less below =
      let long = length-map (x ∷ xs) f in
      let near : i < length (x ∷ xs) = omega (arith, long) in
      let far : j < length (x ∷ xs) = omega (arith, long) in
      subst (λ y. S y (get_or (map f (x ∷ xs)) j e)) (sym (get_or-map f (x ∷ xs) i x e near))
      (subst (λ y. S (f (get_or (x ∷ xs) i x)) y) (sym (get_or-map f (x ∷ xs) j x e far))
      (keeps (get_or (x ∷ xs) i x) (get_or (x ∷ xs) j x) (pairs i j x less far)))

  -- if `R` holds between any two items of each block, and from each item of a block to each of a later block, it holds
  -- between any two items of all blocks joined
  pub AllPairs-blocks : (R : X → X → Type 0) (block : ℕ → List X) (from n : ℕ)
      → ((k : ℕ) → k < from + n → AllPairs R (block k))
      → ((k l : ℕ) → k < l → l < from + n → (x : X) → Contains (block k) x → All (R x) (block l))
      → AllPairs R (flat_map block (range_with_len from n))
  AllPairs-blocks R block from zero inside across = λ i j d less below. absurd (omega arith)
  AllPairs-blocks R block from (suc n) inside across =
      AllPairs-append R (block from) (flat_map block (range_with_len (from + 1) n)) (inside from (omega arith))
      (AllPairs-blocks R block (from + 1) n (λ k below. inside k (omega arith))
      (λ k l less below. across k l less (omega arith)))
      (λ x there. All-blocks (R x) block (from + 1) n
      (λ l above below. across from l (omega arith) (omega arith) x there))
