-- Lemmas on any lists: their items and places, tests of items, and joined lists.
use Rattle.std.proofs.Common.{ℕ, zero, suc, ◌+◌, ◌≡◌, ◌≢◌, ◌≤◌, ◌<◌, ◌++◌, ◌∷◌, [], ◌∙◌, ◌⊎◌, inl, inr, Bool, true}
use Rattle.std.proofs.Common.{false}
use Rattle.std.proofs.Common.{◌||◌, List, length, get_or, map, take, drop, refl, sym, ap, subst, arith, append-nil}
use Rattle.std.proofs.Common.{append_assoc, take-append-drop}
use Rattle.std.specs.Prelude.{AllPairs, Contains}
use Rattle.std.specs.List.{concat, list_any, range_with_len}
use Rattle.std.specs.Str.{bytes_eq}
use Rattle.std.proofs.lemmas.Bool.{cases_order, false≢true, or_cases, or_left, or_right}
use Rattle.std.proofs.lemmas.Bool.Decides.{nat_tests}
use Rattle.std.proofs.lemmas.Grind.{common_steps}
use Rattle.std.proofs.lemmas.List.{drop_more, take_more}
use Rattle.std.proofs.lemmas.Slice.Eq.{bytes_eq-Decides}

-- ---- tests
-- two tests of which each passes if the other does are equal
pub both_ways : (a b : Bool) → (a ≡ true → b ≡ true) → (b ≡ true → a ≡ true) → a ≡ b
both_ways true b forth back = sym (forth refl)
both_ways false true forth back = back refl
both_ways false false forth back = refl

-- ---- the members of a list
-- the first item of a list is in it
pub first_contained : {X : Type 0} (x : X) (xs : List X) → Contains (x ∷ xs) x
first_contained x xs = (0, omega arith, refl)

-- an item of a list is in the list with one item more in front
pub rest_contained : {X : Type 0} (y : X) (xs : List X) (x : X) → Contains xs x → Contains (y ∷ xs) x
rest_contained y xs x (k, below, is) = (suc k, omega arith, is)

-- an item of a list is its first item or in the list after it
pub contained_cases : {X : Type 0} (y : X) (xs : List X) (x : X) → Contains (y ∷ xs) x → (y ≡ x) ⊎ Contains xs x
contained_cases y xs x x3 = grind (arith, inl, inr)

-- if `list_any` holds, an item of the list passes the test
pub passing_item : {X : Type 0} (test : X → Bool) (xs : List X) → list_any test xs ≡ true
    → (x : X) × Contains xs x × (test x ≡ true)
passing_item test [] holds = absurd (false≢true holds)
passing_item test (first ∷ rest) holds = elim (or_cases (test first) (list_any test rest) holds) [
  | inl here ↦ (first, first_contained first rest, here)
  | inr later ↦ let found =
      passing_item test rest later in (found.0, rest_contained first rest found.0 found.1, found.2)
]

-- if an item of a list passes the test, `list_any` holds
pub some_item_passes : {X : Type 0} (test : X → Bool) (xs : List X) (x : X) → Contains xs x → test x ≡ true
    → list_any test xs ≡ true
some_item_passes test [] x (k, below, is) passes = absurd (omega arith)
some_item_passes test (first ∷ rest) x contained passes = elim (contained_cases first rest x contained) [
  | inl is ↦ or_left (test first) (list_any test rest) (subst (λ item. test item ≡ true) (sym is) passes)
  | inr later ↦ or_right (test first) (list_any test rest) (some_item_passes test rest x later passes)
]

-- tests that agree on the items of a list agree on whether some item passes
pub any_agree : {X : Type 0} (xs : List X) (p q : X → Bool) (d : X)
    → ((k : ℕ) → k < length xs → p (get_or xs k d) ≡ q (get_or xs k d)) → list_any p xs ≡ list_any q xs
any_agree [] p q d agree = refl
any_agree (x ∷ xs) p q d agree =
    λ i. agree 0 (omega arith) i || any_agree xs p q d (λ k within. agree (suc k) (omega (arith, within))) i

-- ---- places
-- a list is its items before place `i`, the item there, and those after it
pub split_at : {X : Type 0} (xs : List X) (i : ℕ) (d : X) → i < length xs
    → xs ≡ take i xs ++ get_or xs i d ∷ drop (i + 1) xs
split_at xs i d within = sym (take-append-drop i xs) ∙ ap (λ zs. take i xs ++ zs) (drop_more xs i d within)

-- `k + 1` is the successor of `k`
pub next_place : (k : ℕ) → k + 1 ≡ suc k
next_place k = omega arith

-- functions that agree on a range of numbers map it to the same list
pub same_maps : {X : Type 0} (f g : ℕ → X) (a n : ℕ) → ((k : ℕ) → a ≤ k → k < a + n → f k ≡ g k)
    → map f (range_with_len a n) ≡ map g (range_with_len a n)
same_maps f g a zero same = refl
same_maps f g a (suc n) same =
    λ i. same a (omega arith) (omega arith) i
    ∷ same_maps f g (a + 1) n (λ k from to. same k (omega arith) (omega arith)) i

-- ---- lists without repeats
-- a list has no repeats: items at different places are different
abbrev pub IsOnce : {X : Type 0} → List X → Type 0
IsOnce xs = AllPairs (λ x y. x ≢ y) xs

module _ {X : Type 0} where
  -- if the items at `i` and `j` of a list without repeats are equal, `i` is `j`
  pub same_place : (xs : List X) → IsOnce xs → (i j : ℕ) (d : X) → i < length xs → j < length xs
      → get_or xs i d ≡ get_or xs j d → i ≡ j
  same_place xs once i j d near far same = elim (cases_order i j) [
    | inl is ↦ is
    | inr (inl less) ↦ absurd (once i j d less far same)
    | inr (inr more) ↦ absurd (once j i d more near (sym same))
  ]

-- ---- lists of lists
-- `concat` of two joined lists of lists is `concat` of the first, followed by `concat` of the second
pub concat-append : (xs ys : List (List ℕ)) → concat (xs ++ ys) ≡ concat xs ++ concat ys
concat-append [] ys = refl
concat-append (x ∷ xs) ys = ap (λ (rest : List ℕ). x ++ rest) (concat-append xs ys)
    ∙ sym (append_assoc x (concat xs) (concat ys))

-- `concat` of the first `key + 1` lists is `concat` of the first `key` lists, followed by the list at `key`
pub concat-take_more : (lists : List (List ℕ)) (key : ℕ) → key < length lists
    → concat (take (key + 1) lists) ≡ concat (take key lists) ++ get_or lists key []
concat-take_more lists key within = grind (arith, common_steps, nat_tests, concat, take_more, concat-append, append-nil)

-- if `bytes_eq` finds two lists of numbers different, they are not equal
pub differ : (one other : List ℕ) → bytes_eq one other ≡ false → one ≢ other
differ one other apart same = false≢true (sym apart ∙ (bytes_eq-Decides one other).1 same)
