-- Of each item of a list whether it is the first of those that are the same: under maps, and block by block.
use Rattle.std.proofs.Common.{ℕ, zero, suc, ◌+◌, ◌≡◌, ◌<◌, ◌++◌, ◌∷◌, [], ◌∙◌, ◌||◌, not, List, map}
use Rattle.std.proofs.Common.{Bool, false, refl, sym, ap, arith, append-nil, append_assoc}
use Rattle.std.specs.Prelude.{All}
use Rattle.std.specs.List.{flat_map, list_any, range_with_len}
use Rattle.std.proofs.lemmas.List.{map-append}
use Rattle.std.proofs.lemmas.List.Elements.{All-append, All-head, All-nil, All-push, All-tail, All-weaker}
use Rattle.std.proofs.lemmas.List.Folds.{list_any-append, list_any_none}
use Rattle.number_lists.proofs.BlockLemmas.{any-map, any-within}

-- for each item of a list that comes after `before`, whether no item before it is the same
abbrev pub flags_after : {X : Type 0} → (X → X → Bool) → List X → List X → List Bool
flags_after same before [] = []
flags_after same before (x ∷ xs) = not (list_any (same x) before) ∷ flags_after same (before ++ x ∷ []) xs

module _ {X : Type 0} where
  -- the flags of `xs ++ ys` after `before` are the flags of `xs` after `before`, then those of `ys` after `before ++
  -- xs`
  pub flags-append : (same : X → X → Bool) (before xs ys : List X)
      → flags_after same before (xs ++ ys) ≡ flags_after same before xs ++ flags_after same (before ++ xs) ys
  flags-append same before [] ys = ap (λ (all : List X). flags_after same all ys) (sym (append-nil before))
  flags-append same before (x ∷ xs) ys =
      ap (λ rest. not (list_any (same x) before) ∷ rest)
      (flags-append same (before ++ x ∷ []) xs ys
      ∙ ap (λ (all : List X). flags_after same (before ++ x ∷ []) xs ++ flags_after same all ys)
      (append_assoc before (x ∷ []) xs))

  -- if `same (f x) (f y)` equals `other x y` for all items, the flags of `map f xs` by `same` are those of `xs` by
  -- `other`
  pub flags-map : {Y : Type 0} (P : X → Type 0) (f : X → Y) (same : Y → Y → Bool) (other : X → X → Bool)
      → ((x y : X) → P x → P y → same (f x) (f y) ≡ other x y)
      → (before xs : List X) → All P before → All P xs
      → flags_after same (map f before) (map f xs) ≡ flags_after other before xs
  flags-map P f same other agree before [] known all = refl
  flags-map P f same other agree before (x ∷ xs) known all =
      let own : P x = All-head P x xs all in
      let here : list_any (same (f x)) (map f before) ≡ list_any (other x) before =
      any-map (same (f x)) f before ∙ any-within (λ y. same (f x) (f y)) (other x) before
      (All-weaker P (λ y. same (f x) (f y) ≡ other x y) (λ y is. agree x y own is) before known) in
      let rest : flags_after same (map f before ++ f x ∷ []) (map f xs) ≡ flags_after other (before ++ x ∷ []) xs =
      ap (λ all. flags_after same all (map f xs)) (sym (map-append f before (x ∷ [])))
      ∙ flags-map P f same other agree (before ++ x ∷ []) xs (All-push P before x known own) (All-tail P x xs all) in
      λ i. not (here i) ∷ rest i

  -- earlier items that equal no item of `xs` do not change the flags of `xs`
  pub flags-apart : (P Q : X → Type 0) (same other : X → X → Bool) → ((x y : X) → Q x → P y → same x y ≡ false)
      → ((x y : X) → Q x → Q y → same x y ≡ other x y)
      → (before own xs : List X) → All P before → All Q own → All Q xs
      → flags_after same (before ++ own) xs ≡ flags_after other own xs
  flags-apart P Q same other apart agree before own [] known mine all = refl
  flags-apart P Q same other apart agree before own (x ∷ xs) known mine all =
      let is : Q x = All-head Q x xs all in
      let none : list_any (same x) before ≡ false =
      list_any_none (same x) before
      (All-weaker P (λ y. same x y ≡ false) (λ y known. apart x y is known) before known) in
      let some : list_any (same x) own ≡ list_any (other x) own =
      any-within (same x) (other x) own
      (All-weaker Q (λ y. same x y ≡ other x y) (λ y known. agree x y is known) own mine) in
      let here : list_any (same x) (before ++ own) ≡ list_any (other x) own = list_any-append (same x) before own
      ∙ (λ i. none i || some i) in
      let rest : flags_after same ((before ++ own) ++ x ∷ []) xs ≡ flags_after other (own ++ x ∷ []) xs =
      ap (λ (all : List X). flags_after same all xs) (append_assoc before own (x ∷ []))
      ∙ flags-apart P Q same other apart agree before (own ++ x ∷ []) xs known (All-push Q own x mine is)
      (All-tail Q x xs all) in
      λ i. not (here i) ∷ rest i

  -- if items of different blocks are never equal, the flags of all blocks joined are the flags of each block
  pub flags-blocks : (key : X → ℕ) (same other : X → X → Bool) → ((x y : X) → key y < key x → same x y ≡ false)
      → ((x y : X) → key x ≡ key y → same x y ≡ other x y)
      → (block : ℕ → List X) → ((k : ℕ) → All (λ x. key x ≡ k) (block k))
      → (from n : ℕ) (before : List X) → All (λ x. key x < from) before
      → flags_after same before (flat_map block (range_with_len from n))
      ≡ flat_map (λ k. flags_after other [] (block k)) (range_with_len from n)
  flags-blocks key same other apart agree block own from zero before known = refl
  flags-blocks key same other apart agree block own from (suc n) before known =
      let rest = flat_map block (range_with_len (from + 1) n) in
      let here : flags_after same before (block from) ≡ flags_after other [] (block from) =
      ap (λ (all : List X). flags_after same all (block from)) (sym (append-nil before))
      ∙ flags-apart (λ x. key x < from) (λ x. key x ≡ from) same other (λ x y is less. apart x y (omega arith))
      (λ x y is also. agree x y (is ∙ sym also)) before [] (block from) known (All-nil (λ x. key x ≡ from))
      (own from) in
      let later : All (λ x. key x < from + 1) (before ++ block from) =
      All-append (λ x. key x < from + 1) before (block from)
      (All-weaker (λ x. key x < from) (λ x. key x < from + 1) (λ x less. omega arith) before known)
      (All-weaker (λ x. key x ≡ from) (λ x. key x < from + 1) (λ x is. omega arith) (block from) (own from)) in
      flags-append same before (block from) rest
      ∙ (λ i. here i ++ flags-blocks key same other apart agree block own (from + 1) n (before ++ block from) later i)
