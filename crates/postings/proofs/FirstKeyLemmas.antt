-- Keys of which the first ones stand in a list of their own.
use Rattle.std.proofs.Common.{ℕ, suc, ◌+◌, ◌≡◌, ◌≤◌, ◌<◌, ◌||◌, ◌++◌, ◌∷◌, [], ◌∙◌, Bool, true, false, cond, not, List}
use Rattle.std.proofs.Common.{length, nat_eq}
use Rattle.std.proofs.Common.{refl, sym, ap, arith, append-nil, append_assoc}
use Rattle.std.specs.List.{list_any, position_or_len}
use Rattle.std.proofs.lemmas.List.Folds.{list_any-append}
use Rattle.key_interner.specs.KeyInterner.{keys_after}
use Rattle.held_release.proofs.DistinctPlaceLemmas.{position_or_len-append_found}

-- ---- the first item that passes a test
module _ {X : Type 0} (test : X → Bool) where
  -- an item passes if the place of the first that does is in the list
  passes_there : (xs : List X) → position_or_len test xs < length xs → list_any test xs ≡ true
  passes_there [] below = absurd (omega (arith, below))
  passes_there (x ∷ xs) below =
      (elim (test x) as (λ b. cond (not b) (1 + position_or_len test xs) 0 < suc (length xs)
      → (b || list_any test xs) ≡ true)
      [ true ↦ (λ _. refl) | false ↦ (λ below. passes_there xs (omega (arith, below))) ]) below

  -- no item passes if the place of the first that does is past the list
  passes_nowhere : (xs : List X) → length xs ≤ position_or_len test xs → list_any test xs ≡ false
  passes_nowhere [] past = refl
  passes_nowhere (x ∷ xs) past =
      (elim (test x) as (λ b. suc (length xs) ≤ cond (not b) (1 + position_or_len test xs) 0
      → (b || list_any test xs) ≡ false)
      [ true ↦ (λ past. absurd (omega (arith, past))) | false ↦ (λ past. passes_nowhere xs (omega (arith, past))) ])
      past

  -- if no item of `xs` passes, the first of `xs ++ ys` that passes comes after `xs`, at its place in `ys`
  first_after : (xs ys : List X) → list_any test xs ≡ false
      → position_or_len test (xs ++ ys) ≡ length xs + position_or_len test ys
  first_after [] ys none = omega arith
  first_after (x ∷ xs) ys none =
      (elim (test x) as (λ b. (b || list_any test xs) ≡ false
      → cond (not b) (1 + position_or_len test (xs ++ ys)) 0 ≡ suc (length xs) + position_or_len test ys)
      [ true ↦ (λ some. absurd (cc)) | false ↦ (λ none. omega (arith, first_after xs ys none)) ]) none

-- ---- keys that are kept as a few and the others, a key, and its place among the few or past them
module _ (few others : List ℕ) (key place : ℕ) (is : place ≡ position_or_len (nat_eq key) few) where
  -- a key found in `few` is in `few ++ others`
  pub few_had : place < length few → list_any (nat_eq key) (few ++ others) ≡ true
  few_had below =
      list_any-append (nat_eq key) few others
      ∙ ap (λ had. had || list_any (nat_eq key) others) (passes_there (nat_eq key) few (omega (arith, is, below)))

  -- a key found in `few` has the same place in `few ++ others`
  pub few_placed : place < length few → place ≡ position_or_len (nat_eq key) (few ++ others)
  few_placed below =
      is ∙ sym (position_or_len-append_found (nat_eq key) few others
      (passes_there (nat_eq key) few (omega (arith, is, below))))

  -- interning a key found in `few` adds nothing to `few ++ others`
  pub few_same : place < length few → few ++ others ≡ keys_after (few ++ others) key
  few_same below = ap (λ had. cond had (few ++ others) ((few ++ others) ++ key ∷ [])) (sym (few_had below))

  -- a key that is not in `few` is in `others` exactly if it is in `few ++ others`
  pub others_had : length few ≤ place → list_any (nat_eq key) others ≡ list_any (nat_eq key) (few ++ others)
  others_had past =
      ap (λ had. had || list_any (nat_eq key) others) (sym (passes_nowhere (nat_eq key) few (omega (arith, is, past))))
      ∙ sym (list_any-append (nat_eq key) few others)

  -- a key that is not in `few` has in `few ++ others` its place in `others` plus the length of `few`
  pub others_placed : length few ≤ place
      → length few + position_or_len (nat_eq key) others ≡ position_or_len (nat_eq key) (few ++ others)
  others_placed past = sym (first_after (nat_eq key) few others
      (passes_nowhere (nat_eq key) few (omega (arith, is, past))))

  -- for a key that is not in `few`, interning it in `others` has the same effect as interning it in `few ++ others`
  pub others_more : length few ≤ place → few ++ keys_after others key ≡ keys_after (few ++ others) key
  others_more past =
      (elim (list_any (nat_eq key) others) as (λ had. few ++ cond had others (others ++ key ∷ [])
      ≡ cond had (few ++ others) ((few ++ others) ++ key ∷ []))
      [ true ↦ refl | false ↦ sym (append_assoc few others (key ∷ [])) ])
      ∙ ap (λ had. cond had (few ++ others) ((few ++ others) ++ key ∷ [])) (others_had past)

  -- if there are no `others`, a key that is not in `few` is not in the whole list
  pub new_had : others ≡ [] → length few ≤ place → list_any (nat_eq key) (few ++ others) ≡ false
  new_had none past = sym (others_had past) ∙ ap (list_any (nat_eq key)) none

  -- if there are no `others`, the place of a key that is not in `few` is the length of `few`
  pub new_placed : others ≡ [] → length few ≤ place → length few ≡ position_or_len (nat_eq key) (few ++ others)
  new_placed none past = omega
      (arith, others_placed past, ap (λ (keys : List ℕ). position_or_len (nat_eq key) keys) none)

  -- if there are no `others`, interning a key that is not in `few` adds it at the end of `few`
  pub new_last : others ≡ [] → length few ≤ place → (few ++ key ∷ []) ++ others ≡ keys_after (few ++ others) key
  new_last none past =
      (λ i. (few ++ key ∷ []) ++ none i)
      ∙ append-nil (few ++ key ∷ [])
      ∙ ap (λ (keys : List ℕ). few ++ keys_after keys key) (sym none)
      ∙ others_more past
