-- Lemmas on lists by concepts: one list more, and the places of concepts in an order.
use Rattle.std.proofs.Common.{ℕ, ◌+◌, ◌≡◌, ◌≢◌, ◌<◌, ◌++◌, ◌∷◌, [], ◌∙◌, ⊎_elim, List, length, get_or, map, take, set}
use Rattle.std.proofs.Common.{sym, ap, subst, arith}
use Rattle.std.specs.Prelude.{nat_eq}
use Rattle.std.specs.List.{IsDistinct}
use Rattle.std.proofs.lemmas.Bool.{cases_eq, cases_lt, eqb-false}
use Rattle.std.proofs.lemmas.List.{get_or-set_same, get_or-set_other, map-append, take_more}
use Rattle.std.proofs.lemmas.Map.Keys.{apart_from_distinct}

-- `map f` of the first `i + 1` items is `map f` of the first `i` items, followed by `f` of item `i`
pub map_more : {X Y : Type 0} (f : X → Y) (xs : List X) (i : ℕ) (d : X) → i < length xs
    → map f (take (i + 1) xs) ≡ map f (take i xs) ++ f (get_or xs i d) ∷ []
map_more f xs i d within = ap (map f) (take_more xs i d within) ∙ map-append f (take i xs) (get_or xs i d ∷ [])

-- if the places of the first `place` concepts of an order are stored, and `place` is stored for the concept at it,
-- the places of the first `place + 1` concepts are
pub places_step : (order places : List ℕ) (place : ℕ) → IsDistinct nat_eq order → place < length order
    → get_or order place 0 < length places
    → ((k : ℕ) → k < place → get_or places (get_or order k 0) 0 ≡ k)
    → (k : ℕ) → k < place + 1 → get_or (set places (get_or order place 0) place) (get_or order k 0) 0 ≡ k
places_step order places place once within below known k less = ⊎_elim
    (λ (same : k ≡ place).
    subst (λ (n : ℕ). get_or (set places (get_or order place 0) place) (get_or order n 0) 0 ≡ n) (sym same)
    (get_or-set_same places (get_or order place 0) place 0 below))
    (λ (other : k ≢ place).
    let before : k < place = earlier other in
    get_or-set_other places (get_or order place 0) (get_or order k 0) place 0
    (λ same. eqb-false (get_or order k 0) (get_or order place 0)
    (apart_from_distinct nat_eq order k place 0 once before within) same)
    ∙ known k before)
    (cases_eq k place)
  where
    -- a place below `place + 1` other than `place` is below `place`
    earlier : k ≢ place → k < place
    earlier other = ⊎_elim (λ (before : k < place). before) (λ past. absurd (other (omega arith))) (cases_lt k place)
