-- Where lists stand, one after the other.
use Rattle.std.proofs.Common.{ℕ, ◌≡◌, ◌≤◌, ◌∙◌, List, length, take, drop, sym, ap, arith, length-append}
use Rattle.std.specs.List.{concat, flat_map}
use Rattle.std.proofs.lemmas.Grind.{flat_map-append}
use Rattle.std.proofs.lemmas.List.{take-append-drop, take-take}
use Rattle.number_lists.proofs.ListLemmas.{concat-append}

-- the first `i` lists have together at most as many items as the first `j`, if `i` is at most `j`
pub lengths_rise : (lists : List (List ℕ)) (i j : ℕ) → i ≤ j
    → length (concat (take i lists)) ≤ length (concat (take j lists))
lengths_rise lists i j le =
    let whole : concat (take j lists) ≡ _ =
    ap concat (sym (take-append-drop i (take j lists)))
    ∙ concat-append (take i (take j lists)) (drop i (take j lists)) in
    omega (
      arith,
      ap (λ (xs : List ℕ). length xs) whole,
      length-append (concat (take i (take j lists))) (concat (drop i (take j lists))),
      ap (λ (xs : List (List ℕ)). length (concat xs)) (take-take i j lists le),
    )

-- `f` of the first `i` keys gives together at most as many items as of the first `j`, if `i` is at most `j`
pub blocks_rise : {X Y : Type 0} (f : X → List Y) (keys : List X) (i j : ℕ) → i ≤ j
    → length (flat_map f (take i keys)) ≤ length (flat_map f (take j keys))
blocks_rise {X} {Y} f keys i j le =
    let whole : flat_map f (take j keys) ≡ _ =
    ap (flat_map f) (sym (take-append-drop i (take j keys)))
    ∙ flat_map-append f (take i (take j keys)) (drop i (take j keys)) in
    omega (
      arith,
      ap (λ (xs : List Y). length xs) whole,
      length-append (flat_map f (take i (take j keys))) (flat_map f (drop i (take j keys))),
      ap (λ (xs : List X). length (flat_map f xs)) (take-take i j keys le),
    )
