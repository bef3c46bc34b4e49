-- The places of numbers in lists.
use Rattle.std.proofs.Common.{ltb, arith, ℕ, ◌≡◌, ◌<◌, ◌==◌, ◌∙◌, List, [], ◌∷◌, length, get_or, true, refl, eqb-true}
use Rattle.std.proofs.Common.{ltb-true}
use Rattle.std.proofs.lemmas.Grind.{common_steps}
use Rattle.std.specs.List.{position_or_len}
use Rattle.std.specs.List.Sorted.{IsStrictlyIncreasing}
use Rattle.std.proofs.lemmas.List.Sums.{position_or_len_is, passes_at_first}
use Rattle.std.proofs.lemmas.Bool.Decides.{nat_tests}
use Rattle.number_lists.specs.Members.{has}
use Rattle.number_lists.proofs.IncreasingLemmas.{earlier_below}

-- the place of a number in a list, or the length of the list if it is not there
abbrev pub place_of : List ℕ → ℕ → ℕ
place_of numbers number = position_or_len (λ other. number == other) numbers

-- a number has a place below the length of the list exactly if it is in the list
pub place_within : (numbers : List ℕ) (number : ℕ) → ltb (place_of numbers number) (length numbers) ≡ has numbers number
place_within [] number = refl
place_within (first ∷ numbers) number = grind (arith, nat_tests, place_within numbers number)

-- the place of a number that is in a list is below the length of the list
pub place_below : (numbers : List ℕ) (number : ℕ) → has numbers number ≡ true → place_of numbers number < length numbers
place_below numbers number there =
    ltb-true (place_of numbers number) (length numbers) (place_within numbers number ∙ there)

-- the item at the place of a number that is in a list is this number
pub get_or-place_of : (numbers : List ℕ) (number : ℕ) → has numbers number ≡ true
    → get_or numbers (place_of numbers number) 0 ≡ number
get_or-place_of numbers number there =
    grind (arith, common_steps, nat_tests, eqb-true, get_or, passes_at_first, place_below)

-- the place of the item at `i` is `i`, if the list rises strictly
pub place_of-get_or : (numbers : List ℕ) → IsStrictlyIncreasing numbers → (i : ℕ) → i < length numbers
    → place_of numbers (get_or numbers i 0) ≡ i
place_of-get_or numbers rising i within =
    position_or_len_is (λ other. get_or numbers i 0 == other) numbers i 0 (omega arith)
    (λ k before. grind (arith, nat_tests, (earlier_below numbers rising k i before within)))
    (λ _. grind (arith, nat_tests))
