-- Rising lists of numbers, and the rising list of the numbers that pass a test.
use Rattle.std.specs.Prelude.{ℕ, Bool, true, List, [], ◌∷◌, ◌&&◌, nat_lt, nat_le, suc, IsTrue, filter, ◌^◌}
use Rattle.std.specs.List.{range_with_len}
use Rattle.number_lists.specs.Members.{has}

-- whether the items rise strictly, the first of them not below `lowest` and all of them below
-- `bound`
abbrev pub rises_within : ℕ → ℕ → List ℕ → Bool
rises_within lowest bound [] = true
rises_within lowest bound (item ∷ items) =
    nat_le lowest item && (nat_lt item bound && rises_within (suc item) bound items)

-- the items rise strictly and are below `bound`
abbrev pub IsRisingBelow : ℕ → List ℕ → Type 0
IsRisingBelow bound items = IsTrue (rises_within 0 bound items)

-- the items rise strictly, as numbers of 32 bits
abbrev pub IsRising : List ℕ → Type 0
IsRising items = IsRisingBelow (2 ^ 32) items

-- the numbers below `bound` that pass a test, in rising order: a set of numbers by its membership
-- test
abbrev pub numbers_where : ℕ → (ℕ → Bool) → List ℕ
numbers_where bound test = filter test (range_with_len 0 bound)

-- the numbers below `bound` that are in a list, which may hold them in any order and more than once
abbrev pub listed_numbers : ℕ → List ℕ → List ℕ
listed_numbers bound numbers = numbers_where bound (has numbers)
