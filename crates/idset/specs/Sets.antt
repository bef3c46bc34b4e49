-- The operations on sets in terms of lists. A set of numbers is the rising list of its items.
use Rattle.std.specs.Prelude.{ℕ, List, ◌||◌, not, nat_lt, filter}
use Rattle.std.specs.List.{prefix_len}
use Rattle.number_lists.specs.Members.{has}
use Rattle.number_lists.specs.Rising.{numbers_where}

-- the items of `items` that are in `others`
abbrev pub common_items : List ℕ → List ℕ → List ℕ
common_items items others = filter (has others) items

-- the items of `items` that are not in `others`
abbrev pub other_items : List ℕ → List ℕ → List ℕ
other_items items others = filter (λ item. not (has others item)) items

-- the numbers below `bound` that are in `items` or in `others`
abbrev pub all_items : ℕ → List ℕ → List ℕ → List ℕ
all_items bound items others = numbers_where bound (λ number. has items number || has others number)

-- the numbers below `bound` that are not in `items`
abbrev pub missing_numbers : ℕ → List ℕ → List ℕ
missing_numbers bound items = numbers_where bound (λ number. not (has items number))

-- the place of `number` in a rising list: how many items are below it
abbrev pub place_of : List ℕ → ℕ → ℕ
place_of items number = prefix_len (λ item. nat_lt item number) items
