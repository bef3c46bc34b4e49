-- The members of a list of numbers: whether a number is in it, and how often.
use Rattle.std.specs.Prelude.{ℕ, ◌==◌, Bool, List, count_by}
use Rattle.std.specs.List.{list_any}

-- whether a number is in a list of numbers
abbrev pub has : List ℕ → ℕ → Bool
has numbers number = list_any (λ other. other == number) numbers

-- how often a number is in a list
abbrev pub times : ℕ → List ℕ → ℕ
times number numbers = count_by (λ other. other == number) numbers
