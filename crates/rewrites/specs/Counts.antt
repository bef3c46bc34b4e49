-- Tests of cardinalities, and the cardinalities that rules make (Expression Constraint Language,
-- "Cardinality").
use Rattle.std.specs.Prelude.{ℕ, ◌^◌, ◌-◌, ◌+◌, Bool, true, false, ◌&&◌, nat_eq, nat_lt, nat_le, Option, Some, None}
use Rattle.std.specs.Prelude.{is_none}
use Rattle.constraint_tree.specs.declared.operator.Cardinality.{Cardinality}
use Rattle.set_algebra.specs.Equal.{same_most}

-- `new` if the condition holds, and `None` otherwise
abbrev pub only_if : {X : Type 0} → Bool → X → Option X
only_if true new = Some new
only_if false new = None

-- the cardinality `[least..*]`
abbrev pub at_least : ℕ → Cardinality
at_least least = record { min = least; max = None }

-- the cardinality `[0..most]`
abbrev pub up_to : ℕ → Cardinality
up_to most = record { min = 0; max = Some most }

-- whether a cardinality is `[1..*]`
abbrev pub asks_some : Cardinality → Bool
asks_some count = nat_eq count.min 1 && is_none count.max

-- whether a cardinality is `[0..0]`
abbrev pub asks_none : Cardinality → Bool
asks_none count = nat_eq count.min 0 && same_most count.max (Some 0)

-- whether a cardinality is `[0..*]`, in which each number lies
abbrev pub asks_nothing : Cardinality → Bool
asks_nothing count = nat_eq count.min 0 && is_none count.max

-- whether a maximum, if there is one, is below `least`
abbrev pub is_below : Option ℕ → ℕ → Bool
is_below None least = false
is_below (Some most) least = nat_lt most least

-- whether a cardinality has its minimum above its maximum, so that no count lies in it
abbrev pub asks_too_much : Cardinality → Bool
asks_too_much count = is_below count.max count.min

-- the result of `make` on `[least..*]` and `[0..most]` for the cardinality `[least..most]`, or
-- `None` if there is no maximum or `least` is 0
abbrev pub split_at : {X : Type 0} → (Cardinality → Cardinality → X) → ℕ → Option ℕ → Option X
split_at make least None = None
split_at make least (Some most) = only_if (nat_le 1 least) (make (at_least least) (up_to most))

-- the result of `make` on `[m..*]` and `[0..k]` for the cardinality `[m..k]`, or `None` if there is
-- no maximum or m is 0
abbrev pub split : {X : Type 0} → (Cardinality → Cardinality → X) → Cardinality → Option X
split make count = split_at make count.min count.max

-- the result of `make` on `[most+1..*]` for the cardinality `[0..most]`, or `None` if `least` is
-- not 0, there is no maximum, or it is not below 2^64-1
-- - 1
abbrev pub complement_at : {X : Type 0} → (Cardinality → X) → ℕ → Option ℕ → Option X
complement_at make least None = None
complement_at make least (Some most) =
    only_if (nat_eq least 0 && nat_lt most (2 ^ 64 - 1)) (make (at_least (most + 1)))

-- the result of `make` on `[k+1..*]` for the cardinality `[0..k]`, or `None` for any other
-- cardinality and if k is not below 2^64-1
abbrev pub complement : {X : Type 0} → (Cardinality → X) → Cardinality → Option X
complement make count = complement_at make count.min count.max

-- `always` for the cardinality `[0..*]`, `never` if the minimum `least` is above the maximum, and
-- `None` otherwise
abbrev pub trivial_at : {X : Type 0} → X → X → ℕ → Option ℕ → Option X
trivial_at always never least None = only_if (nat_eq least 0) always
trivial_at always never least (Some most) = only_if (nat_lt most least) never

-- `always` for the cardinality `[0..*]`, `never` for `[m..k]` with m above k, and `None` otherwise
abbrev pub trivial_cardinality : {X : Type 0} → X → X → Cardinality → Option X
trivial_cardinality always never count = trivial_at always never count.min count.max
