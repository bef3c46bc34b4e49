-- What a call counts, and what it finds. A visit is the reading of one item from a list of the
-- indexes or of a snapshot, or from what a part of a plan has found. A counter saturates at 2^64 -
-- 1.
use Rattle.std.specs.Prelude.{ℕ, ◌≡◌, ◌≤◌, ◌+◌, ◌-◌, ◌^◌, List, min}
use Rattle.std.specs.List.{sum_by}
use Rattle.idset.specs.declared.concept_set.ConceptSet.{Ghosts}
use Rattle.reading.specs.declared.counter.Counter.{Counter}

-- `number`, or 2^64 - 1 if `number` is greater
abbrev pub full : ℕ → ℕ
full number = min number (2 ^ 64 - 1)

-- the sum of `count` over `numbers`, or 2^64 - 1 if the sum is greater
abbrev pub full_sum : (ℕ → ℕ) → List ℕ → ℕ
full_sum count numbers = full (sum_by count numbers)

-- from `early` to `late` a call hands out `items` items: the counter rises by `items`, saturated
pub record HandsOut (items : ℕ) (early late : Counter) : Type 0 where
  -- the counter does not fall
  pub grows : early.count ≤ late.count
  -- the counter rises by `items`, saturated at 2^64 - 1
  pub count : late.count ≡ full (early.count + items)

-- from `early` to `late` a call counts at most `most` items
pub record CountsWithin (most : ℕ) (early late : Counter) : Type 0 where
  -- the counter does not fall
  pub grows : early.count ≤ late.count
  -- the counter rises by `most` at most
  pub within : late.count ≤ early.count + most

-- `found` is the set of `numbers` with the bound `below`, and from `early` to `late` the counter
-- rose by `least` or more, or saturated
pub record IsFound {S : Type 0} (sets : Ghosts S) (below : ℕ) (numbers : List ℕ) (least : ℕ)
    (early late : Counter) (found : S) : Type 0 where
  -- the items of the set are `numbers`
  pub items : sets.items_of found ≡ numbers
  -- the bound of the set is `below`
  pub bound : sets.bound_of found ≡ below
  -- the counter rose by `least` or more, or saturated at 2^64 - 1
  pub floor : full (early.count + least) ≤ late.count
