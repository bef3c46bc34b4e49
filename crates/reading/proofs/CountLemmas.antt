-- What is counted, call by call.
use Rattle.std.proofs.Common.{ℕ, ◌+◌, ◌<◌, ◌≤◌, List, length, get_or, take, arith}
use Rattle.std.specs.List.{sum_by}
use Rattle.std.proofs.lemmas.List.Sums.{sum_by-take-le, sum_by_more, sum_by_more_le}
use Rattle.reading.specs.Counted.{CountsWithin, HandsOut, full}
use Rattle.reading.specs.declared.counter.Counter.{Counter}

-- a call that leaves the counter unchanged counts at most `most`, whatever that is
pub counted_none : {most : ℕ} {early : Counter} → CountsWithin most early early
counted_none = record { grows = omega arith; within = omega arith }

-- a call that hands out `items` items counts at most `most`, if `items` is at most `most`
pub counted_out : {items most : ℕ} {early late : Counter} → HandsOut items early late → items ≤ most
    → CountsWithin most early late
counted_out out room = record { grows = out.grows; within = omega (arith, out.count, room) }

-- a call that counts at most `first` counts at most `all`, if `first` is at most `all`
pub counted_in : {first all : ℕ} {early late : Counter} → CountsWithin first early late → first ≤ all
    → CountsWithin all early late
counted_in one room = record { grows = one.grows; within = omega (arith, one.within, room) }

-- a call that counts at most `items` counts at most `most`, if `items`, saturated at 2^64 - 1, is at most `most`
pub counted_full : {items most : ℕ} {early late : Counter} → CountsWithin items early late → full items ≤ most
    → CountsWithin most early late
counted_full {late = late} one room = record { grows = one.grows; within = omega (arith, one.within, room, late.fits) }

-- two successive calls together count at most `all`, if their bounds add up to at most `all`
pub counted_both : {first second all : ℕ} {early between late : Counter} → CountsWithin first early between
    → CountsWithin second between late → first + second ≤ all → CountsWithin all early late
counted_both one other room = record {
  grows = omega (arith, one.grows, other.grows);
  within = omega (arith, one.within, other.within, room);
}

-- two successive calls together count at most the sum of their bounds
pub counted_then : {first second : ℕ} {early between late : Counter} → CountsWithin first early between
    → CountsWithin second between late → CountsWithin (first + second) early late
counted_then one other = counted_both one other (omega arith)

-- three successive calls together count at most `all`, if their bounds add up to at most `all`
pub counted_thrice : {first second third all : ℕ} {early one two late : Counter} → CountsWithin first early one
    → CountsWithin second one two → CountsWithin third two late → (first + second) + third ≤ all
    → CountsWithin all early late
counted_thrice one other last room = record {
  grows = omega (arith, one.grows, other.grows, last.grows);
  within = omega (arith, one.within, other.within, last.within, room);
}

module _ (count : ℕ → ℕ) (numbers : List ℕ) (k : ℕ) where
  -- if the calls for the first `k` numbers count at most their sum, then with the call for number `k` they count at
  -- most the sum of the first `k + 1`
  pub counted_next : {early between late : Counter} → k < length numbers
      → CountsWithin (sum_by count (take k numbers)) early between
      → CountsWithin (count (get_or numbers k 0)) between late
      → CountsWithin (sum_by count (take (k + 1) numbers)) early late
  counted_next inside one other =
      counted_both one other (omega (arith, sum_by_more count numbers k 0 inside))

  -- the calls for the first `k` numbers and the call for number `k` together count at most the sum over all numbers
  pub counted_some : {early between late : Counter} → k < length numbers
      → CountsWithin (sum_by count (take k numbers)) early between
      → CountsWithin (count (get_or numbers k 0)) between late
      → CountsWithin (sum_by count numbers) early late
  counted_some inside one other =
      counted_both one other (omega (arith, sum_by_more_le count numbers k 0 inside))

  -- the calls for the first `k` numbers count at most the sum over all numbers
  pub counted_all : {early late : Counter} → CountsWithin (sum_by count (take k numbers)) early late
      → CountsWithin (sum_by count numbers) early late
  counted_all one = counted_in one (sum_by-take-le count numbers k)
