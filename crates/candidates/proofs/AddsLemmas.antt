-- How an estimate of rows grows as values are found.
use Rattle.std.proofs.Common.{ℕ, ◌+◌, ◌≡◌, ◌≤◌, ◌∙◌, Bool, List, [], Option, Some, None, refl, arith}
use Rattle.std.specs.Prelude.{filter}
use Rattle.idset.specs.Sets.{all_items}
use Rattle.number_lists.specs.Rising.{IsRisingBelow}
use Rattle.postings.specs.Indexed.{Indexed}
use Rattle.candidates.specs.RowCounts.{row_count_of}
use Rattle.candidates.specs.RowEstimates.{Adds, Estimate, estimate_sum}
use Rattle.candidates.proofs.SumLemmas.{sum_of_both, sum_of_some}

-- the values that pass `p` have no more rows than all values
some_rows : (indexed : Option Indexed) (back : Bool) (p : ℕ → Bool) (values : List ℕ)
    → estimate_sum indexed back (filter p values) ≤ estimate_sum indexed back values
some_rows None back p values = omega arith
some_rows (Some indexed) back p values = sum_of_some (row_count_of indexed back) p values

-- the items of two sets together have no more rows than those of each set, added up
both_rows : (indexed : Option Indexed) (back : Bool) (bound : ℕ) (items others : List ℕ) → IsRisingBelow bound items
    → IsRisingBelow bound others
    → estimate_sum indexed back (all_items bound items others) ≤ estimate_sum indexed back items
    + estimate_sum indexed back others
both_rows None back bound items others rising others_rising = omega arith
both_rows (Some indexed) back bound items others rising others_rising =
    sum_of_both (row_count_of indexed back) bound items others rising others_rising

-- an estimate that adds the rows of `values` adds at least those of the values that pass `p`
pub adds_some : (p : ℕ → Bool) (values : List ℕ) (early late : Estimate) → Adds values early late
    → Adds (filter p values) early late
adds_some p values early late adds = record {
  indexed = adds.indexed;
  back = adds.back;
  rows = λ all known.
      let before = adds.rows all known in
      (before.0, (before.1.0, omega (arith, before.1.1, some_rows early.indexed early.back p values)));
}

-- an estimate that adds the rows of `items` and then those of `others` adds at least those of the union of both
pub adds_both : (bound : ℕ) (items others : List ℕ) (early middle late : Estimate) → IsRisingBelow bound items
    → IsRisingBelow bound others
    → Adds items early middle → Adds others middle late → Adds (all_items bound items others) early late
adds_both bound items others early middle late rising others_rising first second = record {
  indexed = second.indexed ∙ first.indexed;
  back = second.back ∙ first.back;
  rows = λ all known.
      let then = second.rows all known in
      let before = first.rows then.0 then.1.0 in
      let same : estimate_sum middle.indexed middle.back others ≡ estimate_sum early.indexed early.back others =
      (λ i. estimate_sum (first.indexed i) (first.back i) others) in (
        before.0,
        (
          before.1.0,
          omega (
            arith,
            before.1.1,
            then.1.1,
            same,
            both_rows early.indexed early.back bound items
                others rising others_rising,
          ),
        ),
      );
}

-- an estimate that does not change adds the rows of no values
pub adds_none : (estimate : Estimate) → Adds [] estimate estimate
adds_none estimate = record {
  indexed = refl;
  back = refl;
  rows = λ all known. (all, (known, omega (arith, no_rows estimate.indexed estimate.back)));
}
  where
    no_rows : (indexed : Option Indexed) (back : Bool) → estimate_sum indexed back [] ≡ 0
    no_rows None back = refl
    no_rows (Some indexed) back = refl
