use Rattle.std.proofs.Common.{arith, nat_lt, rules}
use Rattle.std.specs.List.Sorted.{IsStrictlyIncreasing}
use Rattle.std.proofs.lemmas.Bool.{OnTrue_from}
use Rattle.std.proofs.lemmas.Bool.Decides.{nat_tests}
use Rattle.std.proofs.lemmas.List.Sorted.{answers_always}
use Rattle.release_rows.proofs.repeated.rises.Goals as goal

-- if `is_sorted_by` finds each key below the next, the keys rise
pub returns : goal.returns
returns c = OnTrue_from c.is_sorted_by.result (IsStrictlyIncreasing c.args.keys.now) (λ sorted k within.
    grind (
      arith,
      nat_tests,
      sorted,
      c.is_sorted_by.ensures.cases nat_lt
          (answers_always _ _ _ (λ f a r f' q. search rules)),
    ))
