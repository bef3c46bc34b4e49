use Rattle.std.proofs.Common.{length, ap, arith}
use Rattle.postings.specs.Indexed.{Indexed}
use Rattle.postings.proofs.GroupNumberLemmas.{length-rows}
use Rattle.postings.proofs.index.Indexes.row_count.Goals as goal

-- 32 bits hold the number of rows
pub overflow_cast-result : goal.overflow_cast-result
overflow_cast-result c =
    omega (
      arith,
      c.len.ensures,
      length-rows c.self.inside c.self.invariant c.args.self.now c.self.view_is,
      c.self.invariant.rows.coded.few,
    )

-- there are as many rows as places of types
pub returns-clause-count : goal.returns-clause-count
returns-clause-count c =
    omega (
      arith,
      c.len.ensures,
      length-rows c.self.inside c.self.invariant c.args.self.now c.self.view_is,
      ap (λ (indexed : Indexed). length indexed.rows) c.self.view_is,
    )
