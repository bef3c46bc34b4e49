use Rattle.std.proofs.Common.{List, length, ℕ, ap, arith}
use Rattle.postings.proofs.IndexLemmas.{few_types}
use Rattle.reading.proofs.reader.Reader.type_count.Goals as goal

-- 32 bits hold the number of types, since there are no more types than rows
pub overflow_cast-result : goal.overflow_cast-result
overflow_cast-result c =
    omega (
      arith,
      c.row_count.ensures.few,
      few_types c.args.self.indexes.now.rows,
      ap (λ (ids : List ℕ). length ids) c.types.ensures,
    )

-- there are less than 2^31 types, since there are no more types than rows
pub returns-clause-few : goal.returns-clause-few
returns-clause-few c = omega (arith, c.row_count.ensures.few, few_types c.args.self.indexes.now.rows)
