use Rattle.std.proofs.Common.{arith}
use Rattle.set_algebra.specs.Physical.{physical_of, physical_test_of}
use Rattle.plan_bounds.specs.Sizes.{size, test_size}
use Rattle.executor.proofs.CountingLemmas.{leaf_more}
use Rattle.executor.proofs.counting.leaf_limits_within.Goals as goal

-- the bound of a leaf by what its parts have found is at most its bound by what they find at most
pub returns-clause-within : goal.returns-clause-within
returns-clause-within c =
    let indexed = c.args.lengths.indexes.now in
    let types = physical_of c.args.leaf.types.now in
    let test = physical_test_of c.args.leaf.test.now in
    omega (
      arith,
      c.leaf_limits.ensures.bound,
      leaf_more indexed c.args.all c.args.back c.args.leaf.count types test c.args.found.0 (size indexed types)
          c.args.found.1
          (test_size indexed test) c.args.leaf.choice c.requires.types c.requires.test,
    )
