use Rattle.std.proofs.Common.{◌∙◌, ap, arith}
use Rattle.set_algebra.specs.Physical.{physical_of, physical_test_of}
use Rattle.plan_bounds.specs.Alternatives.{leaf_bound}
use Rattle.plan_bounds.specs.Bounds.{capped}
use Rattle.plan_bounds.specs.declared.leaf.Leaf.{Leaf}
use Rattle.plan_bounds.proofs.FloorLemmas.{leaf-le}
use Rattle.plan_bounds.proofs.limits.leaf_limits.Goals as goal

-- the floor of a leaf is at most its bound, so the limits are in order
pub returns-clause-ordered : goal.returns-clause-ordered
returns-clause-ordered c =
    omega (
      arith,
      c.leaf_floor.ensures,
      c.cost.ensures.bound
          ∙ ap (λ (leaf : Leaf). capped (leaf_bound leaf c.args.leaf.choice)) c.counts_of_leaf-counts.ensures,
      leaf-le c.args.lengths.indexes.now c.args.all c.args.back c.args.leaf.count (physical_of c.args.leaf.types.now)
          (physical_test_of c.args.leaf.test.now) c.args.sizes.0 c.args.sizes.1 c.args.leaf.choice,
    )
