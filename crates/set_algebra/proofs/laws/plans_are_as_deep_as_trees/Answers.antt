use Rattle.std.proofs.Common.{ℕ, ◌≤◌, subst, sym}
use Rattle.constraint_tree.specs.Depth.{most_deep}
use Rattle.set_algebra.proofs.DepthLemmas.{lowered_depth}
use Rattle.set_algebra.proofs.laws.plans_are_as_deep_as_trees.Goals as goal

-- the plan of a constraint is as deep as its tree
pub returns-clause-same : goal.returns-clause-same
returns-clause-same c = lowered_depth

-- the plan of each text that is a constraint is at most `most_deep` deep
pub returns-clause-most : goal.returns-clause-most
returns-clause-most c = λ text tree constraint.
    subst (λ (depth : ℕ). depth ≤ most_deep) (sym (lowered_depth tree))
    (c.constraints_are_not_deep.ensures text tree constraint)
