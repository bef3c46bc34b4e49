use Rattle.std.proofs.Common.{ap, ◌∙◌}
use Rattle.constraint_tree.specs.Tree.{tree_of}
use Rattle.set_algebra.specs.Meaning.{means}
use Rattle.set_algebra.specs.Plan.{Plan}
use Rattle.set_algebra.proofs.LoweringLemmas.{same_meaning}
use Rattle.set_algebra.proofs.lowering.lower.Goals as goal

-- over each release the plan that `lower` returns means exactly the concepts that the constraint denotes
pub returns-clause-meaning : goal.returns-clause-meaning
returns-clause-meaning c =
    λ release concept.
    ap (λ (plan : Plan). means release plan concept) c.in_ok-plan.ensures
    ∙ same_meaning release (tree_of c.args.constraint.now) concept
