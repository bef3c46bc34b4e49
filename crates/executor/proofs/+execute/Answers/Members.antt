-- Answers of the nodes that read reference sets.
use Rattle.std.proofs.Common.{ℕ, List, Bool}
use Rattle.std.proofs.Common.{refl, arith}
use Rattle.set_algebra.specs.Plan.{Plan, members_plan}
use Rattle.executor.specs.inside.Logical.{logical_of}
use Rattle.walks.specs.Components.{components_of}
use Rattle.candidates.specs.Within.{may_be}
use Rattle.executor.proofs.NodeLemmas.{members_node}
use Rattle.executor.proofs.WithinNodes.{kept_node}
use Rattle.executor.proofs.+execute.Goals as goal

-- the components of the reference sets that the operand has found, restricted to the candidates, are what the node
-- means among them
pub members_of-returns-clause-found : goal.plans::members_of-returns-clause-found
members_of-returns-clause-found g t c =
    let release = c.args.reader.snapshot.now.release in
    let may : ℕ → Bool = may_be g.S.ConceptSet.items_of c.args.candidates.now in
    let plan : Plan = members_plan (logical_of c.args.operand.now) in
    let some : List ℕ = components_of release (g.S.ConceptSet.items_of c.in_ok-from.from) in
    record {
      items = kept_node release may plan some (g.S.ConceptSet.items_of c.in_ok-found.found)
          (members_node release plan some (logical_of c.args.operand.now) (g.S.ConceptSet.items_of c.in_ok-from.from)
          refl c.in_ok-from.ensures.found.items refl)
          c.in_ok-found.ensures.found.items;
      bound = c.in_ok-found.ensures.found.bound;
      floor = omega (arith, c.in_ok-from.ensures.found.floor, c.in_ok-found.ensures.found.floor);
    }
