use Rattle.std.proofs.Common.{ℕ, List, sym, subst}
use Rattle.candidates.specs.RowEstimates.{Adds}
use Rattle.candidates.specs.Within.{may_be}
use Rattle.candidates.proofs.AddsLemmas.{adds_some}
use Rattle.walks.proofs.related.walk_by.Goals as goal

-- the estimate that adds all that was found adds enough for the candidates among it
pub returns-clause-adds : goal.returns-clause-adds
returns-clause-adds g c =
    subst (λ (items : List ℕ). Adds items c.args.estimate.now c.walk.new.estimate) (sym c.in_ok-found-2.ensures.items)
    (adds_some (may_be g.S.ConceptSet.items_of c.args.candidates.now) (g.S.ConceptSet.items_of c.in_ok-related.related)
    c.args.estimate.now c.walk.new.estimate
    c.in_ok-related.ensures.adds)
