use Rattle.std.proofs.Common.{◌∙◌, true, refl, sym, ap}
use Rattle.std.specs.Prelude.{filter}
use Rattle.number_lists.proofs.BlockLemmas.{filter-all}
use Rattle.candidates.specs.declared.candidates.Candidates.{Candidates}
use Rattle.candidates.specs.Within.{may_be}
use Rattle.candidates.proofs.candidates.restricted.Goals as goal

-- if all are candidates, the filter keeps all that was found
pub returns-in-All-clause-items : goal.returns-in-All-clause-items
returns-in-All-clause-items g c =
    sym (filter-all (λ n. true) (g.S.ConceptSet.items_of c.args.found) (λ k d within. refl))
    ∙ ap (λ (candidates : Candidates _). filter (may_be g.S.ConceptSet.items_of candidates)
    (g.S.ConceptSet.items_of c.args.found)) (sym c.in-All.is)
