use Rattle.std.proofs.Common.{◌∙◌, ap, subst, sym, arith}
use Rattle.candidates.specs.Extents.{IsStatsOf}
use Rattle.candidates.specs.Within.{HaveStats}
use Rattle.candidates.specs.declared.candidates.Candidates.{Candidates}
use Rattle.walks.specs.Families.{lists_of}
use Rattle.walks.specs.Reads.{AreAsked}
use Rattle.walks.proofs.ReadLemmas.{asked_within}
use Rattle.walks.proofs.walk_paths.items_asked.Goals as goal

-- the candidates and their lists, as their statistics say, are enough items to test them
pub returns-in-Within : goal.returns-in-Within
returns-in-Within g c indexed =
    let items_of = g.S.ConceptSet.items_of in
    subst (λ (candidates : Candidates _). HaveStats items_of (IsStatsOf indexed) candidates
    → AreAsked items_of indexed.hierarchy c.args.operator candidates c.saturating_add.result)
    (sym c.in-Within.is)
    (λ is. omega (
      arith,
      asked_within indexed c.args.operator c.asked.result _ c.in-Within.stats is
          (ap (lists_of indexed.hierarchy) c.asked.ensures ∙ c.of.ensures.asked indexed.hierarchy),
      c.items_of-lists.ensures,
      c.saturating_add.ensures,
    ))
