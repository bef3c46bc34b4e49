use Rattle.std.proofs.Common.{arith, sym}
use Rattle.candidates.proofs.StatsLemmas.{stats_among, group_stats_among}
use Rattle.candidates.proofs.candidates.stats_left.Goals as goal

-- if all are candidates, statistics that count nothing but the items hold for the concepts that are left
pub returns-in-All-clause-concepts : goal.returns-in-All-clause-concepts
returns-in-All-clause-concepts g c =
    λ indexed told. c.uncounted.ensures.concepts indexed (g.S.ConceptSet.items_of c.args.left.now) (sym c.count.ensures)

-- if all are candidates, statistics that count nothing but the items hold for the groups that are left
pub returns-in-All-clause-groups : goal.returns-in-All-clause-groups
returns-in-All-clause-groups g c =
    λ indexed told. c.uncounted.ensures.groups indexed (g.S.ConceptSet.items_of c.args.left.now) (sym c.count.ensures)

-- the concepts that are left are among the candidates, so the limits of the candidates hold for them
pub returns-in-Within-clause-concepts : goal.returns-in-Within-clause-concepts
returns-in-Within-clause-concepts g c =
    λ indexed told.
    stats_among (g.S.ConceptSet.items_of c.args.left.now) (g.S.ConceptSet.items_of c.in-Within.field-0.now) _ _
    (g.met.S.ConceptSet.rising c.args.left.now) (g.met.S.ConceptSet.rising c.in-Within.field-0.now)
    (rw c.in-Within.is at c.requires) indexed c.in-Within.stats _ (omega arith) (rw c.in-Within.is at told)

-- the groups that are left are among the candidates, so the limits of the candidates hold for them
pub returns-in-Within-clause-groups : goal.returns-in-Within-clause-groups
returns-in-Within-clause-groups g c =
    λ indexed told.
    group_stats_among (g.S.ConceptSet.items_of c.args.left.now) (g.S.ConceptSet.items_of c.in-Within.field-0.now) _ _
    (g.met.S.ConceptSet.rising c.args.left.now) (g.met.S.ConceptSet.rising c.in-Within.field-0.now)
    (rw c.in-Within.is at c.requires) indexed c.in-Within.stats _ (omega arith) (rw c.in-Within.is at told)
