use Rattle.std.proofs.Common.{ℕ, List, ◌<◌, ◌∙◌, All, length, sym, ap, subst}
use Rattle.postings.specs.Groups.{ConceptGroup, groups_in}
use Rattle.number_lists.proofs.RisingLemmas.{all_below}
use Rattle.candidates.proofs.GroupLemmas.{groups_are}
use Rattle.candidates.proofs.candidates.group_stats_of.Goals as goal

-- the items of the set are numbers of groups
pub group_stats_among-requires : goal.group_stats_among-requires
group_stats_among-requires g c =
    let items = g.S.ConceptSet.items_of c.args.groups.now in
    subst (All (λ group. group < length (groups_in c.args.reader.indexes.now)))
    (sym (c.as_slice.ensures.value ∙ c.in_ok-own.ensures.items))
    (subst (λ (bound : ℕ). All (λ group. group < bound) items)
    (c.requires.bound
    ∙ ap (λ (groups : List ConceptGroup). length groups)
    (sym (groups_are c.args.reader.indexes.now c.args.reader.snapshot.now.release c.args.reader.index
    c.concept_count.ensures.rising)))
    (all_below (g.S.ConceptSet.bound_of c.args.groups.now) items (g.met.S.ConceptSet.rising c.args.groups.now)))

-- statistics that count nothing but the items of the set hold for its groups
pub returns-then-are_many_compared_to-clause-stats : goal.returns-then-are_many_compared_to-clause-stats
returns-then-are_many_compared_to-clause-stats g c =
    c.uncounted.ensures.groups c.args.reader.indexes.now (g.S.ConceptSet.items_of c.args.groups.now)
    (sym c.count-count.ensures)
