use Rattle.std.proofs.Common.{ℕ, ◌∙◌, List, length, ap, subst}
use Rattle.std.specs.List.{concat}
use Rattle.std.specs.List.Sorted.{IsStrictlyIncreasing}
use Rattle.postings.specs.Indexed.{Indexed}
use Rattle.postings.proofs.StatsLemmas.{stats_told}
use Rattle.postings.proofs.index.Indexes.stats.Goals as goal

-- the counts are those of any release whose indexes they are
pub returns-clause-release : goal.returns-clause-release
returns-clause-release c = λ release is.
    let ancestors = c.ancestor_count.ensures
    ∙ ap (λ (indexed : Indexed). length (concat indexed.hierarchy.ancestors)) c.self.view_is in
    let links = c.link_count.ensures
    ∙ ap (λ (indexed : Indexed). length (concat indexed.hierarchy.parents)) c.self.view_is in
    let members = ap (λ (xs : List ℕ). length xs) c.flat.ensures
    ∙ ap (λ (indexed : Indexed). length (concat indexed.members)) c.self.view_is in
    (λ i. record {
      n = c.concept_count.ensures.count i;
      a = c.row_count.ensures.count i;
      g = c.group_count.ensures.count i;
      r = ancestors i;
      l = links i;
      m = members i;
    })
    ∙ stats_told c.args.self.now release
    (subst (λ (ids : List ℕ). IsStrictlyIncreasing ids) is.concepts c.concept_count.ensures.rising) is
