use Rattle.std.proofs.Common.{◌∙◌, eqb}
use Rattle.std.proofs.lemmas.List.Filters.{dedup_is}
use Rattle.number_lists.proofs.SortingLemmas.{sorted_listed}
use Rattle.number_lists.proofs.rising.keep_rising.Goals as goal

-- sorting numbers below a bound and removing repeats gives `listed_numbers`
pub returns : goal.returns
returns c = λ bound below.
    dedup_is eqb c.sort_unstable.new.self.items c.dedup.new.self.items c.dedup.ensures.filtered
    ∙ sorted_listed bound c.args.numbers.now.items c.sort_unstable.new.self.items below
    c.sort_unstable.ensures.permutation c.sort_unstable.ensures.sorted
