use Rattle.std.proofs.Common.{eqb, arith}
use Rattle.std.proofs.lemmas.List.Filters.{dedup_is}
use Rattle.std.proofs.lemmas.Map.Keys.{IsStrictlyIncreasing-dedup}
use Rattle.number_lists.proofs.RisingOrderLemmas.{deduped_is_rising}
use Rattle.held_release.proofs.finishing.rising.Goals as goal

-- the concepts after sorting and removing duplicates are `rising` of the concepts before
pub returns-clause-rising : goal.returns-clause-rising
returns-clause-rising c =
    grind (
      arith,
      (dedup_is eqb c.sort_unstable.new.self.items c.dedup.new.self.items c.dedup.ensures.filtered),
      deduped_is_rising,
      c.sort_unstable.ensures.permutation,
      c.sort_unstable.ensures.sorted,
    )

-- the concepts after sorting and removing duplicates rise strictly
pub returns-clause-increasing : goal.returns-clause-increasing
returns-clause-increasing c =
    rw (dedup_is eqb c.sort_unstable.new.self.items c.dedup.new.self.items c.dedup.ensures.filtered)
    (IsStrictlyIncreasing-dedup c.sort_unstable.new.self.items c.sort_unstable.ensures.sorted)
