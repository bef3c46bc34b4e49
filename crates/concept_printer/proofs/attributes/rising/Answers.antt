use Rattle.std.proofs.Common.{eqb, arith}
use Rattle.std.proofs.lemmas.List.Filters.{dedup_is}
use Rattle.number_lists.proofs.RisingOrderLemmas.{deduped_is_rising}
use Rattle.concept_printer.proofs.attributes.rising.Goals as goal

-- sorting and then dropping repeats gives the keys in rising order, each once
pub returns : goal.returns
returns c =
    grind (
      arith,
      (dedup_is eqb c.sort_unstable.new.self.items c.dedup.new.self.items c.dedup.ensures.filtered),
      deduped_is_rising,
      c.sort_unstable.ensures.permutation,
      c.sort_unstable.ensures.sorted,
    )
