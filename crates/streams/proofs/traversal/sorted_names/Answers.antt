use Rattle.std.proofs.Common.{map, string_bytes}
use Rattle.std.proofs.lemmas.List.Sorted.{IsPermutation-map}
use Rattle.streams.proofs.TraversalLemmas.{names_in_order}
use Rattle.streams.proofs.traversal.sorted_names.Goals as goal

-- the sorted names are those in the folder, in byte order
pub returns : goal.returns
returns g c tree told = record {
  given = map string_bytes c.in_ok-names.names.items;
  told = c.in_ok-names.ensures tree told;
  same = IsPermutation-map string_bytes c.in_ok-names.names.items c.sort.new.self.items c.sort.ensures.permutation;
  rising = names_in_order c.sort.new.self.items c.in_ok-sort.ensures.sorted;
}
