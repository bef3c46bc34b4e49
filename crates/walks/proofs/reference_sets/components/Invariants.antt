use Rattle.std.proofs.Common.{◌≡◌, take}
use Rattle.std.specs.List.{flat_map}
use Rattle.number_lists.specs.KeyedLists.{list_of}
use Rattle.reading.specs.Counted.{CountsWithin}
use Rattle.walks.specs.Families.{items_in}
use Rattle.walks.proofs.reference_sets.components.Given as goal

-- `found` are the components of the reference sets so far, one set after the other, and they are counted
abbrev pub invariant-loop-refset : goal.invariant-loop-refset
invariant-loop-refset l = record {
  found : l.found.items ≡ flat_map (list_of l.reader.indexes.now.members) (take l.refset-index l.refsets);
  counted : CountsWithin (items_in l.reader.indexes.now.members (take l.refset-index l.refsets)) l.initial.visits
      l.visits;
}
