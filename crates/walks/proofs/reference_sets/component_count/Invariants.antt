use Rattle.std.proofs.Common.{◌≡◌, take}
use Rattle.reading.specs.Counted.{full}
use Rattle.walks.specs.Families.{items_in}
use Rattle.walks.proofs.reference_sets.component_count.Given as goal

-- `components` is how many components the reference sets so far have, added up and saturated
abbrev pub invariant-loop-refset : goal.invariant-loop-refset
invariant-loop-refset l = l.components ≡ full (items_in l.reader.indexes.now.members (take l.refset-index l.refsets))
