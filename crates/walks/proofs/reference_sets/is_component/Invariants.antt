use Rattle.std.proofs.Common.{◌≡◌, take}
use Rattle.walks.specs.inside.Components.{is_in_one_of}
use Rattle.walks.proofs.reference_sets.is_component.Given as goal

-- `found` says whether the concept is a component of one of the reference sets so far
abbrev pub invariant-loop-refset : goal.invariant-loop-refset
invariant-loop-refset l = l.found ≡ is_in_one_of l.reader.indexes.now.members (take l.refset-index l.refsets) l.concept
