use Rattle.std.proofs.Common.{◌≡◌, ◌<◌, All, length, map, slice_get, slice_index, take}
use Rattle.postings.specs.Groups.{groups_in}
use Rattle.candidates.specs.Groups.{concept_in}
use Rattle.pair_sets.proofs.units.concepts_of.Given as goal

-- `found` are the numbers of the concepts of the groups so far
abbrev pub invariant-loop-group : goal.invariant-loop-group
invariant-loop-group l = record {
  within : All (λ concept. concept < length l.reader.indexes.now.concepts) l.found.items;
  concepts : map (slice_index l.reader.indexes.now.concepts) l.found.items
      ≡ map (λ group. concept_in (slice_get (groups_in l.reader.indexes.now) group)) (take l.group-index l.groups);
}
