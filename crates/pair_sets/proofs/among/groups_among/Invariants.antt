use Rattle.std.proofs.Common.{true, ◌≡◌, ◌<◌, All, length, take}
use Rattle.std.specs.Prelude.{filter, slice_get}
use Rattle.std.specs.List.{sum_by}
use Rattle.reading.specs.Counted.{CountsWithin}
use Rattle.candidates.specs.Extents.{group_row_count}
use Rattle.constraint_tree.specs.Passing.{lies_in}
use Rattle.postings.specs.Groups.{groups_in}
use Rattle.pair_sets.specs.inside.Among.{pairs_among, rows_of_group_number}
use Rattle.candidates.specs.Numbers.{is_one_of}
use Rattle.pair_sets.specs.Tested.{passes_of}
use Rattle.pair_sets.proofs.among.groups_among.Given as goal

-- `kept` are the groups so far whose number of pairs lies in `count`, and the rows of the groups so far are counted
abbrev pub invariant-loop-group : goal.invariant-loop-group
invariant-loop-group g l = record {
  within : All (λ number. number < length (groups_in l.reader.indexes.now)) l.kept.items;
  kept : l.kept.items ≡ filter
      (λ number. lies_in l.count (pairs_among l.reader.indexes.now true
      (is_one_of l.reader.indexes.now.concepts (g.S.ConceptSet.items_of l.types))
      (passes_of g.S.ConceptSet.items_of l.reader.indexes.now.concepts l.tested)
      (rows_of_group_number l.reader.indexes.now (slice_get (groups_in l.reader.indexes.now) number))))
      (take l.group-index l.groups);
  counted : CountsWithin (sum_by (group_row_count l.reader.indexes.now) (take l.group-index l.groups)) l.initial.visits
      l.visits;
}
