use Rattle.std.proofs.Common.{ℕ, ◌≡◌, ◌≤◌, ◌<◌, ◌+◌, true, All, length, take}
use Rattle.std.specs.List.{sum_by}
use Rattle.number_lists.specs.Members.{has}
use Rattle.postings.specs.Groups.{groups_before, groups_in}
use Rattle.candidates.specs.Extents.{group_count_of}
use Rattle.pair_sets.proofs.units.numbers_of_groups.Given as goal

-- `found` are the numbers of the groups of the concepts so far
abbrev pub invariant-loop-concept : goal.invariant-loop-concept
invariant-loop-concept l = record {
  within : All (λ group. group < length (groups_in l.reader.indexes.now)) l.found.items;
  few : length l.found.items ≡ sum_by (group_count_of l.reader.indexes.now) (take l.concept-index l.concepts);
  all : (concept group : ℕ) → has (take l.concept-index l.concepts) concept ≡ true
      → length (groups_before l.reader.indexes.now concept) ≤ group
      → group < length (groups_before l.reader.indexes.now (concept + 1)) → has l.found.items group ≡ true;
}
