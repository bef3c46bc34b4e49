use Rattle.std.proofs.Common.{◌+◌, ◌≡◌, ◌++◌, [], take}
use Rattle.number_lists.specs.Rising.{IsRising}
use Rattle.postings.specs.inside.Coded.{has_same_in_group, marks_after, numbers_of_groups, place_in_source}
use Rattle.postings.specs.inside.PairKeys.{grouped_keys, ungrouped_keys}
use Rattle.postings.proofs.PairKeyLemmas.{HaveShort}
use Rattle.postings.proofs.groups.push_groups.Given as goal

-- the tables have the group numbers of all rows and the keys of the rows so far, and `groups` has got the marks of
-- these rows
abbrev pub invariant-loop-row : goal.invariant-loop-row
invariant-loop-row l = record {
  numbers : l.tables.numbers.items ≡ numbers_of_groups l.rows;
  rising : IsRising l.tables.numbers.items;
  short : HaveShort (take l.row-index l.rows);
  ungrouped : l.tables.ungrouped ≡ ungrouped_keys (take l.row-index l.rows);
  seen : l.tables.seen ≡ grouped_keys (take l.row-index l.rows);
  marks : l.groups.items ≡ l.fn.groups.items
      ++ marks_after has_same_in_group (λ row. l.ahead + place_in_source l.rows row) []
      (take l.row-index l.rows);
}
