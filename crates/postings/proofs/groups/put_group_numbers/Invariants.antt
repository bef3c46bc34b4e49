use Rattle.std.proofs.Common.{◌==◌, ◌≡◌, ◌<◌, ◌^◌, map, not, take}
use Rattle.std.specs.Prelude.{All}
use Rattle.std.specs.List.{filter}
use Rattle.held_release.specs.declared.coded_rows.CodedRow.{CodedRow}
use Rattle.postings.proofs.groups.put_group_numbers.Given as goal

-- `numbers` has the group numbers of the rows so far without 0, and 32 bits hold each
abbrev pub invariant-loop-row : goal.invariant-loop-row
invariant-loop-row l = record {
  numbers : l.numbers.items
      ≡ filter (λ group. not (group == 0)) (map (λ (row : CodedRow). row.group) (take l.row-index l.rows));
  small : All (λ number. number < 2 ^ 32) l.numbers.items;
}
