-- The lists that a `RowLists` of the program holds, as contracts name them.
use Rattle.std.specs.Prelude.{◌≤◌, ℕ, [], length}
use Rattle.row_lists.specs.ReleaseLists.{ReleaseLists}
use Rattle.row_lists.specs.declared.row_lists.RowLists.{RowLists}

-- the lists that `lists` holds, with the marks of the rows
abbrev pub listed_in : RowLists → ReleaseLists
listed_in lists = record {
  marks = lists.marks.items;
  active_concepts = lists.concepts.items;
  inactive_concepts = lists.inactive_concepts.items;
  names = lists.names;
  isa_ends = lists.isa_ends.items;
  attributes = lists.attributes;
  member_ends = lists.member_ends.items;
}

-- the lists that `lists` holds, without the marks of the rows
abbrev pub read_in : RowLists → ReleaseLists
read_in lists = record {
  marks = [];
  active_concepts = lists.concepts.items;
  inactive_concepts = lists.inactive_concepts.items;
  names = lists.names;
  isa_ends = lists.isa_ends.items;
  attributes = lists.attributes;
  member_ends = lists.member_ends.items;
}

-- the lists `listed` without the marks of the rows
abbrev pub unmarked : ReleaseLists → ReleaseLists
unmarked listed = record listed { marks = [] }

-- there are at most 68,000,000 rows, and no list has more items than there are rows
pub record AreFew (count : ℕ) (listed : ReleaseLists) : Type 0 where
  -- there are at most 68,000,000 rows
  pub few : count ≤ 68000000
  -- there are no more active concepts than rows
  pub few_concepts : length listed.active_concepts ≤ count
  -- there are no more inactive concepts than rows
  pub few_inactive : length listed.inactive_concepts ≤ count
  -- there are no more names than rows
  pub few_names : length listed.names ≤ count
  -- there are no more is-a rows than rows
  pub few_isa : length listed.isa_ends ≤ count
  -- there are no more attributes than rows
  pub few_attributes : length listed.attributes ≤ count
  -- there are no more members than rows
  pub few_members : length listed.member_ends ≤ count
