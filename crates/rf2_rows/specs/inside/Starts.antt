-- The places where the fields of a line start, each one after the tab that ends the field before.
use Rattle.std.specs.Prelude.{◌≡◌, ℕ, ◌+◌, ◌-◌, ◌<◌, ◌≤◌, List, ◌++◌, length, map, take, drop, slice_index_or}
use Rattle.std.specs.List.{range_with_len}
use Rattle.rf2_rows.specs.Rows.{fields_of}
use Rattle.rf2_rows.specs.inside.Tabs.{NoTab, parts_from, tabs_left}

-- where the field at `index` starts
abbrev pub start_at : List ℕ → ℕ → ℕ
start_at starts index = slice_index_or starts index 0

-- the text of the field at `index` of a line: the next field starts one after its end
abbrev pub field_at : List ℕ → List ℕ → ℕ → List ℕ
field_at line starts index =
    take (start_at starts (index + 1) - 1 - start_at starts index)
    (drop (start_at starts index) line)

-- the texts of the first `count` fields of a line
abbrev pub fields_at : List ℕ → List ℕ → ℕ → List (List ℕ)
fields_at line starts count = map (field_at line starts) (range_with_len 0 count)

-- each of the first `count` fields starts before the next one and ends within the line
abbrev pub AreStarts : List ℕ → List ℕ → ℕ → Type 0
AreStarts line starts count =
    (k : ℕ) → k < count
    → (start_at starts k < start_at starts (k + 1)) × (start_at starts (k + 1) ≤ length line + 1)

-- the first `count` fields of a line are cut: each of them has its start in `starts`, and so has the
-- next one
pub record IsCut (line starts : List ℕ) (count : ℕ) : Type 0 where
  -- `starts` has room for the starts of 10 fields and for one after the end of the last
  pub room : length starts ≡ 11
  -- at most 10 fields are cut
  pub few : count ≤ 10
  -- the fields that are cut lie within the line
  pub within : AreStarts line starts count
  -- the next field starts within the line, or at its end
  pub in_line : start_at starts count ≤ length line
  -- the fields that are cut and the parts from the next start on are all fields of the line
  pub all : fields_at line starts count ++ parts_from line (start_at starts count) ≡ fields_of line

-- the first `count` fields of a line are cut, and the next one reaches to `to`: it does not start
-- after `to`, and no tab before `to` ends it
pub record IsCutUpTo (line starts : List ℕ) (count to : ℕ) : Type 0 where
  -- the first `count` fields are cut
  pub cut : IsCut line starts count
  -- the next field does not start after `to`
  pub before : start_at starts count ≤ to
  -- no tab before `to` ends the next field
  pub clear : NoTab line (start_at starts count) to

-- the first `count` fields of a line are cut, and the next one starts among the 64 bytes from
-- `from` on, or before them; `left` has a bit for each tab among these bytes that is not before it
pub record IsCutAmong (line starts : List ℕ) (count from left : ℕ) : Type 0 where
  -- the first `count` fields are cut
  pub cut : IsCut line starts count
  -- the next field does not start after the 64 bytes
  pub before : start_at starts count ≤ from + 64
  -- no tab before the 64 bytes ends the next field
  pub clear : NoTab line (start_at starts count) (from + (start_at starts count - from))
  -- the bits are those of the tabs from the start of the next field on
  pub bits : left ≡ tabs_left line from (start_at starts count) (from + 64)
