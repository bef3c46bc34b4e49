-- What the columns of a list of rows hold. Each column has one cell for each row, in the order of
-- the list.
use Rattle.std.specs.Prelude.{ℕ, ◌≡◌, ◌<◌, Bool, All, List, Some, length, map, slice_get, slice_index}
use Rattle.release_model.specs.Release.{Value}
use Rattle.postings.specs.Entries.{Entry}
use Rattle.postings.specs.Groups.{ConceptGroup, group_of}
use Rattle.postings.specs.Indexed.{value_at}

-- a number and a flag: whether the row to which the cell belongs is the first with its pair
pub record Flagged : Type 0 where
  -- the number of the row's source or of its group
  pub number : ℕ
  -- whether the row is the first with its pair
  pub is_first : Bool

-- `marks` is the column of sources of `entries`: for each row the number of its source in
-- `concepts`, and whether the row is the first with its pair in its source
pub record AreSources (concepts : List ℕ) (entries : List Entry) (marks : List Flagged) : Type 0
  where
    -- each number is one of a concept
    pub within : All (λ (mark : Flagged). mark.number < length concepts) marks
    -- the concept with each number is the source of the row
    pub sources : map (λ (mark : Flagged). slice_index concepts mark.number) marks
        ≡ map (λ (entry : Entry). entry.row.source) entries
    -- the flags say which rows are the first with their pair in their concept
    pub firsts : map (λ (mark : Flagged). mark.is_first) marks
        ≡ map (λ (entry : Entry). entry.is_first) entries

-- `marks` is the column of groups of `entries`: for each row the number of its group in the list
-- `all` of groups, and whether the row is the first with its pair in its group
pub record AreGroups (all : List ConceptGroup) (entries : List Entry) (marks : List Flagged) : Type
    0 where
  -- the group with each number is the group of the row
  pub groups : map (λ (mark : Flagged). slice_get all mark.number) marks
      ≡ map (λ (entry : Entry). Some (group_of entry.row)) entries
  -- the flags say which rows are the first with their pair in their group
  pub firsts : map (λ (mark : Flagged). mark.is_first) marks
      ≡ map (λ (entry : Entry). entry.is_first_in_group) entries

-- `numbers` is the column of values of `entries`: for each row the number of its value in the list
-- `all` of values
pub record AreValues (all : List Value) (entries : List Entry) (numbers : List ℕ) : Type 0 where
  -- each number is below the number of values
  pub within : All (λ number. number < length all) numbers
  -- the value with each number is the value of the row
  pub values : map (value_at all) numbers ≡ map (λ (entry : Entry). entry.row.value) entries

-- `places` is the column of types of `entries`: for each row the place of its type in the list
-- `all` of types
pub record AreTypes (all : List ℕ) (entries : List Entry) (places : List ℕ) : Type 0 where
  -- each place is below the number of types
  pub within : All (λ place. place < length all) places
  -- the type at each place is the type of the row
  pub types : map (slice_index all) places ≡ map (λ (entry : Entry). entry.row.type_id) entries
