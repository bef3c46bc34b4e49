-- Upper limits of how many rows, groups and list items a set of concepts or groups has. Sums
-- saturate at 2^64 - 1.
use Rattle.std.specs.Prelude.{ℕ, ◌≡◌, ◌<◌, ◌≤◌, ◌+◌, ◌-◌, ◌*◌, false, true, List, Option, Some, None, length, slice_get}
use Rattle.number_lists.specs.KeyedLists.{list_of}
use Rattle.ancestor_index.specs.HierarchyLists.{Hierarchy}
use Rattle.postings.specs.Groups.{ConceptGroup, groups_before, groups_in, rows_of_group}
use Rattle.postings.specs.Indexed.{Indexed}
use Rattle.reading.specs.Counted.{CountsWithin, full_sum}
use Rattle.reading.specs.declared.counter.Counter.{Counter}
use Rattle.candidates.specs.RowCounts.{row_count_of}
use Rattle.candidates.specs.declared.candidates.CandidateStats.{CandidateStats}
use Rattle.candidates.specs.declared.candidates.ListStats.{ListStats}

-- the length of the list of `concept` in `lists`, which has one list for each concept
abbrev pub list_length_in : List (List ℕ) → ℕ → ℕ
list_length_in lists concept = length (list_of lists concept)

-- how many groups the concept with the number `concept` has
abbrev pub group_count_of : Indexed → ℕ → ℕ
group_count_of indexed concept =
    length (groups_before indexed (concept + 1)) - length (groups_before indexed concept)

-- how many rows a group has; 0 if there is no group
abbrev pub rows_in_group : Indexed → Option ConceptGroup → ℕ
rows_in_group indexed (Some group) = length (rows_of_group indexed group)
rows_in_group indexed None = 0

-- how many rows the group with the number `number` has; 0 if there is no such group
abbrev pub group_row_count : Indexed → ℕ → ℕ
group_row_count indexed number = rows_in_group indexed (slice_get (groups_in indexed) number)

-- what is read from `early` to `late` to find the statistics of a set of `items` numbers from which
-- MINUS takes another set. `sizes` has the sizes of the two parts of MINUS
pub record IsReadToTake (items : ℕ) (sizes : ℕ × ℕ) (early late : Counter) : Type 0 where
  -- the set is read at most once
  pub once : CountsWithin items early late
  -- nothing is read if three times `items` is above the sum of `sizes`
  pub none : sizes.0 + sizes.1 < items * 3 → late.count ≡ early.count

-- `lists` has upper limits: of each kind, the lists of `concepts` in `hierarchy` have together at
-- most so many items
pub record AreListed (hierarchy : Hierarchy) (concepts : List ℕ) (lists : ListStats) : Type 0 where
  -- the lists of ancestors have at most `lists.ancestors` items
  pub ancestors : full_sum (list_length_in hierarchy.ancestors) concepts ≤ lists.ancestors
  -- the lists of descendants have at most `lists.descendants` items
  pub descendants : full_sum (list_length_in hierarchy.descendants) concepts ≤ lists.descendants
  -- the lists of parents have at most `lists.parents` items
  pub parents : full_sum (list_length_in hierarchy.parents) concepts ≤ lists.parents
  -- the lists of children have at most `lists.children` items
  pub children : full_sum (list_length_in hierarchy.children) concepts ≤ lists.children

-- `stats` has upper limits for `concepts`: how many they are, and how many rows, groups and list
-- items they have
pub record IsStatsOf (indexed : Indexed) (concepts : List ℕ) (stats : CandidateStats) : Type 0 where
  -- there are at most `stats.items` concepts
  pub items : length concepts ≤ stats.items
  -- at most `stats.rows` rows have one of the concepts as their source
  pub rows : full_sum (row_count_of indexed true) concepts ≤ stats.rows
  -- at most `stats.back_rows` rows have one of the concepts as their value
  pub back_rows : full_sum (row_count_of indexed false) concepts ≤ stats.back_rows
  -- the concepts have at most `stats.groups` groups
  pub groups : full_sum (group_count_of indexed) concepts ≤ stats.groups
  -- the lists of the concepts in the hierarchy have at most as many items as `stats.lists` says
  pub lists : AreListed indexed.hierarchy concepts stats.lists

-- `stats` has upper limits for `groups`: how many they are, and how many rows they have
pub record IsGroupStatsOf (indexed : Indexed) (groups : List ℕ) (stats : CandidateStats) : Type 0
  where
    -- there are at most `stats.items` groups
    pub items : length groups ≤ stats.items
    -- the groups have at most `stats.rows` rows
    pub rows : full_sum (group_row_count indexed) groups ≤ stats.rows
