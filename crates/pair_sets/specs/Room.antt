-- How many items a leaf reads at most under each choice, if the concepts are known that its types
-- and its test have found.
use Rattle.std.specs.Prelude.{ℕ, ◌≤◌, ◌+◌, Bool, List, Option, Some, None, filter, length, min, sum_by}
use Rattle.postings.specs.Indexed.{Indexed, types_of}
use Rattle.postings.specs.Stats.{type_row_count}
use Rattle.reading.specs.Counted.{full_sum}
use Rattle.candidates.specs.Numbers.{is_one_of}
use Rattle.candidates.specs.RowCounts.{row_count_of}
use Rattle.candidates.specs.declared.candidates.Candidates.{Candidates}
use Rattle.candidates.specs.declared.candidates.Candidates.TheVariants as candidates
use Rattle.set_algebra.specs.declared.choice.Choice.{Choice}
use Rattle.set_algebra.specs.declared.choice.Choice.TheVariants.{ByValue, ByType, Scan}
use Rattle.pair_sets.specs.declared.tested.Tested.{Tested}
use Rattle.pair_sets.specs.declared.tested.Tested.TheVariants as tests

-- how many items a leaf reads by value: the values that pass and their rows; for a test that is not
-- `Within` a set, all rows
abbrev pub value_items : {S : Type 0} → (S → List ℕ) → Indexed → Bool → Tested S → ℕ
value_items items_of indexed back (tests.Within set) =
    length (items_of set) + sum_by (row_count_of indexed back) (items_of set)
value_items items_of indexed back (tests.Outside set) = length indexed.rows
value_items items_of indexed back (tests.Number compare number) = length indexed.rows

-- how many items are read to find the types of rows in the set `types`: its items, or the types of
-- all rows if these are fewer
abbrev pub types_read : Indexed → List ℕ → ℕ
types_read indexed types = min (length types) (length (types_of indexed.rows))

-- how many items a leaf reads by type: what is read to find the types, and the rows of these types
abbrev pub type_items : Indexed → List ℕ → ℕ
type_items indexed types =
    types_read indexed types
    + sum_by (type_row_count indexed)
    (filter (is_one_of indexed.concepts types) (types_of indexed.rows))

-- how many items a leaf reads at most under a choice; if `back`, attributes are read backwards
abbrev pub leaf_items : {S : Type 0} → (S → List ℕ) → Indexed → Bool → Choice → List ℕ → Tested S
    → ℕ
leaf_items items_of indexed back ByValue types test = value_items items_of indexed back test
leaf_items items_of indexed back ByType types test = type_items indexed types
leaf_items items_of indexed back Scan types test = length indexed.rows

-- how many items are read to go through the candidates and the rows of each, as `rows` counts them:
-- all rows if every number is a candidate
abbrev pub candidate_items : {S : Type 0} → (S → List ℕ) → Indexed → (ℕ → ℕ) → Candidates S → ℕ
candidate_items items_of indexed rows candidates.All = length indexed.rows
candidate_items items_of indexed rows (candidates.Within set stats) =
    length (items_of set.now) + sum_by rows (items_of set.now)

-- if the test is `Within` a set and a limit of rows is given, the concepts of the set have at most
-- so many rows
abbrev pub AreTold : {S : Type 0} → (S → List ℕ) → Indexed → Bool → Tested S → Option ℕ → Type 0
AreTold items_of indexed back (tests.Within set) (Some rows) =
    full_sum (row_count_of indexed back) (items_of set) ≤ rows
AreTold items_of indexed back (tests.Within set) None = Unit {0}
AreTold items_of indexed back (tests.Outside set) told = Unit {0}
AreTold items_of indexed back (tests.Number compare number) told = Unit {0}
