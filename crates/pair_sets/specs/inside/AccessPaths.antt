-- The access paths of a leaf, which all find the same concepts or groups, and how many items each
-- reads.
use Rattle.std.specs.Prelude.{ℕ, ◌≡◌, ◌+◌, ◌≤◌, Bool, true, List, Option, None, Some, filter, length, sum_by}
use Rattle.release_model.specs.Release.{Value}
use Rattle.constraint_tree.specs.Passing.{is_within}
use Rattle.number_lists.specs.Rising.{IsRisingBelow}
use Rattle.postings.specs.Indexed.{Indexed, types_of}
use Rattle.postings.specs.Stats.{type_row_count}
use Rattle.reading.specs.Counted.{full, full_sum}
use Rattle.candidates.specs.Numbers.{is_one_of}
use Rattle.candidates.specs.RowCounts.{stats_items, row_count_of}
use Rattle.candidates.specs.declared.candidates.Candidates.{Candidates}
use Rattle.candidates.specs.declared.candidates.Candidates.TheVariants as candidates
use Rattle.candidates.specs.declared.candidates.CandidateStats.{CandidateStats}
use Rattle.reading.specs.declared.counter.Counter.{Counter}
use Rattle.pair_sets.specs.Tested.{IsTestBelow, passes_of}
use Rattle.pair_sets.specs.declared.tested.Tested.{Tested}
use Rattle.pair_sets.specs.declared.tested.Tested.TheVariants as tests
use Rattle.pair_sets.specs.declared.access_paths.PassingValues.{PassingValues}
use Rattle.pair_sets.specs.declared.choice.ValuesPath.{ValuesPath}
use Rattle.pair_sets.specs.declared.choice.ValuesPath.TheVariants as along
use Rattle.pair_sets.specs.declared.access_paths.AccessPath.{AccessPath}
use Rattle.pair_sets.specs.declared.access_paths.AccessPath.TheVariants as access_paths

-- `numbers` has exactly the values that pass, all of which are concepts
pub record AreAllThatPass (concepts : List ℕ) (passes : Value → Bool) (numbers : List ℕ) : Type 0
  where
    -- the numbers rise and are below the number of concepts
    pub rising : IsRisingBelow (length concepts) numbers
    -- a value passes exactly if it is one of these concepts
    pub told : (value : Value) → is_within (is_one_of concepts numbers) value ≡ passes value

-- whether a value passes on an access path: for `ByValue`, whether its rows are read
abbrev pub passes_by : {S : Type 0} → (S → List ℕ) → List ℕ → AccessPath S → Value → Bool
passes_by items_of concepts (access_paths.ByCandidates test) value =
    passes_of items_of concepts test value
passes_by items_of concepts (access_paths.ByValue values) value =
    is_within (is_one_of concepts values.items) value
passes_by items_of concepts (access_paths.ByType ids test) value =
    passes_of items_of concepts test value
passes_by items_of concepts (access_paths.Scan test) value = passes_of items_of concepts test value

-- the set of the test, or the numbers of `ByValue`, are below `count`
abbrev pub IsPathBelow : {S : Type 0} → (S → ℕ) → ℕ → AccessPath S → Type 0
IsPathBelow bound_of count (access_paths.ByCandidates test) = IsTestBelow bound_of count test
IsPathBelow bound_of count (access_paths.ByValue values) = IsRisingBelow count values.items
IsPathBelow bound_of count (access_paths.ByType ids test) = IsTestBelow bound_of count test
IsPathBelow bound_of count (access_paths.Scan test) = IsTestBelow bound_of count test

-- a path `ByType` reads the rows of exactly the types that pass `one`
abbrev pub HasTypes : {S : Type 0} → List ℕ → (ℕ → Bool) → AccessPath S → Type 0
HasTypes types one (access_paths.ByCandidates test) = Unit {0}
HasTypes types one (access_paths.ByValue values) = Unit {0}
HasTypes types one (access_paths.ByType ids test) = ids.items ≡ filter one types
HasTypes types one (access_paths.Scan test) = Unit {0}

-- `path` finds exactly the pairs whose type passes `one` and whose value passes `test`
pub record IsPathFor {S : Type 0} (items_of : S → List ℕ) (bound_of : S → ℕ) (indexed : Indexed)
    (one : ℕ → Bool) (test : Tested S)
    (path : AccessPath S) : Type 0 where
  -- the set of the path's test, or its numbers, are below the number of concepts
  pub below : IsPathBelow bound_of (length indexed.concepts) path
  -- a path `ByType` reads the types that pass `one`
  pub types : HasTypes (types_of indexed.rows) one path
  -- a value passes on this path exactly if it passes `test`
  pub passes : (value : Value) → passes_by items_of indexed.concepts path value
      ≡ passes_of items_of indexed.concepts test value

-- how many items reading `values` and their rows takes
abbrev pub items_by_value : Indexed → Bool → List ℕ → ℕ
items_by_value indexed back values = length values + sum_by (row_count_of indexed back) values

-- how many items are still to be read after a path is chosen: its rows, and the candidates for
-- `ByCandidates`
abbrev pub rest_items : {S : Type 0} → Indexed → Bool → Option CandidateStats → AccessPath S → ℕ
rest_items indexed back candidates (access_paths.ByCandidates test) = stats_items candidates
rest_items indexed back candidates (access_paths.ByValue values) =
    sum_by (row_count_of indexed back) values.items
rest_items indexed back candidates (access_paths.ByType ids test) =
    sum_by (type_row_count indexed) ids.items
rest_items indexed back candidates (access_paths.Scan test) = length indexed.rows

-- from `early` to `late`, a call counts so little that `rest` more items may be read if `most` may
-- be counted altogether
pub record LeavesRoom (rest most : ℕ) (early late : Counter) : Type 0 where
  -- the counter does not fall
  pub grows : early.count ≤ late.count
  -- what was counted and `rest` items are together at most `most`
  pub room : full (late.count + rest) ≤ early.count + most

-- how many candidates are listed and counted; 0 if every number is a candidate
abbrev pub candidates_listed : {S : Type 0} → (S → List ℕ) → Candidates S → ℕ
candidates_listed items_of candidates.All = 0
candidates_listed items_of (candidates.Within set stats) = length (items_of set.now)

-- `numbers` has the candidates; true if every number is a candidate
abbrev pub AreListedFor : {S : Type 0} → (S → List ℕ) → Candidates S → List ℕ → Type 0
AreListedFor items_of candidates.All numbers = Unit {0}
AreListedFor items_of (candidates.Within set stats) numbers = numbers ≡ items_of set.now

-- the values that are looked up are the concepts of a test `Within` a set, with the count of their
-- rows; none for any other test
abbrev pub AreLookedUp : {S : Type 0} → (S → List ℕ) → Indexed → Bool → Tested S
    → Option PassingValues → Type 0
AreLookedUp items_of indexed back (tests.Within set) (Some values) =
    (values.numbers.items ≡ items_of set)
    × (values.rows ≡ full_sum (row_count_of indexed back) (items_of set))
AreLookedUp items_of indexed back (tests.Within set) None = ⊥
AreLookedUp items_of indexed back (tests.Outside set) (Some values) = ⊥
AreLookedUp items_of indexed back (tests.Outside set) None = Unit {0}
AreLookedUp items_of indexed back (tests.Number compare number) (Some values) = ⊥
AreLookedUp items_of indexed back (tests.Number compare number) None = Unit {0}

-- how many values are looked up for a test: the concepts of a set that it is `Within`
abbrev pub looked_up : {S : Type 0} → (S → List ℕ) → Tested S → ℕ
looked_up items_of (tests.Within set) = length (items_of set)
looked_up items_of (tests.Outside set) = 0
looked_up items_of (tests.Number compare number) = 0

-- how many rows are still to be read: those of the values, or `others` if no values were found
abbrev pub rest_besides : Indexed → Bool → ℕ → Option PassingValues → ℕ
rest_besides indexed back others (Some values) =
    sum_by (row_count_of indexed back) values.numbers.items
rest_besides indexed back others None = others

-- the path reads the rows of all `sources`, or the rows of all types that pass `one`
abbrev pub IsValuesPath : List ℕ → List ℕ → (ℕ → Bool) → ValuesPath → Type 0
IsValuesPath types sources one (along.BySource own) = own.items ≡ sources
IsValuesPath types sources one (along.ByType ids) = ids.items ≡ filter one types

-- how many rows are still to be read on a path: those of its sources, or those of its types
abbrev pub values_rest : Indexed → ValuesPath → ℕ
values_rest indexed (along.BySource own) = sum_by (row_count_of indexed true) own.items
values_rest indexed (along.ByType ids) = sum_by (type_row_count indexed) ids.items
