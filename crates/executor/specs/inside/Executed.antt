-- What executing a plan or a node promises: how much it counts, even if it fails, and what it
-- finds.
use Rattle.std.specs.Prelude.{ℕ, ◌≡◌, ◌≤◌, ◌+◌, ◌-◌, ◌⊎◌, Bool, List, [], length, min}
use Rattle.release_model.specs.Release.{Release, Value}
use Rattle.idset.specs.declared.concept_set.ConceptSet.{Ghosts}
use Rattle.postings.specs.Groups.{all_groups}
use Rattle.postings.specs.Indexed.{Indexed}
use Rattle.set_algebra.specs.Meaning.{means, group_means, value_passes}
use Rattle.set_algebra.specs.Physical.{Physical, PhysicalTest, PhysicalGroups, logical, logical_test, logical_groups}
use Rattle.reading.specs.Counted.{CountsWithin, IsFound, full}
use Rattle.candidates.specs.Numbers.{numbers_in}
use Rattle.candidates.specs.Within.{groups_within, may_be, numbers_within}
use Rattle.candidates.specs.declared.candidates.Candidates.{Candidates}
use Rattle.candidates.specs.declared.candidates.Candidates.TheVariants as candidates
use Rattle.reading.specs.declared.counter.Counter.{Counter}
use Rattle.pair_sets.specs.Room.{value_items}
use Rattle.pair_sets.specs.Tested.{IsTestBelow, found_for, passes_of}
use Rattle.pair_sets.specs.declared.tested.Tested.{Tested}
use Rattle.pair_sets.specs.declared.tested.Tested.TheVariants as tests
use Rattle.plan_bounds.specs.Bounds.{own_number}
use Rattle.plan_bounds.specs.Counts.{value_rows}
use Rattle.plan_bounds.specs.Floors.{floor_number}
use Rattle.plan_bounds.specs.Nodes.{group_sum, node_sum, test_sum}
use Rattle.plan_bounds.specs.Sizes.{size as size_of, test_size}

-- ---- a plan of concepts
-- executing a plan of concepts counts at most the bound of the plan
abbrev pub CountsPlan : Indexed → Physical → Counter → Counter → Type 0
CountsPlan indexed plan = CountsWithin (node_sum (own_number indexed) plan)

-- the answer has exactly the candidates that a plan of concepts means, and at least the floor of
-- the plan is counted
abbrev pub AnswersPlan : {S : Type 0} → Ghosts S → Release → Indexed → Candidates S → Physical
    → Counter → Counter → S →
    Type 0
AnswersPlan sets release indexed candidates plan =
    IsFound sets (length release.concepts) (numbers_within release (may_be sets.items_of candidates)
    (means release (logical plan)))
    (node_sum (floor_number indexed) plan)

-- the call counts so little that the bound `bound` still allows for reading `items` items, and
-- those of them that a second part finds (at most `second`)
abbrev pub CountsWithRoom : ℕ → ℕ → ℕ → Counter → Counter → Type 0
CountsWithRoom items second bound = CountsWithin (bound - (items + min second items))

-- the answer has exactly the concepts that a plan of concepts means, and at least the floor of the
-- plan is counted
abbrev pub AnswersAll : {S : Type 0} → Ghosts S → Release → Indexed → Physical → Counter → Counter
    → S → Type 0
AnswersAll sets release indexed plan = AnswersPlan sets release indexed candidates.All plan

-- ---- a plan of groups
-- executing a plan of groups counts at most the bound of the plan
abbrev pub CountsGroups : Indexed → PhysicalGroups → Counter → Counter → Type 0
CountsGroups indexed plan = CountsWithin (group_sum (own_number indexed) plan)

-- the answer has exactly the candidates that a plan of groups means, and at least the floor of the
-- plan is counted
abbrev pub AnswersGroups : {S : Type 0} → Ghosts S → Release → Indexed → Candidates S
    → PhysicalGroups → Counter → Counter
    → S → Type 0
AnswersGroups sets release indexed candidates plan =
    IsFound sets (length (all_groups release))
    (groups_within release (may_be sets.items_of candidates)
    (group_means release (logical_groups plan)))
    (group_sum (floor_number indexed) plan)

-- ---- a test of values
-- the set of a test `Within` a set; no concept for any other test
abbrev pub set_items : {S : Type 0} → (S → List ℕ) → Tested S → List ℕ
set_items items_of (tests.Within set) = items_of set
set_items items_of (tests.Outside set) = []
set_items items_of (tests.Number compare number) = []

-- executing the plan of a test counts at most the bound of that plan
abbrev pub CountsTest : Indexed → PhysicalTest → Counter → Counter → Type 0
CountsTest indexed test = CountsWithin (test_sum (own_number indexed) test)

-- executing the operand of a test finds the concepts that it means. `typed` has the types of the
-- leaf; if there are none, no pair matches, and the operand may find none.
pub record FindsOperand {S : Type 0} (sets : Ghosts S) (release : Release) (indexed : Indexed)
    (typed : List ℕ) (operand : Physical)
    (early late : Counter)
    (found : S) : Type 0 where
  -- the concepts are those that the operand means; or there are no types, and none is found
  pub items : (sets.items_of found ≡ numbers_in release (means release (logical operand)))
      ⊎ ((typed ≡ []) × (sets.items_of found ≡ []))
  -- the bound of the set is the number of concepts
  pub bound : sets.bound_of found ≡ length release.concepts
  -- at least the floor of the operand is counted, saturated at 2^64 - 1
  pub floor : full (early.count + node_sum (floor_number indexed) operand) ≤ late.count
  -- the set has at most as many concepts as the size of the operand
  pub size : length (sets.items_of found) ≤ size_of indexed operand

-- executing the plan of a test makes the test `tested` for a leaf with the types `typed`, which
-- passes the same values, unless there are no types; sizes and counts stay within those of the plan
pub record AnswersTest {S : Type 0} (sets : Ghosts S) (release : Release) (indexed : Indexed)
    (typed : List ℕ) (test : PhysicalTest)
    (early late : Counter)
    (tested : Tested S) : Type 0 where
  -- a value passes `tested` exactly if it passes the test of the plan; or there are no types, and
  -- no pair matches
  pub passes : ((value : Value) → passes_of sets.items_of indexed.concepts tested value
      ≡ value_passes release (logical_test test) value)
      ⊎ (typed ≡ [])
  -- the bound of the test's set is the number of concepts
  pub bound : IsTestBelow sets.bound_of (length indexed.concepts) tested
  -- at least the floor of the test's plan is counted, saturated at 2^64 - 1
  pub floor : full (early.count + test_sum (floor_number indexed) test) ≤ late.count
  -- the set of the test has at most as many concepts as the size of its plan
  pub size : found_for sets.items_of tested ≤ test_size indexed test
  -- reading by value reads at most the found concepts, and the rows that the plan's values have at
  -- most
  pub read : (back : Bool) → value_items sets.items_of indexed back tested
      ≤ found_for sets.items_of tested + value_rows indexed back test
