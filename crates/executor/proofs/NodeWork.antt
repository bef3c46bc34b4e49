-- What is counted of a node, and what it finds, from what is counted and found of its parts. What the code borrows
-- from a plan tells which kind of node the plan is.
use Rattle.std.proofs.Common.{Err, Ok, Bool, Box, ℕ, ◌+◌, ◌-◌, ◌^◌, ◌≡◌, ◌≤◌}
use Rattle.std.proofs.Common.{◌∙◌, [], List, length, min, refl, sym}
use Rattle.std.proofs.Common.{ap, subst, arith, inl, inr, ⊎_elim}
use Rattle.std.specs.Prelude.{IfOk, Result, ◌⊎◌, sum_by}
use Rattle.std.specs.List.Sorted.{IsStrictlyIncreasing}
use Rattle.std.specs.declared.alloc.Global.{Global}
use Rattle.constraint_tree.specs.declared.operator.Cardinality.{Cardinality}
use Rattle.constraint_tree.specs.declared.operator.Operator.{Operator}
use Rattle.number_lists.specs.Rising.{IsRisingBelow}
use Rattle.postings.specs.Indexed.{Indexed, IsIndexOf}
use Rattle.set_algebra.specs.declared.plan.ConceptPlan.{ConceptPlan}
use Rattle.set_algebra.specs.declared.plan.ConceptPlan.TheVariants as concept_plan
use Rattle.set_algebra.specs.declared.plan.UnitPlan.{UnitPlan}
use Rattle.set_algebra.specs.declared.plan.ValueTest.{ValueTest}
use Rattle.set_algebra.specs.declared.plan.ValueTest.TheVariants as value_test
use Rattle.set_algebra.specs.Meaning.{has_pairs}
use Rattle.set_algebra.specs.Physical.{Physical, PhysicalTest, PhysicalGroups, logical, physical_members}
use Rattle.set_algebra.specs.Physical.{physical_of}
use Rattle.set_algebra.specs.Physical.{physical_outside, physical_test_of, physical_groups_list_of}
use Rattle.set_algebra.specs.Physical.{physical_walk}
use Rattle.set_algebra.specs.Physical.{physical_within, physicals_of}
use Rattle.set_algebra.specs.Plan.{outside_plan, within_plan}
use Rattle.plan_bounds.specs.Bounds.{capped, own_number}
use Rattle.plan_bounds.specs.Counts.{value_rows}
use Rattle.plan_bounds.specs.Floors.{floor_number}
use Rattle.plan_bounds.specs.Nodes.{groups_sum, node_sum, plans_sum, test_sum}
use Rattle.plan_bounds.specs.Sizes.{size}
use Rattle.plan_bounds.proofs.FloorLemmas.{floor-le-bound}
use Rattle.release_model.specs.Pairs.{Pair}
use Rattle.release_model.specs.Release.{Release, Value}
use Rattle.candidates.specs.Numbers.{is_one_of}
use Rattle.candidates.specs.RowCounts.{row_count_of}
use Rattle.idset.specs.declared.concept_set.ConceptSet.{Ghosts}
use Rattle.candidates.specs.declared.candidates.Candidates.{Candidates}
use Rattle.reading.specs.declared.counter.Counter.{Counter}
use Rattle.pair_sets.specs.declared.tested.Tested.TheVariants as tests
use Rattle.executor.proofs.LeafWork.{values_read}
use Rattle.executor.proofs.NodeLemmas.{outside_passes, within_passes}
use Rattle.reading.specs.Counted.{CountsWithin, HandsOut, IsFound, full}
use Rattle.reading.proofs.CountLemmas.{counted_thrice}
use Rattle.executor.specs.inside.Executed.{AnswersPlan, AnswersTest, AnswersGroups, CountsPlan, CountsTest}
use Rattle.executor.specs.inside.Executed.{CountsWithRoom, CountsGroups, FindsOperand}

-- ---- nodes of one part: which node a plan is
-- a `Walk` node is the physical walk of its operator and operand
pub walk_is : (operator : Operator) (operand : Box ConceptPlan Global) {plan from : ConceptPlan}
    → plan ≡ concept_plan.Walk operator operand → from ≡ operand.value
    → physical_of plan ≡ physical_walk operator (physical_of from)
walk_is operator operand is from_is =
    ap physical_of is ∙ ap (λ (from : ConceptPlan). physical_walk operator (physical_of from)) (sym from_is)

-- a `Members` node is the physical node of its operand
pub members_are : (operand : Box ConceptPlan Global) {plan from : ConceptPlan}
    → plan ≡ concept_plan.Members operand → from ≡ operand.value → physical_of plan
    ≡ physical_members (physical_of from)
members_are operand is from_is = ap physical_of is ∙ ap (λ (from : ConceptPlan). physical_members (physical_of from))
    (sym from_is)

-- a test within a plan is the physical test within it
pub test_within : (operand : Box ConceptPlan Global) {test : ValueTest} {lent : ConceptPlan}
    → test ≡ value_test.Within operand → lent ≡ operand.value → physical_test_of test
    ≡ physical_within (physical_of lent)
test_within operand is lent_is =
    ap physical_test_of is ∙ ap (λ (lent : ConceptPlan). physical_within (physical_of lent)) (sym lent_is)

-- a test outside a plan is the physical test outside it
pub test_outside : (operand : Box ConceptPlan Global) {test : ValueTest} {lent : ConceptPlan}
    → test ≡ value_test.Outside operand → lent ≡ operand.value → physical_test_of test
    ≡ physical_outside (physical_of lent)
test_outside operand is lent_is =
    ap physical_test_of is ∙ ap (λ (lent : ConceptPlan). physical_outside (physical_of lent)) (sym lent_is)

-- ---- what holds of a node holds of the plan that the node is
module _ (indexed : Indexed) {early late : Counter} where
  -- what is within the bound of a node of concepts is within the bound of the plan that the node is
  pub plan_counts : {plan node : Physical} → plan ≡ node → CountsPlan indexed node early late → CountsPlan indexed plan
      early late
  plan_counts is = subst (λ (plan : Physical). CountsPlan indexed plan early late) (sym is)

  -- what is within the bound of a node of groups is within the bound of the plan that the node is
  pub groups_count : {plan node : PhysicalGroups} → plan ≡ node → CountsGroups indexed node early late → CountsGroups
      indexed plan early late
  groups_count is = subst (λ (plan : PhysicalGroups). CountsGroups indexed plan early late) (sym is)

  -- what is within the bound of a test is within the bound of the test that it is equal to
  pub test_counts : {test node : PhysicalTest} → test ≡ node → CountsTest indexed node early late → CountsTest indexed
      test early late
  test_counts is = subst (λ (test : PhysicalTest). CountsTest indexed test early late) (sym is)

-- if the floor of a plan of concepts is all that is counted, it is within the bound of the plan
pub floor_counted : (indexed : Indexed) (plan : Physical) {early late : Counter} {counted : ℕ}
    → counted ≡ capped (node_sum (floor_number indexed) plan) → late.count ≡ full (early.count + counted)
    → early.count ≤ late.count → CountsPlan indexed plan early late
floor_counted indexed plan is adds grows = record {
  grows = grows;
  within = omega (arith, is, adds, floor-le-bound indexed plan);
}

module _ {S E : Type 0} (sets : Ghosts S) (release : Release) (indexed : Indexed) (candidates : Candidates S)
    (early late : Counter)
    (result : Result S E) where
  -- an answer to a node of concepts is an answer to the plan that the node is
  pub plan_answers : {plan node : Physical} → plan ≡ node
      → IfOk result (AnswersPlan sets release indexed candidates node early late)
      → IfOk result (AnswersPlan sets release indexed candidates plan early late)
  plan_answers is = subst
      (λ (plan : Physical). IfOk result (AnswersPlan sets release indexed candidates plan early late)) (sym is)

  -- an answer to a node of groups is an answer to the plan that the node is
  pub groups_answer : {plan node : PhysicalGroups} → plan ≡ node
      → IfOk result (AnswersGroups sets release indexed candidates node early late)
      → IfOk result (AnswersGroups sets release indexed candidates plan early late)
  groups_answer is = subst
      (λ (plan : PhysicalGroups). IfOk result (AnswersGroups sets release indexed candidates plan early late)) (sym is)

-- ---- what a test answers, by the set that its plan has found
module _ {S : Type 0} (sets : Ghosts S) (release : Release) (indexed : Indexed) (index : IsIndexOf indexed release)
    (rising : IsStrictlyIncreasing release.concepts) (typed : List ℕ) (plan : Physical)
    {early late : Counter} {found : S}
    (is : FindsOperand sets release indexed typed plan early late found)
    (rises : IsRisingBelow (length release.concepts) (sets.items_of found)) {test : PhysicalTest} where
  -- the set that a plan has found, as a test within it, answers the test within the plan
  pub answers_within : test ≡ physical_within plan → AnswersTest sets release indexed typed test early late
      (tests.Within found)
  answers_within test_is =
      subst (λ (test : PhysicalTest). AnswersTest sets release indexed typed test early late (tests.Within found))
      (sym test_is)
      (record {
        passes = ⊎_elim
            (λ items. inl (within_passes release (logical plan) indexed.concepts (sets.items_of found)
            (within_plan (logical plan)) refl
            index.concepts items))
            (λ none. inr none.0) is.items;
        bound = is.bound ∙ ap (λ (ids : List ℕ). length ids) (sym index.concepts);
        floor = is.floor;
        size = is.size;
        read = λ back. ⊎_elim
            (λ items. let rows = values_read release indexed index rising (sets.items_of found) (size indexed plan)
            is.size back rises plan items in
            omega (arith, rows))
            (λ none. subst (λ (items : List ℕ). length items + sum_by (row_count_of indexed back) items
            ≤ length items + value_rows indexed back (physical_within plan)) (sym none.1) (omega arith)) is.items;
      })

  -- the set that a plan has found, as a test outside it, answers the test outside the plan
  pub answers_outside : test ≡ physical_outside plan → AnswersTest sets release indexed typed test early late
      (tests.Outside found)
  answers_outside test_is =
      subst (λ (test : PhysicalTest). AnswersTest sets release indexed typed test early late (tests.Outside found))
      (sym test_is)
      (record {
        passes = ⊎_elim
            (λ items. inl (outside_passes release (logical plan) indexed.concepts (sets.items_of found)
            (outside_plan (logical plan)) refl
            index.concepts items))
            (λ none. inr none.0) is.items;
        bound = is.bound ∙ ap (λ (ids : List ℕ). length ids) (sym index.concepts);
        floor = is.floor;
        size = is.size;
        read = λ back. omega arith;
      })

-- the pairs of a leaf with the types `typed` match by the test that was made for it as by the test of its plan;
-- without a type none matches by either
pub pairs_alike : (concepts typed : List ℕ) (count : Cardinality) (made passes : Value → Bool)
    → ((value : Value) → made value ≡ passes value) ⊎ (typed ≡ []) → (pairs : List Pair)
    → has_pairs count (is_one_of concepts typed) made pairs
    ≡ has_pairs count (is_one_of concepts typed) passes pairs
pairs_alike concepts typed count made passes (inl same) pairs =
    λ i. has_pairs count (is_one_of concepts typed) (λ value. same value i) pairs
pairs_alike concepts typed count made passes (inr none) pairs =
    (λ i. has_pairs count (is_one_of concepts (none i)) made pairs)
    ∙ (λ i. has_pairs count (is_one_of concepts (sym none i)) passes pairs)

-- a node without parts that counts nothing finds what its set has, if its floor is 0
pub leaf_found : {S E : Type 0} (sets : Ghosts S) (visits : Counter) (result : Result S E) (below : ℕ)
    {least : ℕ} {numbers : List ℕ} {own : List ℕ → Type 0}
    → least ≡ 0 → ((found : List ℕ) → own found → found ≡ numbers)
    → IfOk result (λ found. own (sets.items_of found)) → IfOk result (λ found. sets.bound_of found ≡ below)
    → IfOk result (IsFound sets below numbers least visits visits)
leaf_found sets visits (Ok found) below none next items bound =
    record { items = next (sets.items_of found) items; bound = bound; floor = omega (arith, none) }
leaf_found sets visits (Err error) below none next items bound = tt

-- the floor of no parts of concepts is 0, so any counter has reached it
pub no_floor : (indexed : Indexed) {parts : List ConceptPlan} (before : ℕ) → parts ≡ []
    → min (before + plans_sum (floor_number indexed) (physicals_of parts)) (2 ^ 64 - 1) ≤ before
no_floor indexed before none =
    omega (arith, ap (λ (parts : List ConceptPlan). plans_sum (floor_number indexed) (physicals_of parts)) none)

-- the floor of no parts of groups is 0, so any counter has reached it
pub no_floor_of_groups : (indexed : Indexed) {parts : List UnitPlan} (before : ℕ) → parts ≡ []
    → min (before + groups_sum (floor_number indexed) (physical_groups_list_of parts)) (2 ^ 64 - 1) ≤ before
no_floor_of_groups indexed before none =
    omega (
      arith,
      ap (λ (parts : List UnitPlan). groups_sum (floor_number indexed) (physical_groups_list_of parts))
          none,
    )

-- ---- a leaf: its types, and its test
module _ (indexed : Indexed) (types : Physical) (test : PhysicalTest) where
  -- a leaf counts at most its own bound and those of its types and its test, which are executed before it
  pub leaf_reads : {early typed tested late : Counter} {most own : ℕ} → CountsPlan indexed types early typed
      → CountsTest indexed test typed tested → most ≤ own → CountsWithin most tested late
      → CountsWithin (own + (node_sum (own_number indexed) types + test_sum (own_number indexed) test)) early late
  leaf_reads one other room read = counted_thrice one other read (omega (arith, room))

  -- a leaf, its types and its test together count at least their floors
  pub leaf_floor : (before : ℕ) {typed tested after least own : ℕ}
      → min (before + node_sum (floor_number indexed) types) (2 ^ 64 - 1) ≤ typed
      → min (typed + test_sum (floor_number indexed) test) (2 ^ 64 - 1) ≤ tested
      → least ≡ own → min (tested + least) (2 ^ 64 - 1) ≤ after
      → min (before + (own + (node_sum (floor_number indexed) types + test_sum (floor_number indexed) test)))
      (2 ^ 64 - 1) ≤ after
  leaf_floor before one other same read = omega (arith, one, other, same, read)

-- a difference counts at most the bounds of both parts and its own bound, which has room for what both found
pub counted_minus : {first second left right most own all : ℕ} {early one two three late : Counter}
    → CountsWithin first early one → CountsWithRoom left most own one two → CountsWithin second two three
    → HandsOut (left + right) three late → right ≤ left → right ≤ most → left + min most left ≤ own
    → (first + own) + second ≤ all → CountsWithin all early late
counted_minus counted_first beside counted_second read few small room execute_and = record {
  grows = omega (arith, counted_first.grows, beside.grows, counted_second.grows, read.grows);
  within = omega (
    arith,
    counted_first.within,
    beside.within,
    counted_second.within,
    read.count,
    few,
    small,
    room,
    execute_and,
  );
}
