-- Answers of the leaves, which count pairs, and of their tests.
use Rattle.std.proofs.Common.{subst, ℕ, List, ◌≡◌, ◌≤◌, ◌∙◌, Bool, false}
use Rattle.std.proofs.Common.{ap, inl, inr, length, refl, sym, arith}
use Rattle.std.proofs.lemmas.List.{nil_from_length}
use Rattle.set_algebra.specs.Meaning.{group_means, has_pairs, means, pairs_of, value_passes}
use Rattle.candidates.specs.Numbers.{is_one_of, numbers_in}
use Rattle.set_algebra.specs.Plan.{Plan, PlanOfGroups, pairs_plan, pairs_group_plan}
use Rattle.set_algebra.specs.Physical.{physical_of, physical_test_of}
use Rattle.executor.specs.inside.Logical.{logical_of, logical_test_of}
use Rattle.number_lists.specs.Rising.{IsRisingBelow}
use Rattle.candidates.specs.Groups.{groups_where}
use Rattle.candidates.specs.Within.{groups_within, may_be, numbers_within}
use Rattle.executor.proofs.LeafWork.{leaf_room}
use Rattle.release_model.specs.Pairs.{Pair}
use Rattle.candidates.specs.RowEstimates.{Adds}
use Rattle.candidates.proofs.AddsLemmas.{adds_none}
use Rattle.pair_sets.specs.Tested.{passes_of}
use Rattle.plan_bounds.specs.Bounds.{leaf_bound_at}
use Rattle.executor.proofs.GroupNodeLemmas as groups
use Rattle.executor.proofs.NodeLemmas.{pairs_node}
use Rattle.executor.proofs.NodeWork.{answers_outside, answers_within}
use Rattle.executor.proofs.NodeWork.{floor_counted, leaf_floor, leaf_reads, pairs_alike}
use Rattle.executor.proofs.NodeWork.{test_outside}
use Rattle.executor.proofs.NodeWork.{test_within}
use Rattle.executor.proofs.WithinNodes.{groups_same}
use Rattle.executor.proofs.WithinNodes.{within_same}
use Rattle.executor.proofs.+execute.Goals as goal

-- without a type, no concept is found for the operand, and its floor is counted
pub execute_operand-returns-then-count-eq0-clause-found :
    goal.plans::execute_operand-returns-then-count-eq0-clause-found
execute_operand-returns-then-count-eq0-clause-found g t c = record {
  items = inr (
    nil_from_length (g.S.ConceptSet.items_of c.args.typed.now) (sym c.count-count.ensures ∙ c.if-count-eq0.true),
    c.in_ok-none.ensures.items,
  );
  bound = c.in_ok-none.ensures.bound;
  floor = omega (arith, (rw c.lengths.ensures at c.plan_floor.ensures), c.add.ensures.count);
  size = omega (arith, ap (λ (items : List ℕ). length items) c.in_ok-none.ensures.items);
}

-- without a type, the floor that is counted is within the bound of the operand
pub execute_operand-returns-then-count-eq0-clause-counted :
    goal.plans::execute_operand-returns-then-count-eq0-clause-counted
execute_operand-returns-then-count-eq0-clause-counted g t c =
    floor_counted c.args.reader.indexes.now (physical_of c.args.operand.now)
    (rw c.lengths.ensures at c.plan_floor.ensures) c.add.ensures.count c.add.ensures.grows

-- without a type, no concept adds no row
pub execute_operand-returns-then-count-eq0-clause-adds :
    goal.plans::execute_operand-returns-then-count-eq0-clause-adds
execute_operand-returns-then-count-eq0-clause-adds g t c =
    subst (λ (items : List ℕ). Adds items c.args.estimate.now c.args.estimate.now) (sym c.in_ok-none.ensures.items)
    (adds_none c.args.estimate.now)

-- if memory is refused for the empty set, the floor that is counted is within the bound of the operand
pub execute_operand-returns-in_err-none-clause-counted :
    goal.plans::execute_operand-returns-in_err-none-clause-counted
execute_operand-returns-in_err-none-clause-counted g t c =
    floor_counted c.args.reader.indexes.now (physical_of c.args.operand.now)
    (rw c.lengths.ensures at c.plan_floor.ensures) c.add.ensures.count c.add.ensures.grows

-- with a type, the concepts that are found are those that the operand means
pub execute_operand-returns-clause-found : goal.plans::execute_operand-returns-clause-found
execute_operand-returns-clause-found g t c = record {
  items = inl c.in_ok-found.ensures.found.items;
  bound = c.in_ok-found.ensures.found.bound;
  floor = c.in_ok-found.ensures.found.floor;
  size = c.in_ok-found.ensures.size;
}

-- the set that the plan has found makes the test that is within it
pub tested_of-returns-in_ok-set-in-Within-clause-tested :
    goal.plans::tested_of-returns-in_ok-set-in-Within-clause-tested
tested_of-returns-in_ok-set-in-Within-clause-tested g t c =
    let found = c.in_ok-set-in-Within.set in
    let items = g.S.ConceptSet.items_of found in
    answers_within g.S.ConceptSet c.args.reader.snapshot.now.release c.args.reader.indexes.now c.args.reader.index
    c.concept_count.ensures.rising (g.S.ConceptSet.items_of c.args.typed.now)
    (physical_of c.deref.result.now) c.in_ok-set-in-Within.ensures.found
    (subst (λ (bound : ℕ). IsRisingBelow bound items) c.in_ok-set-in-Within.ensures.found.bound
    (g.met.S.ConceptSet.rising found))
    (test_within c.in-Within.operand c.in-Within.is c.deref.ensures)

-- the set that the plan has found makes the test that is outside it
pub tested_of-returns-in_ok-set-in-Outside-clause-tested :
    goal.plans::tested_of-returns-in_ok-set-in-Outside-clause-tested
tested_of-returns-in_ok-set-in-Outside-clause-tested g t c =
    let found = c.in_ok-set-in-Outside.set in
    let items = g.S.ConceptSet.items_of found in
    answers_outside g.S.ConceptSet c.args.reader.snapshot.now.release c.args.reader.indexes.now c.args.reader.index
    c.concept_count.ensures.rising (g.S.ConceptSet.items_of c.args.typed.now)
    (physical_of c.deref-in-Outside.result.now) c.in_ok-set-in-Outside.ensures.found
    (subst (λ (bound : ℕ). IsRisingBelow bound items) c.in_ok-set-in-Outside.ensures.found.bound
    (g.met.S.ConceptSet.rising found))
    (test_outside c.in-Outside.operand c.in-Outside.is c.deref-in-Outside.ensures)

-- the candidates with a number of pairs in the cardinality are what the leaf of concepts means among them
pub pairs_within-returns-clause-found : goal.plans::pairs_within-returns-clause-found
pairs_within-returns-clause-found g t c =
    let release = c.args.reader.snapshot.now.release in
    let may : ℕ → Bool = may_be g.S.ConceptSet.items_of c.args.candidates.now in
    let passes = value_passes release (logical_test_of c.args.leaf.test.now) in
    let one : ℕ → Bool = is_one_of c.args.reader.indexes.now.concepts (g.S.ConceptSet.items_of c.in_ok-typed.typed) in
    let alike : (pairs : List Pair) → has_pairs c.args.leaf.count one
    (passes_of g.S.ConceptSet.items_of c.args.reader.indexes.now.concepts c.in_ok-tested.tested) pairs
    ≡ has_pairs c.args.leaf.count one passes pairs =
    pairs_alike c.args.reader.indexes.now.concepts (g.S.ConceptSet.items_of c.in_ok-typed.typed) c.args.leaf.count
    (passes_of g.S.ConceptSet.items_of c.args.reader.indexes.now.concepts c.in_ok-tested.tested) passes
    c.in_ok-tested.ensures.tested.passes in
    let some : ℕ → Bool = λ concept. has_pairs c.args.leaf.count one passes (pairs_of release c.args.back concept) in
    let plan : Plan = pairs_plan c.args.back c.args.leaf.count (logical_of c.args.leaf.types.now)
    (logical_test_of c.args.leaf.test.now) in
    record {
      items = c.in_ok-found.ensures.found.items
          ∙ (λ i. numbers_within release may (λ concept. alike (pairs_of release c.args.back concept) i))
          ∙ within_same release may some (means release plan) (pairs_node release plan (numbers_in release some)
          c.args.back c.args.leaf.count (logical_of c.args.leaf.types.now) (logical_test_of c.args.leaf.test.now)
          c.args.reader.indexes.now.concepts (g.S.ConceptSet.items_of c.in_ok-typed.typed) refl
          c.args.reader.index.concepts c.in_ok-typed.ensures.found.items refl);
      bound = c.in_ok-found.ensures.found.bound;
      floor = leaf_floor c.args.reader.indexes.now (physical_of c.args.leaf.types.now)
          (physical_test_of c.args.leaf.test.now) c.args.visits.now.count
          c.in_ok-typed.ensures.found.floor c.in_ok-tested.ensures.tested.floor
          (rw c.lengths-lengths.ensures at c.leaf_limits_within.ensures.floor) c.in_ok-found.ensures.found.floor;
    }

-- the visits of the types, of the test and of the leaf itself are within the bound of the leaf of concepts
pub pairs_within-returns-clause-counted : goal.plans::pairs_within-returns-clause-counted
pairs_within-returns-clause-counted g t c =
    leaf_reads c.args.reader.indexes.now (physical_of c.args.leaf.types.now) (physical_test_of c.args.leaf.test.now)
    c.execute_within.ensures.counted c.tested_of.ensures.counted
    (subst (λ (all : ℕ). c.leaf_limits_within.result.bound
    ≤ leaf_bound_at c.args.reader.indexes.now all c.args.back c.args.leaf.count (physical_of c.args.leaf.types.now)
    (physical_test_of c.args.leaf.test.now) c.args.leaf.choice)
    c.concept_count-concepts-2.ensures.numbers
    (rw c.lengths-lengths.ensures at c.leaf_limits_within.ensures.within))
    c.with_pairs_within.ensures.counted

-- if memory is refused while the concepts with passing pairs are found, the visits are within the bound of the leaf
-- of concepts
pub pairs_within-returns-in_err-found-clause-counted :
    goal.plans::pairs_within-returns-in_err-found-clause-counted
pairs_within-returns-in_err-found-clause-counted g t c =
    leaf_reads c.args.reader.indexes.now (physical_of c.args.leaf.types.now) (physical_test_of c.args.leaf.test.now)
    c.execute_within.ensures.counted c.tested_of.ensures.counted
    (subst (λ (all : ℕ). c.leaf_limits_within.result.bound
    ≤ leaf_bound_at c.args.reader.indexes.now all c.args.back c.args.leaf.count (physical_of c.args.leaf.types.now)
    (physical_test_of c.args.leaf.test.now) c.args.leaf.choice)
    c.concept_count-concepts-2.ensures.numbers
    (rw c.lengths-lengths.ensures at c.leaf_limits_within.ensures.within))
    c.with_pairs_within.ensures.counted

-- the candidate groups with a number of pairs in the cardinality are what the leaf of groups means among them
pub groups_with_pairs-returns-clause-found : goal.group_plans::groups_with_pairs-returns-clause-found
groups_with_pairs-returns-clause-found g t c =
    let release = c.args.reader.snapshot.now.release in
    let may : ℕ → Bool = may_be g.S.ConceptSet.items_of c.args.candidates.now in
    let passes = value_passes release (logical_test_of c.args.leaf.test.now) in
    let one : ℕ → Bool = is_one_of c.args.reader.indexes.now.concepts (g.S.ConceptSet.items_of c.in_ok-typed.typed) in
    let alike : (pairs : List Pair) → has_pairs c.args.leaf.count one
    (passes_of g.S.ConceptSet.items_of c.args.reader.indexes.now.concepts c.in_ok-tested.tested) pairs
    ≡ has_pairs c.args.leaf.count one passes pairs =
    pairs_alike c.args.reader.indexes.now.concepts (g.S.ConceptSet.items_of c.in_ok-typed.typed) c.args.leaf.count
    (passes_of g.S.ConceptSet.items_of c.args.reader.indexes.now.concepts c.in_ok-tested.tested) passes
    c.in_ok-tested.ensures.tested.passes in
    let some : List Pair → Bool = has_pairs c.args.leaf.count one passes in
    let plan : PlanOfGroups = pairs_group_plan c.args.leaf.count (logical_of c.args.leaf.types.now)
    (logical_test_of c.args.leaf.test.now) in
    record {
      items = c.in_ok-found.ensures.found.items
          ∙ (λ i. groups_within release may (λ pairs. alike pairs i))
          ∙ groups_same release may some (group_means release plan)
          (groups.pairs_node release plan (groups_where release some)
          c.args.leaf.count (logical_of c.args.leaf.types.now) (logical_test_of c.args.leaf.test.now)
          c.args.reader.indexes.now.concepts (g.S.ConceptSet.items_of c.in_ok-typed.typed) refl
          c.args.reader.index.concepts c.in_ok-typed.ensures.found.items refl);
      bound = c.in_ok-found.ensures.found.bound;
      floor = leaf_floor c.args.reader.indexes.now (physical_of c.args.leaf.types.now)
          (physical_test_of c.args.leaf.test.now) c.args.visits.now.count
          c.in_ok-typed.ensures.found.floor c.in_ok-tested.ensures.tested.floor
          (rw c.lengths-lengths.ensures at c.leaf_limits_within.ensures.floor) c.in_ok-found.ensures.found.floor;
    }

-- the visits of the types, of the test and of the leaf itself are within the bound of the leaf of groups
pub groups_with_pairs-returns-clause-counted : goal.group_plans::groups_with_pairs-returns-clause-counted
groups_with_pairs-returns-clause-counted g t c =
    leaf_reads c.args.reader.indexes.now (physical_of c.args.leaf.types.now) (physical_test_of c.args.leaf.test.now)
    c.execute_within.ensures.counted c.tested_of.ensures.counted
    (subst (λ (all : ℕ). c.leaf_limits_within.result.bound
    ≤ leaf_bound_at c.args.reader.indexes.now all false c.args.leaf.count (physical_of c.args.leaf.types.now)
    (physical_test_of c.args.leaf.test.now) c.args.leaf.choice)
    c.group_count-groups.ensures.count
    (rw c.lengths-lengths.ensures at c.leaf_limits_within.ensures.within))
    c.groups_with_pairs_within.ensures.counted

-- if memory is refused while the groups with passing pairs are found, the visits are within the bound of the leaf of
-- groups
pub groups_with_pairs-returns-in_err-found-clause-counted :
    goal.group_plans::groups_with_pairs-returns-in_err-found-clause-counted
groups_with_pairs-returns-in_err-found-clause-counted g t c =
    leaf_reads c.args.reader.indexes.now (physical_of c.args.leaf.types.now) (physical_test_of c.args.leaf.test.now)
    c.execute_within.ensures.counted c.tested_of.ensures.counted
    (subst (λ (all : ℕ). c.leaf_limits_within.result.bound
    ≤ leaf_bound_at c.args.reader.indexes.now all false c.args.leaf.count (physical_of c.args.leaf.types.now)
    (physical_test_of c.args.leaf.test.now) c.args.leaf.choice)
    c.group_count-groups.ensures.count
    (rw c.lengths-lengths.ensures at c.leaf_limits_within.ensures.within))
    c.groups_with_pairs_within.ensures.counted

-- the bound of the leaf of concepts has room for what its choice reads, as `with_pairs_within` requires
pub pairs_within-with_pairs_within-requires-clause-room :
    goal.plans::pairs_within-with_pairs_within-requires-clause-room
pairs_within-with_pairs_within-requires-clause-room g t c =
    let indexed = c.args.reader.indexes.now in
    let types = physical_of c.args.leaf.types.now in
    let test = physical_test_of c.args.leaf.test.now in
    let all = c.concept_count-concepts-2.result in
    omega (
      arith,
      (rw c.lengths-lengths.ensures at c.leaf_limits_within.ensures.bound),
      leaf_room c.args.reader.snapshot.now.release indexed c.args.reader.index c.concept_count-concepts.ensures.rising
          g.S.ConceptSet.items_of all
          c.args.back c.args.leaf.count types test (g.S.ConceptSet.items_of c.in_ok-typed.typed)
          c.in_ok-typed.ensures.found.items
          c.in_ok-tested.tested c.in_ok-tested.ensures.tested.read c.count.result c.count_of_test.result c.count.ensures
          c.count_of_test.ensures
          c.args.leaf.choice,
    )

-- the bound of the leaf of groups has room for what its choice reads, as `groups_with_pairs_within` requires
pub groups_with_pairs-groups_with_pairs_within-requires-clause-room :
    goal.group_plans::groups_with_pairs-groups_with_pairs_within-requires-clause-room
groups_with_pairs-groups_with_pairs_within-requires-clause-room g t c =
    let indexed = c.args.reader.indexes.now in
    let types = physical_of c.args.leaf.types.now in
    let test = physical_test_of c.args.leaf.test.now in
    let all = c.group_count-groups.result in
    omega (
      arith,
      (rw c.lengths-lengths.ensures at c.leaf_limits_within.ensures.bound),
      leaf_room c.args.reader.snapshot.now.release indexed c.args.reader.index c.concept_count-groups.ensures.rising
          g.S.ConceptSet.items_of all
          false c.args.leaf.count types test (g.S.ConceptSet.items_of c.in_ok-typed.typed)
          c.in_ok-typed.ensures.found.items
          c.in_ok-tested.tested c.in_ok-tested.ensures.tested.read c.count.result c.count_of_test.result c.count.ensures
          c.count_of_test.ensures
          c.args.leaf.choice,
    )
