use Rattle.std.proofs.Common.{ℕ, List, ◌≡◌, ◌<◌, ◌∙◌, ap, arith, get_or, length, rules}
use Rattle.std.proofs.lemmas.List.{get_or_default}
use Rattle.set_algebra.specs.declared.plan.ConceptPlan.{ConceptPlan}
use Rattle.set_algebra.specs.declared.plan.UnitPlan.{UnitPlan}
use Rattle.set_algebra.specs.Plan.{plans_of}
use Rattle.plan_bounds.specs.Leaves.{plan_count}
use Rattle.plan_bounds.specs.Sizes.{values_size}
use Rattle.plan_bounds.proofs.LoopLemmas.{sizes_end, sizes_turn}
use Rattle.plan_bounds.proofs.PartLemmas.{plan_count-parts}
use Rattle.planner.specs.Chosen.{all_chosen}
use Rattle.planner.proofs.PassLemmas.{choosing_concepts, choosing_groups, each_all, each_more}
use Rattle.planner.proofs.choosing.+assign.Goals as goal

-- a turn that gives one plan of concepts its choices keeps the invariant
pub assign_parts-loop-place-preserved : goal.assign_parts-loop-place-preserved
assign_parts-loop-place-preserved t c =
    let left = c.loop-place.invariant in
    let items : List ConceptPlan = c.loop-place.parts.items in
    let before : List ConceptPlan = c.args.parts.now.items in
    let place : ℕ = c.loop-place.place in
    let old : ConceptPlan = c.index_mut.result.now in
    let inside : place < length items =
    omega (arith, left.unvisited.0, c.loop-place-test.true, c.len-place-end.ensures) in
    let was : (d : ConceptPlan) → old ≡ get_or before place d =
    λ d. c.index_mut.ensures.value ∙ get_or_default items place old d inside ∙ left.unvisited.1 place d (omega arith) in
    record {
      unvisited = search rules;
      each = each_more (choosing_concepts c.args.lengths.indexes.now) tt items before place old
          c.assign_choices-size.new.plan left.each inside was
          c.assign_choices-size.ensures.plan;
      sizes = sizes_turn left.sizes (omega (arith, inside, left.unvisited.0)) (was old)
          c.assign_choices-size.ensures.size c.with-summary.ensures;
    }

-- at the end all plans of concepts have their choices, and the summary has their sizes
pub assign_parts-returns : goal.assign_parts-returns
assign_parts-returns t c =
    let left = c.loop-place.invariant in
    let before : List ConceptPlan = c.args.parts.now.items in
    record {
      parts = each_all (choosing_concepts c.args.lengths.indexes.now) tt c.loop-place.parts.items before
          left.unvisited.0
          (λ k d below. left.each k d (omega (arith, below, c.loop-place-test.false, c.len-place-end.ensures)));
      summary = sizes_end left.sizes (omega (arith, c.loop-place-test.false, c.len-place-end.ensures));
    }

-- a turn that gives one plan of groups its choices keeps the invariant
pub assign_group_parts-loop-place-preserved : goal.assign_group_parts-loop-place-preserved
assign_group_parts-loop-place-preserved t c =
    let left = c.loop-place.invariant in
    let items : List UnitPlan = c.loop-place.parts.items in
    let before : List UnitPlan = c.args.parts.now.items in
    let place : ℕ = c.loop-place.place in
    let old : UnitPlan = c.index_mut.result.now in
    let inside : place < length items =
    omega (arith, left.unvisited.0, c.loop-place-test.true, c.len-place-end.ensures) in
    let was : (d : UnitPlan) → old ≡ get_or before place d =
    λ d. c.index_mut.ensures.value ∙ get_or_default items place old d inside ∙ left.unvisited.1 place d (omega arith) in
    record {
      unvisited = search rules;
      each = each_more (choosing_groups c.args.lengths.indexes.now) tt items before place old
          c.assign_groups-size.new.plan left.each inside was
          c.assign_groups-size.ensures.plan;
      sizes = sizes_turn left.sizes (omega (arith, inside, left.unvisited.0)) (was old)
          c.assign_groups-size.ensures.size c.with-summary.ensures;
    }

-- at the end all plans of groups have their choices, and the summary has their sizes
pub assign_group_parts-returns : goal.assign_group_parts-returns
assign_group_parts-returns t c =
    let left = c.loop-place.invariant in
    let before : List UnitPlan = c.args.parts.now.items in
    record {
      parts = each_all (choosing_groups c.args.lengths.indexes.now) tt c.loop-place.parts.items before left.unvisited.0
          (λ k d below. left.each k d (omega (arith, below, c.loop-place-test.false, c.len-place-end.ensures)));
      summary = sizes_end left.sizes (omega (arith, c.loop-place-test.false, c.len-place-end.ensures));
    }

-- the size of a `Values` node counts as many types as the node has names
pub assign_values-returns-clause-size : goal.assign_values-returns-clause-size
assign_values-returns-clause-size t c =
    let indexed = c.args.lengths.indexes.now in
    let count : c.len.result ≡ plan_count (all_chosen indexed (plans_of c.args.names.now.items)) =
    omega (arith, plan_count-parts c.assign_parts.new.parts.items, ap plan_count c.assign_parts.ensures.parts) in
    c.cost_of_values.ensures.size ∙ (λ i. values_size indexed (count i) (c.assign_choices-from.ensures.size i))
