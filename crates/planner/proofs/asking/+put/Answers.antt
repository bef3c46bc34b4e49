use Rattle.std.proofs.Common.{ℕ, List, ◌≡◌, ◌<◌, ◌∙◌, ap, arith, get_or, length, rules, sym}
use Rattle.std.proofs.lemmas.List.{get_or_default, take_all}
use Rattle.set_algebra.specs.declared.choice.Choice.{Choice}
use Rattle.set_algebra.specs.declared.plan.ConceptPlan.{ConceptPlan}
use Rattle.set_algebra.specs.declared.plan.UnitPlan.{UnitPlan}
use Rattle.set_algebra.specs.Physical.{physical_of, physical_groups_of}
use Rattle.planner.specs.inside.AskedInPlace.{group_with_asked, with_asked}
use Rattle.planner.proofs.PassLemmas.{asking_concepts, asking_groups, each_all, each_more, rest_next}
use Rattle.planner.proofs.asking.+put.Goals as goal

-- a turn that gives one plan of concepts its choices keeps the invariant
pub put_in_each-loop-place-preserved : goal.put_in_each-loop-place-preserved
put_in_each-loop-place-preserved t c =
    let so_far = c.loop-place.invariant in
    let items : List ConceptPlan = c.loop-place.parts.items in
    let before : List ConceptPlan = c.args.parts.now.items in
    let place : ℕ = c.loop-place.place in
    let old : ConceptPlan = c.index_mut.result.now in
    let inside : place < length items =
    omega (arith, so_far.unvisited.0, c.loop-place-test.true, c.len-place-end.ensures) in
    let was : (d : ConceptPlan) → old ≡ get_or before place d =
    λ d. c.index_mut.ensures.value ∙ get_or_default items place old d inside
    ∙ so_far.unvisited.1 place d (omega arith) in
    record {
      unvisited = search rules;
      each = each_more asking_concepts c.args.asked.now items before place old c.put_asked-rest.new.plan so_far.each
          inside was
          (c.put_asked-rest.ensures.plan
          ∙ ap (λ (rest : List Choice). (with_asked rest (physical_of old)).plan) so_far.left);
      left = c.put_asked-rest.ensures.rest
          ∙ ap (λ (rest : List Choice). (with_asked rest (physical_of old)).rest) so_far.left
          ∙ sym (rest_next asking_concepts c.args.asked.now before place old (omega (arith, inside, so_far.unvisited.0))
          was);
    }

-- at the end all plans of concepts have their choices, and the rest of the list is returned
pub put_in_each-returns : goal.put_in_each-returns
put_in_each-returns t c =
    let so_far = c.loop-place.invariant in
    let before : List ConceptPlan = c.args.parts.now.items in
    record {
      parts = each_all asking_concepts c.args.asked.now c.loop-place.parts.items before so_far.unvisited.0
          (λ k d below. so_far.each k d (omega (arith, below, c.loop-place-test.false, c.len-place-end.ensures)));
      rest = so_far.left
          ∙ ap (asking_concepts.rest c.args.asked.now)
          (take_all c.loop-place.place before (omega (arith, c.loop-place-test.false, c.len-place-end.ensures)));
    }

-- a turn that gives one plan of groups its choices keeps the invariant
pub put_in_each_groups-loop-place-preserved : goal.put_in_each_groups-loop-place-preserved
put_in_each_groups-loop-place-preserved t c =
    let so_far = c.loop-place.invariant in
    let items : List UnitPlan = c.loop-place.parts.items in
    let before : List UnitPlan = c.args.parts.now.items in
    let place : ℕ = c.loop-place.place in
    let old : UnitPlan = c.index_mut.result.now in
    let inside : place < length items =
    omega (arith, so_far.unvisited.0, c.loop-place-test.true, c.len-place-end.ensures) in
    let was : (d : UnitPlan) → old ≡ get_or before place d =
    λ d. c.index_mut.ensures.value ∙ get_or_default items place old d inside
    ∙ so_far.unvisited.1 place d (omega arith) in
    record {
      unvisited = search rules;
      each = each_more asking_groups c.args.asked.now items before place old c.put_in_groups-rest.new.plan so_far.each
          inside was
          (c.put_in_groups-rest.ensures.plan
          ∙ ap (λ (rest : List Choice). (group_with_asked rest (physical_groups_of old)).plan) so_far.left);
      left = c.put_in_groups-rest.ensures.rest
          ∙ ap (λ (rest : List Choice). (group_with_asked rest (physical_groups_of old)).rest) so_far.left
          ∙ sym (rest_next asking_groups c.args.asked.now before place old (omega (arith, inside, so_far.unvisited.0))
          was);
    }

-- at the end all plans of groups have their choices, and the rest of the list is returned
pub put_in_each_groups-returns : goal.put_in_each_groups-returns
put_in_each_groups-returns t c =
    let so_far = c.loop-place.invariant in
    let before : List UnitPlan = c.args.parts.now.items in
    record {
      parts = each_all asking_groups c.args.asked.now c.loop-place.parts.items before so_far.unvisited.0
          (λ k d below. so_far.each k d (omega (arith, below, c.loop-place-test.false, c.len-place-end.ensures)));
      rest = so_far.left
          ∙ ap (asking_groups.rest c.args.asked.now)
          (take_all c.loop-place.place before (omega (arith, c.loop-place-test.false, c.len-place-end.ensures)));
    }
