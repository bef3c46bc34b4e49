use Rattle.std.proofs.Common.{List, ap, sym, ◌∙◌, arith}
use Rattle.constraint_tree.specs.declared.tree.Constraint.{Constraint}
use Rattle.constraint_tree.specs.Tree.{tree_of, trees_of}
use Rattle.constraint_tree.proofs.TreeLemmas.{tree_of-Dotted, trees_of_items}
use Rattle.set_algebra.proofs.PlanLemmas.{plans_of_items}
use Rattle.set_algebra.specs.Lowering.{lowered, lowered_trees}
use Rattle.set_algebra.proofs.ListLemmas.{plans_more, groups_more, values_made}
use Rattle.set_algebra.proofs.LoweredLists.{lowered_so_far, lowered_refinements_so_far, lowered_sets_so_far}
use Rattle.set_algebra.proofs.lowering.+lower.Goals as goal

-- the loop of `each` keeps its invariant: the plans made so far are those of the constraints read so far
pub each-loop-part-preserved : goal.each-loop-part-preserved
each-loop-part-preserved t c =
    plans_more _ _ _ _ _ _ c.in_ok-push.ensures.items
    (lowered_so_far c.args.parts.now c.loop-part.part-index c.part-item.result c.loop-part-test.true c.part-item.is)
    c.loop-part.invariant c.in_ok-plan.ensures

-- the loop of `each_satisfying` keeps its invariant: the plans made so far are those of the refinements read so far
pub each_satisfying-loop-part-preserved : goal.each_satisfying-loop-part-preserved
each_satisfying-loop-part-preserved t c =
    plans_more _ _ _ _ _ _ c.in_ok-push.ensures.items
    (lowered_refinements_so_far c.args.parts.now c.loop-part.part-index c.part-item.result c.loop-part-test.true
    c.part-item.is)
    c.loop-part.invariant c.in_ok-plan.ensures

-- the loop of `each_groups` keeps its invariant: the plans made so far are those of the attribute sets read so far
pub each_groups-loop-part-preserved : goal.each_groups-loop-part-preserved
each_groups-loop-part-preserved t c =
    groups_more _ _ _ _ _ _ c.in_ok-push.ensures.items
    (lowered_sets_so_far c.args.parts.now c.loop-part.part-index c.part-item.result c.loop-part-test.true
    c.part-item.is)
    c.loop-part.invariant c.in_ok-plan.ensures

-- `concepts` makes of a dotted constraint the plan that `lowered` gives
pub concepts-returns-in_ok-each-in-Dotted : goal.concepts-returns-in_ok-each-in-Dotted
concepts-returns-in_ok-each-in-Dotted t c =
    let start_is = ap (λ (start : Constraint). lowered (tree_of start)) c.deref-in-Dotted.ensures in
    let names_are = ap (λ (names : List Constraint). lowered_trees (trees_of names))
    c.deref-in-Dotted-2.ensures.value in
    values_made c.in_ok-start-in-Dotted.start c.in_ok-each-in-Dotted.field-0 _ _
    (c.in_ok-start-in-Dotted.ensures ∙ start_is) (c.in_ok-each-in-Dotted.ensures ∙ names_are)
    ∙ sym (ap lowered (ap tree_of c.in-Dotted.is ∙ tree_of-Dotted c.in-Dotted.start c.in-Dotted.names))

-- `concepts` makes of a walk the plan that `lowered` gives
pub concepts-returns-in_ok-boxed-in-Walk : goal.concepts-returns-in_ok-boxed-in-Walk
concepts-returns-in_ok-boxed-in-Walk t c = grind (arith, plans_of_items, trees_of_items)

-- `concepts` makes of a member constraint the plan that `lowered` gives
pub concepts-returns-in_ok-boxed-in-MemberOf : goal.concepts-returns-in_ok-boxed-in-MemberOf
concepts-returns-in_ok-boxed-in-MemberOf t c = grind (arith, plans_of_items, trees_of_items)

-- `concepts` makes of a conjunction the plan that `lowered` gives
pub concepts-returns-in_ok-each-in-And : goal.concepts-returns-in_ok-each-in-And
concepts-returns-in_ok-each-in-And t c = grind (arith, plans_of_items, trees_of_items)

-- `concepts` makes of a disjunction the plan that `lowered` gives
pub concepts-returns-in_ok-each-in-Or : goal.concepts-returns-in_ok-each-in-Or
concepts-returns-in_ok-each-in-Or t c = grind (arith, plans_of_items, trees_of_items)

-- `concepts` makes of a difference the plan that `lowered` gives
pub concepts-returns-in_ok-boxed-in-Minus : goal.concepts-returns-in_ok-boxed-in-Minus
concepts-returns-in_ok-boxed-in-Minus t c = grind (arith, plans_of_items, trees_of_items)

-- `concepts` makes of a refined constraint the plan that `lowered` gives
pub concepts-returns-in_ok-vec-in-Refined : goal.concepts-returns-in_ok-vec-in-Refined
concepts-returns-in_ok-vec-in-Refined t c = grind (arith, plans_of_items, trees_of_items)

-- `groups` makes of one attribute in braces the plan that `lowered_set` gives
pub groups-returns-in_ok-value_test-in-One : goal.groups-returns-in_ok-value_test-in-One
groups-returns-in_ok-value_test-in-One t c = grind (arith, plans_of_items, trees_of_items)

-- `groups` makes of a conjunction of attribute sets the plan that `lowered_set` gives
pub groups-returns-in_ok-each_groups-in-And : goal.groups-returns-in_ok-each_groups-in-And
groups-returns-in_ok-each_groups-in-And t c = grind (arith, plans_of_items, trees_of_items)

-- `groups` makes of a disjunction of attribute sets the plan that `lowered_set` gives
pub groups-returns-in_ok-each_groups-in-Or : goal.groups-returns-in_ok-each_groups-in-Or
groups-returns-in_ok-each_groups-in-Or t c = grind (arith, plans_of_items, trees_of_items)

-- `satisfying` makes of one attribute the plan that `lowered_refinement` gives
pub satisfying-returns-in_ok-value_test-in-One : goal.satisfying-returns-in_ok-value_test-in-One
satisfying-returns-in_ok-value_test-in-One t c = grind (arith, plans_of_items, trees_of_items)

-- `satisfying` makes of a conjunction of refinements the plan that `lowered_refinement` gives
pub satisfying-returns-in_ok-each_satisfying-in-And : goal.satisfying-returns-in_ok-each_satisfying-in-And
satisfying-returns-in_ok-each_satisfying-in-And t c = grind (arith, plans_of_items, trees_of_items)

-- `satisfying` makes of a disjunction of refinements the plan that `lowered_refinement` gives
pub satisfying-returns-in_ok-each_satisfying-in-Or : goal.satisfying-returns-in_ok-each_satisfying-in-Or
satisfying-returns-in_ok-each_satisfying-in-Or t c = grind (arith, plans_of_items, trees_of_items)
