use Rattle.std.proofs.Common.{refl, sym, ◌∙◌, arith, rules}
use Rattle.std.proofs.lemmas.Bool.{false≢true}
use Rattle.set_algebra.specs.declared.plan.ConceptPlan.TheFolds.{the_lemmas}
use Rattle.set_algebra.proofs.PlanLemmas.{plans_of_items}
use Rattle.set_algebra.proofs.SameLemmas.{same_lengths, same_group_lengths, same_at, same_group_at, same_more}
use Rattle.set_algebra.proofs.SameLemmas.{same_group_more, same_all, same_group_all, values_are_same}
use Rattle.set_algebra.proofs.equal.+equal.Goals as goal

-- `same_each` rightly returns false if the two lists of plans of concepts differ in length
pub same_each-returns-then-parts-others : goal.same_each-returns-then-parts-others
same_each-returns-then-parts-others t c = (
  λ holds. absurd (false≢true holds),
  λ same. absurd (c.if-parts-others.true (same_lengths c.args.parts.now c.args.others.now same)),
)

-- `same_each` rightly returns false if the plans of concepts at an index differ
pub same_each-returns-then-not-same : goal.same_each-returns-then-not-same
same_each-returns-then-not-same t c = (
  λ holds. absurd (false≢true holds),
  λ same.
      sym c.if-not-same.true
      ∙ c.same.ensures.1
      (same_at c.args.parts.now c.args.others.now c.loop-i.i c.index-parts-i.result c.index-others-i.result
      c.loop-i-test.true c.index-parts-i.is c.index-others-i.is same),
)

-- the loop of `same_each` keeps its invariant: the first `i` plans of the two lists are equal
pub same_each-loop-i-preserved : goal.same_each-loop-i-preserved
same_each-loop-i-preserved t c =
    same_more c.args.parts.now c.args.others.now c.loop-i.i c.index-parts-i.result c.index-others-i.result
    c.loop-i-test.true c.if-parts-others.false
    c.index-parts-i.is c.index-others-i.is c.loop-i.invariant (c.same.ensures.0 c.if-not-same.false)

-- `same_each` rightly returns true after its loop: all plans of the two lists of plans of concepts are equal
pub same_each-returns : goal.same_each-returns
same_each-returns t c = (
  λ _. same_all c.args.parts.now c.args.others.now c.loop-i.i c.loop-i-test.false c.if-parts-others.false
      c.loop-i.invariant,
  λ _. refl,
)

-- `same_each_group` rightly returns false if the two lists of plans of groups differ in length
pub same_each_group-returns-then-parts-others : goal.same_each_group-returns-then-parts-others
same_each_group-returns-then-parts-others t c = (
  λ holds. absurd (false≢true holds),
  λ same. absurd (c.if-parts-others.true (same_group_lengths c.args.parts.now c.args.others.now same)),
)

-- `same_each_group` rightly returns false if the plans of groups at an index differ
pub same_each_group-returns-then-not-same_group_plan : goal.same_each_group-returns-then-not-same_group_plan
same_each_group-returns-then-not-same_group_plan t c = (
  λ holds. absurd (false≢true holds),
  λ same.
      sym c.if-not-same_group_plan.true
      ∙ c.same_group_plan.ensures.1
      (same_group_at c.args.parts.now c.args.others.now c.loop-i.i c.index-parts-i.result c.index-others-i.result
      c.loop-i-test.true c.index-parts-i.is c.index-others-i.is same),
)

-- the loop of `same_each_group` keeps its invariant: the first `i` plans of the two lists are equal
pub same_each_group-loop-i-preserved : goal.same_each_group-loop-i-preserved
same_each_group-loop-i-preserved t c =
    same_group_more c.args.parts.now c.args.others.now c.loop-i.i c.index-parts-i.result c.index-others-i.result
    c.loop-i-test.true c.if-parts-others.false
    c.index-parts-i.is c.index-others-i.is c.loop-i.invariant
    (c.same_group_plan.ensures.0 c.if-not-same_group_plan.false)

-- `same_each_group` rightly returns true after its loop: all plans of the two lists of plans of groups are equal
pub same_each_group-returns : goal.same_each_group-returns
same_each_group-returns t c = (
  λ _. same_group_all c.args.parts.now c.args.others.now c.loop-i.i c.loop-i-test.false c.if-parts-others.false
      c.loop-i.invariant,
  λ _. refl,
)

-- two `And` plans of concepts are equal exactly if `same_each` holds of their parts
pub same-returns-in-And-And : goal.same-returns-in-And-And
same-returns-in-And-And t c = search (rules, plans_of_items)

-- two `And` plans of groups are equal exactly if `same_each_group` holds of their parts
pub same_group_plan-returns-in-And-And : goal.same_group_plan-returns-in-And-And
same_group_plan-returns-in-And-And t c = search (rules, plans_of_items)

-- two `Or` plans of groups are equal exactly if `same_each_group` holds of their parts
pub same_group_plan-returns-in-Or-Or : goal.same_group_plan-returns-in-Or-Or
same_group_plan-returns-in-Or-Or t c = search (rules, plans_of_items)

-- two `One` plans are equal exactly if their numbers are
pub same-returns-in-One-One : goal.same-returns-in-One-One
same-returns-in-One-One t c = search rules

-- two `Members` plans are equal exactly if `same` holds of their operands
pub same-returns-in-Members-Members : goal.same-returns-in-Members-Members
same-returns-in-Members-Members t c = search rules

-- two `Walk` plans are equal exactly if `same_walk` holds of their operators and operands
pub same-returns-in-Walk-Walk : goal.same-returns-in-Walk-Walk
same-returns-in-Walk-Walk t c = search rules

-- two `Minus` plans of concepts are equal exactly if `same_minus` holds of their operands
pub same-returns-in-Minus-Minus : goal.same-returns-in-Minus-Minus
same-returns-in-Minus-Minus t c = search rules

-- two `Pairs` plans of concepts with one direction are equal exactly if `same_pairs` holds of their other parts
pub same-returns-then-back-other_back : goal.same-returns-then-back-other_back
same-returns-then-back-other_back t c = search rules

-- two `Pairs` plans of concepts differ if only one of them is read backwards
pub same-returns-else-back-other_back : goal.same-returns-else-back-other_back
same-returns-else-back-other_back t c = search rules

-- two `Units` plans are equal exactly if `same_groups` holds of their cardinalities and plans of groups
pub same-returns-in-Units-Units : goal.same-returns-in-Units-Units
same-returns-in-Units-Units t c = search rules

-- two `Minus` plans of groups are equal exactly if `same_group_minus` holds of their operands
pub same_group_plan-returns-in-Minus-Minus : goal.same_group_plan-returns-in-Minus-Minus
same_group_plan-returns-in-Minus-Minus t c = search rules

-- two `Pairs` plans of groups are equal exactly if `same_pairs` holds of their parts
pub same_group_plan-returns-in-Pairs-Pairs : goal.same_group_plan-returns-in-Pairs-Pairs
same_group_plan-returns-in-Pairs-Pairs t c = search rules

-- two walks with one operator are equal exactly if `same` holds of their operands
pub same_walk-returns-then-eq : goal.same_walk-returns-then-eq
same_walk-returns-then-eq t c = search rules

-- two walks with different operators differ
pub same_walk-returns-else-eq : goal.same_walk-returns-else-eq
same_walk-returns-else-eq t c = search rules

-- two differences of concepts with equal first operands are equal exactly if `same` holds of the second ones
pub same_minus-returns-then-same : goal.same_minus-returns-then-same
same_minus-returns-then-same t c = search rules

-- two differences of concepts with different first operands differ
pub same_minus-returns-else-same : goal.same_minus-returns-else-same
same_minus-returns-else-same t c = search rules

-- pairs with equal cardinalities and equal types are equal exactly if `same_value_test` holds of their tests
pub same_pairs-returns-then-same : goal.same_pairs-returns-then-same
same_pairs-returns-then-same t c = search rules

-- pairs with different cardinalities or different types differ
pub same_pairs-returns-else-same : goal.same_pairs-returns-else-same
same_pairs-returns-else-same t c = search rules

-- `groups_plan`s with equal cardinalities are equal exactly if `same_group_plan` holds of their plans of groups
pub same_groups-returns-then-eq : goal.same_groups-returns-then-eq
same_groups-returns-then-eq t c = search rules

-- `groups_plan`s with different cardinalities differ
pub same_groups-returns-else-eq : goal.same_groups-returns-else-eq
same_groups-returns-else-eq t c = search rules

-- two differences of groups with equal first operands are equal exactly if `same_group_plan` holds of the second ones
pub same_group_minus-returns-then-same_group_plan : goal.same_group_minus-returns-then-same_group_plan
same_group_minus-returns-then-same_group_plan t c = search rules

-- two differences of groups with different first operands differ
pub same_group_minus-returns-else-same_group_plan : goal.same_group_minus-returns-else-same_group_plan
same_group_minus-returns-else-same_group_plan t c = search rules

-- `values_plan`s with equal starts are equal exactly if `same_each` holds of their names
pub same_values-returns-then-same : goal.same_values-returns-then-same
same_values-returns-then-same t c = search rules

-- `values_plan`s with different starts differ
pub same_values-returns-else-same : goal.same_values-returns-else-same
same_values-returns-else-same t c = search rules

-- two `Values` plans are equal exactly if `same_values` holds of their starts and names
pub same-returns-in-Values-Values : goal.same-returns-in-Values-Values
same-returns-in-Values-Values t c =
    values_are_same _ _ c.in-Values-Values.start c.in-Values-Values.other c.in-Values-Values.names
    c.in-Values-Values.others _ _ _ _ _
    c.in-Values-Values.is-0 c.in-Values-Values.is-1 c.deref-in-Values-Values.ensures c.deref-in-Values-Values-3.ensures
    c.deref-in-Values-Values-2.ensures.value c.deref-in-Values-Values-4.ensures.value c.same_values.ensures

-- two `Or` plans of concepts are equal exactly if `same_each` holds of their parts
pub same-returns-in-Or-Or : goal.same-returns-in-Or-Or
same-returns-in-Or-Or t c = search (rules, plans_of_items)

-- `same` rightly returns true of `Empty` and `Empty`
pub same-returns-in-Empty-Empty : goal.same-returns-in-Empty-Empty
same-returns-in-Empty-Empty t c = search rules

-- `same` rightly returns true of `All` and `All`
pub same-returns-in-Empty-Empty-2 : goal.same-returns-in-Empty-Empty-2
same-returns-in-Empty-Empty-2 t c = search rules

-- `same_group_plan` rightly returns true of `Nothing` and `Nothing`
pub same_group_plan-returns-in-Nothing-Nothing : goal.same_group_plan-returns-in-Nothing-Nothing
same_group_plan-returns-in-Nothing-Nothing t c = search rules

-- `same_group_plan` rightly returns true of `Every` and `Every`
pub same_group_plan-returns-in-Nothing-Nothing-2 : goal.same_group_plan-returns-in-Nothing-Nothing-2
same_group_plan-returns-in-Nothing-Nothing-2 t c = search rules

-- two `Within` tests are equal exactly if `same` holds of their operands
pub same_value_test-returns-in-Within-Within : goal.same_value_test-returns-in-Within-Within
same_value_test-returns-in-Within-Within t c = search rules

-- two `Number` tests are equal exactly if `same_number` holds of their comparisons and numbers
pub same_value_test-returns-in-Number-Number : goal.same_value_test-returns-in-Number-Number
same_value_test-returns-in-Number-Number t c = search rules

-- `same` rightly returns false of two plans of concepts of different variants: case 1 of the `_` arm
pub same-returns-in_default : goal.same-returns-in_default
same-returns-in_default t c = grind (arith, the_lemmas)

-- `same` rightly returns false of two plans of concepts of different variants: case 2 of the `_` arm
pub same-returns-in_default-2 : goal.same-returns-in_default-2
same-returns-in_default-2 t c = grind (arith, the_lemmas)

-- `same` rightly returns false of two plans of concepts of different variants: case 3 of the `_` arm
pub same-returns-in_default-3 : goal.same-returns-in_default-3
same-returns-in_default-3 t c = grind (arith, the_lemmas)

-- `same` rightly returns false of two plans of concepts of different variants: case 4 of the `_` arm
pub same-returns-in_default-4 : goal.same-returns-in_default-4
same-returns-in_default-4 t c = grind (arith, the_lemmas)

-- `same` rightly returns false of two plans of concepts of different variants: case 5 of the `_` arm
pub same-returns-in_default-5 : goal.same-returns-in_default-5
same-returns-in_default-5 t c = grind (arith, the_lemmas)

-- `same` rightly returns false of two plans of concepts of different variants: case 6 of the `_` arm
pub same-returns-in_default-6 : goal.same-returns-in_default-6
same-returns-in_default-6 t c = grind (arith, the_lemmas)

-- `same` rightly returns false of two plans of concepts of different variants: case 7 of the `_` arm
pub same-returns-in_default-7 : goal.same-returns-in_default-7
same-returns-in_default-7 t c = grind (arith, the_lemmas)

-- `same` rightly returns false of two plans of concepts of different variants: case 8 of the `_` arm
pub same-returns-in_default-8 : goal.same-returns-in_default-8
same-returns-in_default-8 t c = grind (arith, the_lemmas)

-- `same` rightly returns false of two plans of concepts of different variants: case 9 of the `_` arm
pub same-returns-in_default-9 : goal.same-returns-in_default-9
same-returns-in_default-9 t c = grind (arith, the_lemmas)

-- `same` rightly returns false of two plans of concepts of different variants: case 10 of the `_` arm
pub same-returns-in_default-10 : goal.same-returns-in_default-10
same-returns-in_default-10 t c = grind (arith, the_lemmas)

-- `same` rightly returns false of two plans of concepts of different variants: case 11 of the `_` arm
pub same-returns-in_default-11 : goal.same-returns-in_default-11
same-returns-in_default-11 t c = grind (arith, the_lemmas)

-- `same_group_plan` rightly returns false of two plans of groups of different variants: case 1 of the `_` arm
pub same_group_plan-returns-in_default : goal.same_group_plan-returns-in_default
same_group_plan-returns-in_default t c = grind (arith, the_lemmas)

-- `same_group_plan` rightly returns false of two plans of groups of different variants: case 2 of the `_` arm
pub same_group_plan-returns-in_default-2 : goal.same_group_plan-returns-in_default-2
same_group_plan-returns-in_default-2 t c = grind (arith, the_lemmas)

-- `same_group_plan` rightly returns false of two plans of groups of different variants: case 3 of the `_` arm
pub same_group_plan-returns-in_default-3 : goal.same_group_plan-returns-in_default-3
same_group_plan-returns-in_default-3 t c = grind (arith, the_lemmas)

-- `same_group_plan` rightly returns false of two plans of groups of different variants: case 4 of the `_` arm
pub same_group_plan-returns-in_default-4 : goal.same_group_plan-returns-in_default-4
same_group_plan-returns-in_default-4 t c = grind (arith, the_lemmas)

-- `same_group_plan` rightly returns false of two plans of groups of different variants: case 5 of the `_` arm
pub same_group_plan-returns-in_default-5 : goal.same_group_plan-returns-in_default-5
same_group_plan-returns-in_default-5 t c = grind (arith, the_lemmas)

-- `same_group_plan` rightly returns false of two plans of groups of different variants: case 6 of the `_` arm
pub same_group_plan-returns-in_default-6 : goal.same_group_plan-returns-in_default-6
same_group_plan-returns-in_default-6 t c = grind (arith, the_lemmas)

-- `same_value_test` rightly returns false of two tests of different variants: case 1 of the `_` arm
pub same_value_test-returns-in_default : goal.same_value_test-returns-in_default
same_value_test-returns-in_default t c = grind (arith, the_lemmas)

-- `same_value_test` rightly returns false of two tests of different variants: case 2 of the `_` arm
pub same_value_test-returns-in_default-2 : goal.same_value_test-returns-in_default-2
same_value_test-returns-in_default-2 t c = grind (arith, the_lemmas)

-- `same_value_test` rightly returns false of two tests of different variants: case 3 of the `_` arm
pub same_value_test-returns-in_default-3 : goal.same_value_test-returns-in_default-3
same_value_test-returns-in_default-3 t c = grind (arith, the_lemmas)
