-- The chosen items that are still to come, at each end of the loop and after each row.
use Rattle.std.proofs.Common.{arith, append-nil, append_assoc, false, sym}
use Rattle.row_lists.specs.declared.row_lists.Listing.TheVariants.{Nowhere}
use Rattle.row_lists.proofs.ChosenItemLemmas.{choices_ended, marks_ended, row_listed, row_missing, row_passed}
use Rattle.row_lists.proofs.row_lists.chosen_items.Goals as goal

-- if no choice is left, no chosen item is to come
pub returns-then-choices-place : goal.returns-then-choices-place
returns-then-choices-place g c =
    let at = c.loop-place in
    grind (
      arith,
      append-nil,
      at.invariant,
      choices_ended c.args.list c.args.marks.now c.args.choices.now at.place Nowhere at.left.now
          c.if-choices-place.true,
    )

-- a row that is not in the list keeps the invariant
pub loop-place-preserved-then-not-is_listing : goal.loop-place-preserved-then-not-is_listing
loop-place-preserved-then-not-is_listing g c =
    let at = c.loop-place in
    grind (
      arith,
      at.invariant,
      row_passed c.args.list c.args.marks.now c.args.choices.now at.place Nowhere false at.left.now
          c.loop-place-test.true c.if-choices-place.false (sym c.if-not-is_listing.ensures),
    )

-- if a row is in the list but no item is left, no chosen item is to come
pub returns-in_default : goal.returns-in_default
returns-in_default g c =
    let at = c.loop-place in
    let missing = row_missing c.args.list c.args.marks.now c.args.choices.now at.place Nowhere false at.left.now
    c.loop-place-test.true c.if-choices-place.false (sym c.if-not-is_listing.ensures) c.in_default.ensures.cases in
    grind (arith, append-nil, at.invariant, missing)

-- a row in the list that is not chosen keeps the invariant and uses up its item
pub loop-place-preserved-then-not-choices-place : goal.loop-place-preserved-then-not-choices-place
loop-place-preserved-then-not-choices-place g c =
    let at = c.loop-place in
    let listed = row_listed c.args.list c.args.marks.now c.args.choices.now at.place Nowhere false at.left.now
    c.loop-place-test.true c.if-choices-place.false (sym c.if-not-is_listing.ensures) in
    grind (arith, at.invariant, listed, c.in-Some.ensures.cases, c.if-not-choices-place.true)

-- a row in the list that is chosen keeps the invariant and adds its item
pub loop-place-preserved : goal.loop-place-preserved
loop-place-preserved g c =
    let at = c.loop-place in
    let listed = row_listed c.args.list c.args.marks.now c.args.choices.now at.place Nowhere false at.left.now
    c.loop-place-test.true c.if-choices-place.false (sym c.if-not-is_listing.ensures) in
    grind (
      arith,
      append_assoc,
      at.invariant,
      listed,
      c.in-Some.ensures.cases,
      c.if-not-choices-place.false,
      c.in_ok-push.ensures.items,
    )

-- if no mark is left, no chosen item is to come
pub returns : goal.returns
returns g c =
    let at = c.loop-place in
    grind (
      arith,
      append-nil,
      at.invariant,
      marks_ended c.args.list c.args.marks.now c.args.choices.now at.place Nowhere at.left.now c.loop-place-test.false,
    )
