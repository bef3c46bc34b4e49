use Rattle.std.proofs.Common.{arith, ◌<◌, ◌/◌, ◌-◌, rules}
use Rattle.std.proofs.lemmas.Result.{on_ok_weaker}
use Rattle.constraint_tree.proofs.TextLemmas.{fraction_digits-none, first_digit, no_more, places_written, some_places}
use Rattle.constraint_tree.proofs.TextLemmas.{unit_is_some}
use Rattle.constraint_tree.proofs.print.+write_places.Goals as goal

-- the function appends nothing if the fraction is 0, which has no digits
pub returns-then-fraction-eq0 : goal.returns-then-fraction-eq0
returns-then-fraction-eq0 t c = no_more _ _ (fraction_digits-none c.args.places c.args.fraction c.if-fraction-eq0.true)

-- the division by `unit` does not fail, because a power of ten is not 0
pub nonzero_div-fraction : goal.nonzero_div-fraction
nonzero_div-fraction t c = omega (arith, unit_is_some (c.args.places - 1), c.pow-unit.ensures)

-- the cast to a byte does not overflow, because the first digit is below 10
pub overflow_cast-fraction : goal.overflow_cast-fraction
overflow_cast-fraction t c =
    let below : c.args.fraction / c.pow-unit.result < 10 =
    rw c.pow-unit.ensures (first_digit c.args.places c.args.fraction c.if-fraction-eq0.false c.requires.fits) in
    search (rules, below)

-- the addition of the byte of `0` does not overflow, because the first digit is below 10
pub overflow_add-fraction : goal.overflow_add-fraction
overflow_add-fraction t c =
    let below : c.args.fraction / c.pow-unit.result < 10 =
    rw c.pow-unit.ensures (first_digit c.args.places c.args.fraction c.if-fraction-eq0.false c.requires.fits) in
    search (rules, below)

-- the remainder by `unit` exists, because a power of ten is not 0
pub nonzero_rem-fraction : goal.nonzero_rem-fraction
nonzero_rem-fraction t c = omega (arith, unit_is_some (c.args.places - 1), c.pow-unit.ensures)

-- the recursive call has one place less, and the rest of the fraction fits in the remaining places
pub write_places-requires : goal.write_places-requires
write_places-requires t c =
    let places_left = some_places c.args.places c.args.fraction c.if-fraction-eq0.false c.requires.fits in (
      omega (arith, places_left.1, c.decreases),
      (
        omega (arith, c.requires.few),
        omega
            (arith, unit_is_some (c.args.places - 1), c.pow-unit.ensures),
      ),
    )

-- the first digit and the digits of the rest are the digits of the fraction
pub returns : goal.returns
returns t c =
    on_ok_weaker c.write_places.result
    (places_written c.args.places c.args.fraction c.pow-unit.result _ _ _ c.if-fraction-eq0.false c.requires.fits
    c.pow-unit.ensures c.in_ok-push.ensures.items)
    c.write_places.ensures
