use Rattle.std.proofs.Common.{ℕ, ◌∙◌, ◌-◌, ◌<◌, All, List, sym, ap, subst, arith}
use Rattle.std.specs.Prelude.{vec_len}
use Rattle.std.proofs.lemmas.Bool.{eqb-true}
use Rattle.std.proofs.lemmas.List.{nil_from_length}
use Rattle.number_lists.specs.Members.{times}
use Rattle.pair_sets.proofs.TimesLemmas.{done_all, none_left}
use Rattle.pair_sets.proofs.counts.repeated.Goals as goal
use Rattle.pair_sets.proofs.counts.repeated.Goals.{then-loop-done-test+else-not-is_empty, else-loop-done-test}

-- before the loop, one of each number is taken
pub loop-done-init : goal.loop-done-init
loop-done-init c = record {
  within = c.in_ok-left.ensures.within;
  often = c.in_ok-left.ensures.times;
  some = omega arith;
  most = omega (arith, c.requires.some);
}

-- the numbers that are left are below `bound`
pub repeats-requires-in-loop-done : goal.repeats-requires-in-loop-done
repeats-requires-in-loop-done c =
    subst (All (λ n. n < c.args.bound)) (sym c.as_slice.ensures.value) c.loop-done.invariant.within

-- a turn takes one more of each number
pub loop-done-preserved : goal.loop-done-preserved
loop-done-preserved c = record {
  within = c.in_ok-left-2.ensures.within;
  often = λ n.
      c.in_ok-left-2.ensures.times n ∙ ap (λ (xs : List ℕ). times n xs - 1) c.as_slice.ensures.value
      ∙ omega (arith, c.loop-done.invariant.often n);
  some = omega arith;
  most = omega arith;
}

-- after the last turn, the numbers that are left are below `bound`
pub returns-clause-within : goal.returns-clause-within
returns-clause-within c = c.loop-done.invariant.within

-- after the last turn, `less` of each number are taken, or none is left
pub returns-clause-times : goal.returns-clause-times
returns-clause-times c = λ n.
    let seen = times n c.args.numbers.now in
    let left = c.loop-done.left in
    elim c.loop-done-test.branch [
      | then-loop-done-test+else-not-is_empty w ↦
          none_left (times n left.items) c.loop-done.done c.args.less seen (c.loop-done.invariant.often n)
          (ap (times n) (nil_from_length left.items
          (omega (arith, eqb-true (vec_len left) 0 (sym w.is_empty.ensures ∙ w.if-not-is_empty.false)))))
          c.loop-done.invariant.most
      | else-loop-done-test w ↦
          c.loop-done.invariant.often n
          ∙ ap (λ done. seen - done)
          (done_all c.loop-done.done c.args.less w.loop-done-test.false c.loop-done.invariant.most)
    ]

-- the count of turns is below `less`, so one more fits in 64 bits
pub overflow_add-done : goal.overflow_add-done
overflow_add-done c = omega (arith, c.loop-done-test.true, c.ranges.less.fits)
