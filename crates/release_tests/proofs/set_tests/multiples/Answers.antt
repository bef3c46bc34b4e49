use Rattle.std.proofs.Common.{◌≡◌, ◌∙◌, ◌%◌, ◌++◌, ◌∷◌, [], List, ℕ, cond, eqb, sym, subst, arith}
use Rattle.number_lists.specs.Rising.{IsRisingBelow, numbers_where}
use Rattle.number_lists.proofs.WhereLemmas.{numbers_where-more}
use Rattle.number_lists.proofs.RisingLemmas.{numbers_where-rising}
use Rattle.release_tests.proofs.set_tests.multiples.Goals as goal

-- a number is added exactly if it is a multiple
pub loop-number-preserved : goal.loop-number-preserved
loop-number-preserved c =
    c.in_ok-push_if.ensures
    ∙ (λ i. c.loop-number.invariant i ++ cond (eqb (c.loop-number.number % c.args.of) 0) (c.loop-number.number ∷ []) [])
    ∙ sym (numbers_where-more c.loop-number.number (λ number. eqb (number % c.args.of) 0))

-- after the last number all multiples are there
pub returns : goal.returns
returns c =
    let end : c.loop-number.number ≡ c.args.bound = omega arith in
    subst (λ (items : List ℕ). IsRisingBelow c.args.bound items)
    (sym (c.loop-number.invariant ∙ (λ i. numbers_where (end i) (λ number. eqb (number % c.args.of) 0))))
    (numbers_where-rising c.args.bound (λ number. eqb (number % c.args.of) 0))
