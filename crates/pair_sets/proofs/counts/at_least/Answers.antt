use Rattle.std.proofs.Common.{ℕ, ◌<◌, ◌∙◌, All, List, true, sym, ap, subst, arith}
use Rattle.std.specs.Prelude.{nat_le}
use Rattle.std.proofs.lemmas.Bool.{le-leb}
use Rattle.std.proofs.lemmas.Result.{IfOk-weaker}
use Rattle.number_lists.proofs.WhereLemmas.{numbers_where-agree, numbers_where-all}
use Rattle.number_lists.specs.Members.{has, times}
use Rattle.number_lists.specs.Rising.{numbers_where}
use Rattle.pair_sets.proofs.TimesLemmas.{beyond, has_times}
use Rattle.pair_sets.proofs.counts.at_least.Goals as goal

-- each number below `bound` stands in a list at least 0 times
pub returns-in-0-clause-items : goal.returns-in-0-clause-items
returns-in-0-clause-items g c = IfOk-weaker c.every.result _ _
    (λ found items. items ∙ sym (numbers_where-all c.args.bound)
    ∙ numbers_where-agree c.args.bound (λ n. true) (λ n. nat_le c.args.least (times n c.args.numbers.now))
    (λ n within. sym (le-leb c.args.least (times n c.args.numbers.now) (omega (arith, c.in-0.is)))))
    c.every.ensures.items

-- the numbers that a list has are those that stand in it at least once
pub returns-in-1-clause-items : goal.returns-in-1-clause-items
returns-in-1-clause-items g c = IfOk-weaker c.from_numbers.result _ _
    (λ found items. items
    ∙ numbers_where-agree c.args.bound (has c.args.numbers.now) (λ n. nat_le c.args.least (times n c.args.numbers.now))
    (λ n within. has_times c.args.numbers.now n
    ∙ ap (λ least. nat_le least (times n c.args.numbers.now)) (sym c.in-1.is)))
    c.from_numbers.ensures.items

-- the numbers that are left after `least` - 1 of each are taken are those that stand there at least `least` times
pub returns-in_ok-left-in_default-clause-items : goal.returns-in_ok-left-in_default-clause-items
returns-in_ok-left-in_default-clause-items g c = IfOk-weaker c.from_numbers-in_default.result _ _
    (λ found items. items ∙ ap (λ (xs : List ℕ). numbers_where c.args.bound (has xs)) c.as_slice.ensures.value
    ∙ numbers_where-agree c.args.bound (has c.in_ok-left-in_default.left.items)
    (λ n. nat_le c.args.least (times n c.args.numbers.now))
    (λ n within. has_times c.in_ok-left-in_default.left.items n
    ∙ ap (nat_le 1) (c.in_ok-left-in_default.ensures.times n)
    ∙ beyond c.args.least (times n c.args.numbers.now) (omega arith)))
    c.from_numbers-in_default.ensures.items

-- the numbers that are left are below `bound`
pub from_numbers-requires-in_default : goal.from_numbers-requires-in_default
from_numbers-requires-in_default g c =
    subst (All (λ number. number < c.args.bound)) (sym c.as_slice.ensures.value) c.in_ok-left-in_default.ensures.within
