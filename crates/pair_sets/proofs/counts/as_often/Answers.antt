use Rattle.std.proofs.Common.{◌+◌, ◌==◌, ◌∙◌, ap, arith}
use Rattle.std.specs.Prelude.{nat_le}
use Rattle.std.proofs.lemmas.Bool.{le-leb}
use Rattle.std.proofs.lemmas.List.Sums.{count_by-le-length}
use Rattle.number_lists.proofs.WhereLemmas.{numbers_where-agree}
use Rattle.idset.proofs.Normal.{other_items-numbers_where}
use Rattle.idset.specs.Sets.{other_items}
use Rattle.constraint_tree.specs.Passing.{is_up_to, lies_in}
use Rattle.number_lists.specs.Members.{times}
use Rattle.pair_sets.proofs.TimesLemmas.{allowed, up_to}
use Rattle.pair_sets.proofs.counts.as_often.Goals as goal
use Rattle.pair_sets.proofs.counts.as_often.Goals.{in_default-via-in-Some+else-most-numbers, in_default-via-in_default}

-- the numbers that stand in the list at least `min` times, but not more than `max` times, lie in the cardinality
pub returns-in_ok-left-in-Some-clause-items : goal.returns-in_ok-left-in-Some-clause-items
returns-in_ok-left-in-Some-clause-items g c =
    ap g.S.ConceptSet.items_of c.of.ensures ∙ c.in_ok-left-in-Some.ensures.items
    ∙ (λ i. other_items (c.in_ok-enough.ensures.items i) (c.in_ok-more-in-Some.ensures.items i))
    ∙ other_items-numbers_where c.args.bound
    (λ n. nat_le c.args.count.min (times n c.args.numbers.now))
    (λ n. nat_le (c.in-Some.most + 1) (times n c.args.numbers.now))
    ∙ numbers_where-agree c.args.bound _ (λ n. lies_in c.args.count (times n c.args.numbers.now))
    (λ n within. up_to c.args.count c.in-Some.most (times n c.args.numbers.now) c.in-Some.is)

-- if no number can stand in the list more than `max` times, those that stand there at least `min` times lie in the
-- cardinality
pub returns-in_default-clause-items : goal.returns-in_default-clause-items
returns-in_default-clause-items g c =
    let numbers = c.args.numbers.now in
    let count = c.args.count in
    ap g.S.ConceptSet.items_of c.of-in_default.ensures ∙ c.in_ok-enough.ensures.items
    ∙ numbers_where-agree c.args.bound (λ n. nat_le count.min (times n numbers)) (λ n. lies_in count (times n numbers))
    (λ n within.
    let seen = times n numbers in
    allowed count seen (elim c.in_default.branch [
      | in_default-via-in-Some+else-most-numbers w ↦
          ap (λ most. is_up_to most seen) w.in-Some.is
          ∙ le-leb seen w.in-Some.most
          (omega (arith, count_by-le-length (λ other. other == n) numbers, w.if-most-numbers.false))
      | in_default-via-in_default w ↦ ap (λ most. is_up_to most seen) w.in_default.is
    ]))
