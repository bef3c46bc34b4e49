use Rattle.std.proofs.Common.{◌∙◌, ap, arith, filter, take_all}
use Rattle.std.specs.Bool.{beq}
use Rattle.idset.specs.Words.{is_set}
use Rattle.idset.proofs.Places.{filter_step}
use Rattle.idset.proofs.bitmap.marked_among.Goals as goal

-- with one number more, the numbers kept are those of the first `i + 1` whose mark is as wanted
pub loop-number-preserved : goal.loop-number-preserved
loop-number-preserved c =
    filter_step (λ number. beq (is_set c.args.words.now number) c.args.wanted) c.args.numbers.now
    c.loop-number.kept.items c.push_if.new.items.items c.loop-number.number-index _
    (omega arith) c.loop-number.invariant (ap (λ test. beq test c.args.wanted) c.is_marked.ensures)
    c.in_ok-push_if.ensures

-- the numbers kept are all whose mark is as wanted
pub returns : goal.returns
returns c =
    c.loop-number.invariant
    ∙ ap (filter (λ number. beq (is_set c.args.words.now number) c.args.wanted))
    (take_all c.loop-number.number-index c.args.numbers.now c.loop-number-test.false)
