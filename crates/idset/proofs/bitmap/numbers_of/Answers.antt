use Rattle.std.proofs.Common.{◌≡◌, ◌∙◌, ◌*◌, arith, length}
use Rattle.number_lists.specs.Rising.{numbers_where}
use Rattle.idset.specs.Words.{is_set}
use Rattle.idset.proofs.MarkLemmas.{numbers_step, numbers_all}
use Rattle.idset.proofs.bitmap.numbers_of.Goals as goal

-- with one word more, the numbers are those of the first `place + 1` words
pub loop-place-preserved : goal.loop-place-preserved
loop-place-preserved c =
    numbers_step c.args.words.now c.loop-place.numbers.items c.push_bits.new.numbers.items c.loop-place.place
    c.loop-place.invariant c.in_ok-push_bits.ensures

-- the numbers of all words are the numbers below `bound` whose bit is set
pub returns : goal.returns
returns c =
    let end : c.loop-place.place ≡ length c.args.words.now = omega arith in
    c.loop-place.invariant ∙ (λ i. numbers_where (64 * end i) (is_set c.args.words.now))
    ∙ numbers_all c.args.bound c.args.words.now c.requires
