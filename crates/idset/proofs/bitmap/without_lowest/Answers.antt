use Rattle.std.proofs.Common.{◌≡◌, ◌∙◌, arith, drop, sym, w64}
use Rattle.std.proofs.lemmas.Nat.Bits.{bit_at-trailing_zeros}
use Rattle.idset.specs.Words.{numbers_in}
use Rattle.idset.proofs.MarkLemmas.{all_left_out, lowest_left_out}
use Rattle.idset.proofs.bitmap.without_lowest.Goals as goal

-- clearing one bit more drops one number more
pub loop-preserved : goal.loop-preserved
loop-preserved c =
    let lowest = bit_at-trailing_zeros w64 c.loop.left (omega arith) c.loop.auto.left-fits.fits in
    λ first. lowest_left_out first c.args.word c.loop.left _ c.loop.counter lowest.0 lowest.1 lowest.2
    (c.loop.invariant first)

-- a word of 0 has no number, whatever is still to be dropped
pub returns-then-left-eq0 : goal.returns-then-left-eq0
returns-then-left-eq0 c =
    λ first. all_left_out first c.args.word c.loop.counter c.args.count (omega arith)
    ((λ i. numbers_in first (sym c.if-left-eq0.true i)) ∙ c.loop.invariant first)

-- the word that is left stands for the numbers after the first `count`
pub returns : goal.returns
returns c =
    let whole : c.loop.counter ≡ c.args.count = omega arith in
    λ first. c.loop.invariant first ∙ (λ i. drop (whole i) (numbers_in first c.args.word))
