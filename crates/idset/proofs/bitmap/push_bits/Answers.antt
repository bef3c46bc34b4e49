use Rattle.std.proofs.Common.{◌∙◌, ◌++◌, append-nil, arith, sym, w64}
use Rattle.std.proofs.lemmas.Nat.Bits.{bit_at-trailing_zeros}
use Rattle.idset.specs.Words.{numbers_in}
use Rattle.idset.proofs.MarkLemmas.{lowest_told, none_in}
use Rattle.idset.proofs.bitmap.push_bits.Goals as goal

-- pushing the number of the lowest bit and clearing the bit leaves all numbers unchanged
pub loop-left-preserved : goal.loop-left-preserved
loop-left-preserved c =
    let left = c.loop-left.left in
    let lowest = bit_at-trailing_zeros w64 left (omega arith) c.loop-left.auto.left-fits.fits in
    lowest_told c.args.first left _ c.loop-left.numbers.items c.push.new.self.items
    lowest.0 lowest.1 lowest.2 c.in_ok-push.ensures.items
    ∙ c.loop-left.invariant

-- if no bit is left, all numbers of the word are pushed
pub returns : goal.returns
returns c =
    sym (append-nil c.loop-left.numbers.items)
    ∙ (λ i. c.loop-left.numbers.items ++ sym (none_in c.args.first) i)
    ∙ (λ i. c.loop-left.numbers.items ++ numbers_in c.args.first (sym c.loop-left-test.false i))
    ∙ c.loop-left.invariant
