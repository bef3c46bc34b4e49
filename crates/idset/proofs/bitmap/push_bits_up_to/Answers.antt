use Rattle.std.proofs.Common.{◌∙◌, ◌++◌, arith, ap, sym, take, w64}
use Rattle.std.proofs.lemmas.Nat.Bits.{bit_at-trailing_zeros}
use Rattle.idset.specs.Words.{numbers_in}
use Rattle.idset.proofs.MarkLemmas.{lowest_told, none_in}
use Rattle.idset.proofs.Pages.{front_whole}
use Rattle.idset.proofs.bitmap.push_bits_up_to.Goals as goal

-- pushing the number of the lowest bit and clearing the bit leaves all numbers unchanged, and the list within `most`
pub loop-left-preserved : goal.loop-left-preserved
loop-left-preserved c =
    let left = c.loop-left.left in
    let lowest = bit_at-trailing_zeros w64 left (omega arith) c.loop-left.auto.left-fits.fits in
    record {
      told = lowest_told c.args.first left _ c.loop-left.numbers.items c.push.new.self.items
          lowest.0 lowest.1 lowest.2 c.in_ok-push.ensures.items
          ∙ c.loop-left.invariant.told;
      within = omega arith;
    }

-- if no bit is left, the list is the first `most` of the list and the numbers of the word
pub returns-after-loop-left : goal.returns-after-loop-left
returns-after-loop-left c =
    let told = c.loop-left.numbers.items in
    let first = c.args.first in
    front_whole c.args.most told c.loop-left.invariant.within
    ∙ (λ i. take c.args.most (told ++ sym (none_in first) i))
    ∙ (λ i. take c.args.most (told ++ numbers_in first (sym c.loop-left-test.false i)))
    ∙ ap (take c.args.most) c.loop-left.invariant.told
