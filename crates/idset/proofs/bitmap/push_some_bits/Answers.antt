use Rattle.std.proofs.Common.{arith}
use Rattle.idset.specs.Words.{numbers_in}
use Rattle.idset.proofs.Counting.{length-numbers_in}
use Rattle.idset.proofs.Pages.{none_pushed}
use Rattle.idset.proofs.bitmap.push_some_bits.Goals as goal

-- if all numbers of the word are skipped, the list does not change
pub returns-then-count-skipped-clause-items : goal.returns-then-count-skipped-clause-items
returns-then-count-skipped-clause-items c =
    let counted = length-numbers_in c.args.first c.args.word c.ranges.word.fits in
    none_pushed c.args.most c.args.skipped c.args.numbers.now.items (numbers_in c.args.first c.args.word)
    c.requires.most (omega (arith, counted))

-- if all numbers of the word are skipped, `skipped` less their count is left to skip
pub returns-then-count-skipped-clause-left : goal.returns-then-count-skipped-clause-left
returns-then-count-skipped-clause-left c =
    omega (arith, length-numbers_in c.args.first c.args.word c.ranges.word.fits)

-- if some number of the word is not skipped, none is left to skip
pub returns-clause-left : goal.returns-clause-left
returns-clause-left c =
    omega (arith, length-numbers_in c.args.first c.args.word c.ranges.word.fits)
