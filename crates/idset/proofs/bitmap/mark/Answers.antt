use Rattle.std.proofs.Common.{arith}
use Rattle.idset.proofs.MarkLemmas.{is_set-mark}
use Rattle.idset.proofs.bitmap.mark.Goals as goal

-- setting the bit of `number` sets this number and no other
pub returns : goal.returns
returns c = λ n. is_set-mark c.args.words.now c.args.number n (omega (arith, c.requires))
