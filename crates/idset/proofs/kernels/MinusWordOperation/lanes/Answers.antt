use Rattle.std.proofs.Common.{bit_and, bit_xor}
use Rattle.idset.proofs.Vectors.{zip2-zip2}
use Rattle.idset.proofs.kernels.MinusWordOperation.lanes.Goals as goal

-- `and` of a vector and its `xor` with another is `zip2 bit_minus`
pub returns : goal.returns
returns c = zip2-zip2 bit_and bit_xor c.args.one c.args.other
