-- The lanes of a block are compared with line feeds.
use Rattle.std.proofs.Common.{eqb, w8, arith}
use Rattle.std.proofs.lemmas.Simd.{bitmask_splat}
use Rattle.release_files.proofs.feeds.feeds.Goals as goal

-- comparing each lane with a line feed yields the bits of the line feeds
pub returns : goal.returns
returns c = bitmask_splat w8 eqb c.args.block 64 10 c.fits-block.0 (omega arith)
