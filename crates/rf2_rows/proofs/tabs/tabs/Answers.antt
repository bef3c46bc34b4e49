-- Each lane of the block is compared with a tab.
use Rattle.std.proofs.Common.{eqb, w8, arith}
use Rattle.std.proofs.lemmas.Simd.{bitmask_splat}
use Rattle.rf2_rows.proofs.tabs.tabs.Goals as goal

-- the mask of the lanes that equal a tab is `tab_bits` of the block
pub returns : goal.returns
returns c = bitmask_splat w8 eqb c.args.block 64 9 c.fits-block.0 (omega arith)
