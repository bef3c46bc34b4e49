use Rattle.std.proofs.Common.{sym, arith}
use Rattle.std.proofs.lemmas.Str.Parse.{digits_value_short}
use Rattle.numerals.proofs.DigitLemmas.{numerals}
use Rattle.sctid.proofs.Product.{check_product-lt}
use Rattle.sctid.proofs.digits.with_block.Goals as goal

-- the number with the block has at most 18 digits
pub overflow_add-result : goal.overflow_add-result
overflow_add-result c =
    let block = c.args.block.now in
    omega (
      arith,
      c.requires.small,
      c.read_block-right.ensures.number,
      digits_value_short numerals block 8 (sym c.if-not-are_digits.ensures) (omega arith),
    )

-- the check product of the block is an element
pub times-requires-clause-left : goal.times-requires-clause-left
times-requires-clause-left c =
    omega (
      arith,
      c.read_block-right.ensures.product,
      check_product-lt c.args.block.now (sym c.if-not-are_digits.ensures),
    )
