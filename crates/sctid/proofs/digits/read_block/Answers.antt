use Rattle.std.proofs.Common.{◌≡◌, get_or, ap, sym, ◌∙◌, arith}
use Rattle.sctid.proofs.Block.{digit_in_text, are_digits, pair, pair-lt, block_pairs, block_value, block_product}
use Rattle.sctid.proofs.Block.{pair_factors, four_pairs}
use Rattle.sctid.proofs.digits.read_block.Goals as goal

-- the third and fourth digits write a number below 100
pub pair_product-requires-clause-pair : goal.pair_product-requires-clause-pair
pair_product-requires-clause-pair c =
    let bytes = c.args.block.now in
    let read = c.to_le_bytes.ensures
    ∙ block_pairs bytes c.from_le_bytes-digits.result c.told-block c.requires c.from_le_bytes-digits.ensures in
    omega (
      arith,
      ap (λ bs. get_or bs 2 0) read,
      pair-lt (digit_in_text bytes) 2
          (are_digits bytes c.told-block c.requires) (omega arith),
    )

-- the first and second digits write a number below 100
pub pair_product-requires-2-clause-pair : goal.pair_product-requires-2-clause-pair
pair_product-requires-2-clause-pair c =
    let bytes = c.args.block.now in
    let read = c.to_le_bytes.ensures
    ∙ block_pairs bytes c.from_le_bytes-digits.result c.told-block c.requires c.from_le_bytes-digits.ensures in
    omega (
      arith,
      ap (λ bs. get_or bs 0 0) read,
      pair-lt (digit_in_text bytes) 0
          (are_digits bytes c.told-block c.requires) (omega arith),
    )

-- the last two digits write a number below 100
pub pair_product-requires-3-clause-pair : goal.pair_product-requires-3-clause-pair
pair_product-requires-3-clause-pair c =
    let bytes = c.args.block.now in
    let read = c.to_le_bytes.ensures
    ∙ block_pairs bytes c.from_le_bytes-digits.result c.told-block c.requires c.from_le_bytes-digits.ensures in
    omega (
      arith,
      ap (λ bs. get_or bs 6 0) read,
      pair-lt (digit_in_text bytes) 6
          (are_digits bytes c.told-block c.requires) (omega arith),
    )

-- the fifth and sixth digits write a number below 100
pub pair_product-requires-4-clause-pair : goal.pair_product-requires-4-clause-pair
pair_product-requires-4-clause-pair c =
    let bytes = c.args.block.now in
    let read = c.to_le_bytes.ensures
    ∙ block_pairs bytes c.from_le_bytes-digits.result c.told-block c.requires c.from_le_bytes-digits.ensures in
    omega (
      arith,
      ap (λ bs. get_or bs 4 0) read,
      pair-lt (digit_in_text bytes) 4
          (are_digits bytes c.told-block c.requires) (omega arith),
    )

-- the four pairs give the number that the eight digits write, and their check product
pub returns : goal.returns
returns c =
    let bytes = c.args.block.now in
    let digit = digit_in_text bytes in
    let small = are_digits bytes c.told-block c.requires in
    let read = c.to_le_bytes.ensures
    ∙ block_pairs bytes c.from_le_bytes-digits.result c.told-block c.requires c.from_le_bytes-digits.ensures in
    let first : get_or c.to_le_bytes.result 0 0 ≡ pair digit 0 = ap (λ bs. get_or bs 0 0) read in
    let second : get_or c.to_le_bytes.result 2 0 ≡ pair digit 2 = ap (λ bs. get_or bs 2 0) read in
    let third : get_or c.to_le_bytes.result 4 0 ≡ pair digit 4 = ap (λ bs. get_or bs 4 0) read in
    let last : get_or c.to_le_bytes.result 6 0 ≡ pair digit 6 = ap (λ bs. get_or bs 6 0) read in
    record {
      number = omega (arith, block_value bytes c.told-block c.requires);
      product =
          four_pairs _ _ _ _ _ _ _ _ _ _ _ c.times.ensures.product c.times-right.ensures.product
          c.times-left.ensures.product
          (c.pair_product-3.ensures.product ∙ pair_factors digit 0 6 _ small (omega arith) last)
          (c.pair_product-4.ensures.product ∙ pair_factors digit 1 4 _ small (omega arith) third)
          (c.pair_product.ensures.product ∙ pair_factors digit 2 2 _ small (omega arith) second)
          (c.pair_product-2.ensures.product ∙ pair_factors digit 3 0 _ small (omega arith) first)
          ∙ sym (block_product bytes c.told-block c.requires);
    }
