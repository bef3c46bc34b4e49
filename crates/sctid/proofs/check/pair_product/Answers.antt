use Rattle.std.proofs.Common.{◌+◌, ◌*◌, ◌/◌, ◌%◌, [], slice_index, slice_index_or, ap, ◌∙◌, arith}
use Rattle.sctid.specs.declared.check.TheConstants.{PAIR_PRODUCTS}
use Rattle.sctid.specs.Identifier.{permuted}
use Rattle.sctid.proofs.Group.{table-pair, times-lt, permuted-lt}
use Rattle.sctid.proofs.check.pair_product.Goals as goal

-- the entry of the table is the product of the factors of the two digits, and an element
pub returns : goal.returns
returns c =
    let index = c.args.index in
    let pair = c.args.pair in
    let product = ap (slice_index (slice_index_or PAIR_PRODUCTS index [])) c.from.ensures
    ∙ table-pair index pair c.requires.index c.requires.pair in
    let right_in = permuted-lt (2 * index) (pair % 10) (omega arith) in
    let left_in = permuted-lt (2 * index + 1) (pair / 10) (omega arith) in
    record {
      product = product;
      element = omega (
        arith,
        product,
        times-lt (permuted (2 * index) (pair % 10))
            (permuted (2 * index + 1) (pair / 10)) right_in left_in,
      );
    }
