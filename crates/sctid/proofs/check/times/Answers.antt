use Rattle.std.proofs.Common.{[], slice_index, slice_index_or, ap, ◌∙◌, arith}
use Rattle.sctid.specs.declared.check.TheConstants.{PRODUCTS}
use Rattle.sctid.proofs.Group.{table-times, times-lt}
use Rattle.sctid.proofs.check.times.Goals as goal

-- the entry of the table is the product of `a` and `b`, and an element
pub returns : goal.returns
returns c =
    let product = ap (λ a. slice_index (slice_index_or PRODUCTS a []) c.from-2.result) c.from.ensures
    ∙ ap (slice_index (slice_index_or PRODUCTS c.args.a [])) c.from-2.ensures
    ∙ table-times c.args.a c.args.b c.requires.left c.requires.right in
    record {
      product = product;
      element = omega (arith, product, times-lt c.args.a c.args.b c.requires.left c.requires.right);
    }
