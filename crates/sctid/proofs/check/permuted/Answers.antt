use Rattle.std.proofs.Common.{◌%◌, [], slice_index, slice_index_or, ap, ◌∙◌, arith}
use Rattle.sctid.specs.declared.check.TheConstants.{PERMUTATIONS}
use Rattle.sctid.proofs.Group.{table-permuted, permuted-lt}
use Rattle.sctid.proofs.check.permuted.Goals as goal

-- the entry of the table is the digit permuted as its place asks, and an element
pub returns : goal.returns
returns c =
    let digit = ap (slice_index (slice_index_or PERMUTATIONS (c.args.place % 8) [])) c.from.ensures
    ∙ table-permuted c.args.place c.args.digit c.requires in
    record {
      digit = digit;
      element = omega (arith, digit, permuted-lt c.args.place c.args.digit c.requires);
    }
