use Rattle.std.proofs.Common.{List, ℕ, ap, arith, length, length-append}
use Rattle.postings.proofs.first_keys.FirstKeys.len.Goals as goal

-- the few and the others are together as many as the keys
pub returns : goal.returns
returns c =
    omega (
      arith,
      c.len-2.ensures,
      c.len-3.ensures.count,
      length-append c.self.inside.few.items c.self.inside.others,
      ap (λ (keys : List ℕ). length keys) c.self.view_is,
    )
