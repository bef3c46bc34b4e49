use Rattle.std.proofs.Common.{ℕ, List, length, ap, arith}
use Rattle.number_lists.proofs.CutLemmas.{length-cut}
use Rattle.held_release.proofs.texts.Texts.len.Goals as goal

-- there is one text less than starts
pub returns : goal.returns
returns c =
    omega (
      arith,
      c.len.ensures,
      ap (λ (xs : List (List ℕ)). length xs) c.self.view_is,
      length-cut c.self.inside.starts.items c.self.inside.bytes.items,
    )
