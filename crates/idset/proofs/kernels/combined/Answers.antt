use Rattle.std.proofs.Common.{◌∙◌, arith, drop, length}
use Rattle.std.proofs.lemmas.List.{take_at}
use Rattle.idset.proofs.kernels.combined.Goals as goal

-- the words that `combine` wrote are all words of the result
pub returns : goal.returns
returns g c =
    take_at c.combine.new.out (drop (length c.combine.new.out) c.in_ok-made.made.items) c.in_ok-made.made.len
    (omega (arith, c.combine.auto.out, c.deref_mut.ensures.len))
    ∙ c.combine.ensures
