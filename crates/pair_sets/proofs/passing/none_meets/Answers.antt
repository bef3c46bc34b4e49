use Rattle.std.proofs.Common.{ℕ, ◌≡◌, ◌<◌, ◌∙◌, false, get_or, pos, sym, ap, subst, arith}
use Rattle.std.specs.Ordering.{int_cmp}
use Rattle.std.proofs.lemmas.Bool.{cases_lt}
use Rattle.std.proofs.lemmas.List.Elements.{All-from_get_or}
use Rattle.pair_sets.specs.Tested.{meets}
use Rattle.pair_sets.proofs.passing.none_meets.Goals as goal

-- before the first decimal, none meets the comparison
pub loop-place-init : goal.loop-place-init
loop-place-init c k below = absurd (omega (arith, below))

-- after the last decimal, none of all meets the comparison
pub returns : goal.returns
returns c _ =
    All-from_get_or (λ decimal. meets c.args.compare (int_cmp decimal c.args.number.0) ≡ false)
    c.args.reader.indexes.now.decimals (pos 0) (λ k within.
    c.loop-place.invariant k (omega (arith, within, c.decimal_count-place-end.ensures)))
