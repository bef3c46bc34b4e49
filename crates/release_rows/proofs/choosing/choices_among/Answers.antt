use Rattle.std.proofs.Common.{◌∙◌, arith}
use Rattle.std.proofs.lemmas.Bool.Decides.{nat_tests}
use Rattle.release_rows.proofs.NeighbourLemmas.{none_twice}
use Rattle.release_rows.proofs.ReadFromLemmas.{no_conflict-seen}
use Rattle.release_rows.proofs.TakingLemmas.{at_told, if_told}
use Rattle.release_rows.proofs.choosing.choices_among.Goals as goal

-- if no key is repeated, each key occurs at most once, as the answer `None` says
pub returns-then-is_empty-clause-ok : goal.returns-then-is_empty-clause-ok
returns-then-is_empty-clause-ok g c = if_told _ (g.P.PlaceSource.places c.args.files.now) (λ places told.
    rw (← c.keys.ensures.keys) (none_twice c.in_ok-repeated.repeated.items c.keys.result.now
    (grind (arith, nat_tests, c.if-is_empty.ensures)) c.in_ok-repeated.ensures.members))

-- if no key is repeated, no row that was read conflicts with an earlier one
pub returns-then-is_empty-clause-clear : goal.returns-then-is_empty-clause-clear
returns-then-is_empty-clause-clear g c =
    if_told _ (g.P.PlaceSource.places c.args.files.now) (λ places told seen beyond are.
    no_conflict-seen c.keys.result.now seen (c.keys.ensures.keys ∙ are.keys)
    (none_twice c.in_ok-repeated.repeated.items c.keys.result.now
    (grind (arith, nat_tests, c.if-is_empty.ensures)) c.in_ok-repeated.ensures.members))

-- the repeated keys contain each key that occurs twice, as `compare` requires
pub compare-requires-clause-covers : goal.compare-requires-clause-covers
compare-requires-clause-covers g c = rw (← c.keys.ensures.keys) (λ key. (c.in_ok-repeated.ensures.members key).1)

-- if `compare` answers choices, no row that was read conflicts with an earlier one
pub returns-in-Ok-clause-clear : goal.returns-in-Ok-clause-clear
returns-in-Ok-clause-clear g c = if_told _ (g.P.PlaceSource.places c.args.files.now) (λ places told seen beyond are.
    (at_told _ _ places told c.in-Ok.ensures.ok seen beyond are).0)
