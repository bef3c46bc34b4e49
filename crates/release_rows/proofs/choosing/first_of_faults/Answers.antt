use Rattle.std.proofs.Common.{◌∙◌, Some, ap, arith, length, subst, sym}
use Rattle.release_rows.specs.inside.Keys.{Keyed}
use Rattle.release_rows.specs.inside.FirstPass.{AreSeen}
use Rattle.release_rows.proofs.ReadFromLemmas.{are-seen, conflict-seen, count-seen, fault-seen}
use Rattle.release_rows.proofs.TakingLemmas.{at_told, if_told}
use Rattle.release_rows.proofs.choosing.first_of_faults.Goals as goal

-- there are never more rows than can be numbered within the limits, so that fault is not answered wrongly
pub returns-then-keys-clause-first : goal.returns-then-keys-clause-first
returns-then-keys-clause-first g c other own =
    if_told _ (g.P.PlaceSource.places c.args.files.now) (λ places told limits kept room same seen_by.
    let seen = seen_by (c.is_memory.ensures.other c.if-is_memory.false) (sym c.is_device.ensures
    ∙ c.if-is_device.false) in
    absurd (omega (
      arith,
      count-seen limits places kept (Some c.args.fault) seen,
      seen.few,
      ap (λ (keyed : Keyed). length keyed.keys) same,
      room,
      c.if-keys.true,
      ap length c.keys.ensures.keys,
    )))

-- a conflict among the rows that were read is the first fault of the places
pub returns-in-Err-clause-first : goal.returns-in-Err-clause-first
returns-in-Err-clause-first g c other own =
    if_told _ (g.P.PlaceSource.places c.args.files.now) (λ places told limits kept room same seen_by.
    let seen = seen_by (c.is_memory.ensures.other c.if-is_memory.false) (sym c.is_device.ensures
    ∙ c.if-is_device.false) in
    conflict-seen limits places kept (Some c.args.fault) c.in-Err.conflict seen
    (at_told _ _ places told c.in-Err.ensures.err other own seen.seen seen.beyond
    (subst (λ (keyed : Keyed). AreSeen keyed places seen.seen seen.beyond) same
    (are-seen limits places kept (Some c.args.fault) seen))))

-- if no row that was read conflicts, the fault at which the first pass ended is the first
pub returns-clause-first : goal.returns-clause-first
returns-clause-first g c other own =
    if_told _ (g.P.PlaceSource.places c.args.files.now) (λ places told limits kept room same seen_by.
    let seen = seen_by other own in
    fault-seen limits places kept c.args.fault seen
    (at_told _ _ places told c.in_default.ensures.clear seen.seen seen.beyond
    (subst (λ (keyed : Keyed). AreSeen keyed places seen.seen seen.beyond) same
    (are-seen limits places kept (Some c.args.fault) seen))))
