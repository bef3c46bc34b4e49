use Rattle.std.proofs.Common.{◌<◌, ◌∙◌, ap, inl, inr, length, refl, subst, sym}
use Rattle.std.proofs.lemmas.Bool.{cases_Bool, false_from_ne_true, false≢true}
use Rattle.row_lists.specs.ListsRead.{listed_in}
use Rattle.release_rows.specs.inside.RowsInside.{kept_in}
use Rattle.release_rows.specs.DeviceFaults.{AskedFiles, FileIs, is_device}
use Rattle.row_lists.specs.declared.fault.LoadFault.{LoadFault}
use Rattle.release_rows.proofs.ReadFromLemmas.{read_unmarked}
use Rattle.release_rows.proofs.TakingLemmas.{at_told, fails_since, if_err, if_ok, if_told}
use Rattle.release_rows.proofs.WentLemmas.{seen-stopped, seen-whole}
use Rattle.release_rows.proofs.choosing.read_rows.Goals as goal

-- if the first pass takes all places, what `choose_rows` answers is read from the places
pub returns-in-Ok-clause-ok : goal.returns-in-Ok-clause-ok
returns-in-Ok-clause-ok g c = if_told _ (g.P.PlaceSource.places c.args.files.now) (λ places told.
    if_ok _ _ c.choose_rows.result
    (λ read said. read_unmarked c.args.limits places read.count (listed_in read.lists) (said c.args.limits
    (seen-whole c.args.limits c.new-rows.result c.take_places.new.taker places c.new-rows.ensures
    (at_told _ _ places told c.in-Ok.ensures.ok))))
    (at_told _ _ places (c.in-Ok.ensures.places ∙ told) c.choose_rows.ensures.ok))

-- if the first pass takes all places, a fault of `choose_rows` is the first fault of the places
pub returns-in-Ok-clause-err : goal.returns-in-Ok-clause-err
returns-in-Ok-clause-err g c = if_told _ (g.P.PlaceSource.places c.args.files.now) (λ places told.
    if_err _ _ c.choose_rows.result (λ fault said other own. said other own c.args.limits c.requires.total
    (seen-whole c.args.limits c.new-rows.result c.take_places.new.taker places c.new-rows.ensures
    (at_told _ _ places told c.in-Ok.ensures.ok)))
    (at_told _ _ places (c.in-Ok.ensures.places ∙ told) c.choose_rows.ensures.err))

-- if the first pass stops, `first_of_faults` answers the first fault of the places
pub returns-in-Err-clause-err : goal.returns-in-Err-clause-err
returns-in-Err-clause-err g c = if_told _ (g.P.PlaceSource.places c.args.files.now) (λ places told other own.
    at_told _ _ places (c.in-Err.ensures.places ∙ told) (c.first_of_faults.ensures.first other own) c.args.limits
    (kept_in c.take_places.new.taker) c.requires.total refl
    (λ known mine. seen-stopped c.args.limits c.new-rows.result c.take_places.new.taker places c.in-Err.fault
    c.new-rows.ensures (at_told _ _ places told c.in-Err.ensures.err known mine)))

-- if the first pass stops and the answer is a failure of the device, it is one at one of the files, and one failure
-- was counted
pub returns-in-Err-clause-device : goal.returns-in-Err-clause-device
returns-in-Err-clause-device g c device = elim (cases_Bool (is_device c.in-Err.fault)) [
  | inl own ↦ rw ((c.first_of_faults.ensures.stays own).0, (c.first_of_faults.ensures.stays own).1)
      (c.in-Err.ensures.device own)
  | inr other ↦
      fails_since (g.P.PlaceSource.asked c.args.files.now).names (g.P.PlaceSource.asked c.take_places.new.self).names
      (g.P.PlaceSource.history c.args.files.now) (g.P.PlaceSource.history c.take_places.new.self)
      (g.P.PlaceSource.history c.first_of_faults.new.files) c.first_of_faults.result
      (ap (λ (asked : AskedFiles). asked.names) c.in-Err.ensures.asked)
      (c.in-Err.ensures.failure_is_device other) (c.first_of_faults.ensures.device other device)
]

-- if the first pass stops, the fault that is answered names one of the files
pub returns-in-Err-clause-named : goal.returns-in-Err-clause-named
returns-in-Err-clause-named g c =
    let Names : LoadFault → AskedFiles → Type 0 = λ fault asked. FileIs (λ file. file < length asked.names) fault in
    subst (Names c.first_of_faults.result) c.in-Err.ensures.asked
    (c.first_of_faults.ensures.named (subst (Names c.in-Err.fault) (sym c.in-Err.ensures.asked) c.in-Err.ensures.named))

-- if the first pass stops, the count of failures rises only if the answer is a failure of the device
pub returns-in-Err-clause-failure_is_device : goal.returns-in-Err-clause-failure_is_device
returns-in-Err-clause-failure_is_device g c other =
    let own = false_from_ne_true _ (λ device.
    false≢true (sym other ∙ ap is_device (c.first_of_faults.ensures.stays device).0 ∙ device)) in
    c.first_of_faults.ensures.failure_is_device other ∙ c.in-Err.ensures.failure_is_device own
