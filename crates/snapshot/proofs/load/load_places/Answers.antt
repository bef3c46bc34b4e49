use Rattle.row_lists.specs.ListsRead.{read_in}
use Rattle.release_rows.proofs.ApartLemmas.{AreFew-read}
use Rattle.held_release.specs.Contents.{IsFaultOf}
use Rattle.held_release.specs.Finished.{finished}
use Rattle.snapshot.proofs.LoadLemmas.{loaded_from-read}
use Rattle.snapshot.proofs.FaultLemmas.{finished-own, raised_by_none}
use Rattle.release_rows.specs.Pieces.{has_kind_at}
use Rattle.release_rows.proofs.TakingLemmas.{at_told, if_err, if_told}
use Rattle.snapshot.proofs.load.load_places.Goals as goal
use Rattle.std.proofs.Common.{ℕ, ◌∙◌, List, Result, Ok, Err, IfOk, ap, arith, string_bytes, subst, sym}
use Rattle.std.proofs.lemmas.Bool.{false≢true}
use Rattle.std.specs.Result.{IsErr}

-- `IfOk` holds of each result that is a fault
no_ok : {T E : Type 0} (P : T → Type 0) (result : Result T E) → IsErr result → IfOk result P
no_ok P (Ok done) is = absurd (false≢true is)
no_ok P (Err fault) is = tt

-- if the files are told, there are few enough rows to number, so that fault is not answered wrongly
pub returns-then-not-are_few-clause-err : goal.returns-then-not-are_few-clause-err
returns-then-not-are_few-clause-err g c =
    if_told _ (g.P.PlaceSource.places c.args.files.now)
    (λ places told own other. grind (
      arith,
      c.if-not-are_few.true,
      c.are_few.ensures.told,
      (AreFew-read c.args.limits places c.in-Ok.read.count (read_in c.in-Ok.read.lists) c.requires.total
          (at_told _ _ places told c.in-Ok.ensures.ok)),
    ))

-- a snapshot that is finished is the load from the places
pub returns-in_ok-language-in-Ok-clause-ok : goal.returns-in_ok-language-in-Ok-clause-ok
returns-in_ok-language-in-Ok-clause-ok g c = if_told _ (g.P.PlaceSource.places c.args.files.now) (λ places told.
    grind (
      arith,
      c.in_ok-language-in-Ok.ensures.ok,
      (loaded_from-read c.args.limits c.args.lang.now c.args.kinds places c.in-Ok.read.count
          (read_in c.in-Ok.read.lists) (at_told _ _ places told c.in-Ok.ensures.ok)),
      c.finish.ensures.ok,
    ))

-- a fault of finishing is that of the load from the places, or want of memory
pub returns-in_ok-language-in-Ok-clause-err : goal.returns-in_ok-language-in-Ok-clause-err
returns-in_ok-language-in-Ok-clause-err g c = if_told _ (g.P.PlaceSource.places c.args.files.now) (λ places told.
    let count = c.in-Ok.read.count in
    let listed = read_in c.in-Ok.read.lists in
    let is =
    ap (λ (language : List ℕ). finished language c.args.kinds count listed) c.in_ok-language-in-Ok.ensures.ok
    ∙ sym (loaded_from-read c.args.limits c.args.lang.now c.args.kinds places count listed
    (at_told _ _ places told c.in-Ok.ensures.ok)) in
    if_err _ _ c.finish.result (λ fault said own. subst (IsFaultOf fault) is said) c.finish.ensures.err)

-- a fault of finishing is not one of the device
pub returns-in_ok-language-in-Ok-clause-device : goal.returns-in_ok-language-in-Ok-clause-device
returns-in_ok-language-in-Ok-clause-device g c =
    let own = finished-own (string_bytes c.in_ok-language-in-Ok.language) c.args.kinds c.in-Ok.read.count
    (read_in c.in-Ok.read.lists) in
    if_err _ _ c.finish.result (λ fault said device. absurd (false≢true (sym (own fault said).own ∙ device)))
    c.finish.ensures.err

-- a fault of finishing counts no failure
pub returns-in_ok-language-in-Ok-clause-failure_is_device : goal.returns-in_ok-language-in-Ok-clause-failure_is_device
returns-in_ok-language-in-Ok-clause-failure_is_device g c = raised_by_none (g.P.PlaceSource.history c.args.files.now)
    (g.P.PlaceSource.history c.read_rows.new.files) c.finish.result c.in-Ok.ensures.failure_is_device

-- a fault of finishing names no file that failed
pub returns-in_ok-language-in-Ok-clause-kind : goal.returns-in_ok-language-in-Ok-clause-kind
returns-in_ok-language-in-Ok-clause-kind g c =
    let own = finished-own (string_bytes c.in_ok-language-in-Ok.language) c.args.kinds c.in-Ok.read.count
    (read_in c.in-Ok.read.lists) in
    let reads = has_kind_at (g.P.PlaceSource.asked c.args.files.now).names in
    if_err _ _ c.finish.result (λ fault said. (own fault said).kind reads) c.finish.ensures.err

-- a fault of finishing names no file
pub returns-in_ok-language-in-Ok-clause-named : goal.returns-in_ok-language-in-Ok-clause-named
returns-in_ok-language-in-Ok-clause-named g c =
    let own = finished-own (string_bytes c.in_ok-language-in-Ok.language) c.args.kinds c.in-Ok.read.count
    (read_in c.in-Ok.read.lists) in
    if_err _ _ c.finish.result (λ fault said. rw (own fault said).named tt) c.finish.ensures.err

-- a fault of finishing is not that there is no Concept file
pub returns-in_ok-language-in-Ok-clause-found : goal.returns-in_ok-language-in-Ok-clause-found
returns-in_ok-language-in-Ok-clause-found g c =
    let own = finished-own (string_bytes c.in_ok-language-in-Ok.language) c.args.kinds c.in-Ok.read.count
    (read_in c.in-Ok.read.lists) in
    if_err _ _ c.finish.result (λ fault said. (own fault said).found) c.finish.ensures.err

-- if memory is refused, no snapshot is answered
pub returns-in_err-language-in-Ok-clause-ok : goal.returns-in_err-language-in-Ok-clause-ok
returns-in_err-language-in-Ok-clause-ok g c = if_told _ (g.P.PlaceSource.places c.args.files.now) (λ places told.
    no_ok _ c.from_residual.result c.from_residual.ensures.0)
