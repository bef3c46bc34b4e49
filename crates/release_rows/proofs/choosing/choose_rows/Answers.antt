use Rattle.std.proofs.Common.{None, ap, arith, length}
use Rattle.row_lists.specs.ListsRead.{listed_in}
use Rattle.release_rows.specs.inside.RowsInside.{kept_in}
use Rattle.release_rows.proofs.ReadFromLemmas.{are-seen, conflict-seen, count-seen, read-found}
use Rattle.release_rows.proofs.TakingLemmas.{at_told, if_told}
use Rattle.release_rows.proofs.choosing.choose_rows.Goals as goal

-- there are never more rows than can be numbered within the limits, so that fault is not answered wrongly
pub returns-then-keys-clause-err : goal.returns-then-keys-clause-err
returns-then-keys-clause-err g c =
    if_told _ (g.P.PlaceSource.places c.args.files.now) (λ places told other own limits room seen.
    absurd (omega (
      arith,
      count-seen limits places (kept_in c.args.rows) None seen,
      seen.few,
      ap length
          c.keys.ensures.keys,
      room,
      c.if-keys.true,
    )))

-- if choices are found or not needed, the lists that are kept are made of the chosen rows of the places
pub returns-in_ok-read-in-Ok-clause-ok : goal.returns-in_ok-read-in-Ok-clause-ok
returns-in_ok-read-in-Ok-clause-ok g c = if_told _ (g.P.PlaceSource.places c.args.files.now) (λ places told limits seen.
    let read = c.in_ok-read-in-Ok in
    read-found limits places (kept_in c.args.rows) read.read.count seen read.ensures.count c.in-Ok.choices
    (at_told _ _ places told c.in-Ok.ensures.ok) (listed_in read.read.lists) read.ensures.lists)

-- a conflict that is found among the rows is the first fault of the places
pub returns-in-Err-clause-err : goal.returns-in-Err-clause-err
returns-in-Err-clause-err g c =
    if_told _ (g.P.PlaceSource.places c.args.files.now) (λ places told other own limits room seen.
    conflict-seen limits places (kept_in c.args.rows) None c.in-Err.fault seen
    (at_told _ _ places told c.in-Err.ensures.err other own seen.seen seen.beyond
    (are-seen limits places (kept_in c.args.rows) None seen)))
