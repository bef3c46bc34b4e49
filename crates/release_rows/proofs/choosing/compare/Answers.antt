use Rattle.std.proofs.Common.{arith}
use Rattle.std.proofs.lemmas.Bool.Decides.{nat_tests}
use Rattle.release_rows.proofs.CompareLemmas.{compared-all, compared-until}
use Rattle.release_rows.proofs.TakingLemmas.{at_told, if_told}
use Rattle.release_rows.proofs.choosing.compare.Goals as goal

-- if no key is left after the second pass, the marks are the choices among the rows that the first pass read
pub returns-else-not-is_empty-clause-ok : goal.returns-else-not-is_empty-clause-ok
returns-else-not-is_empty-clause-ok g c =
    if_told _ (g.P.PlaceSource.places c.args.files.now) (λ places told seen beyond are.
    let start = c.new-comparing.ensures in
    let all = compared-all c.args.keys.now c.args.repeated.items places seen beyond are c.requires.covers start.few
    c.new-comparing.result start.uuids start.left
    c.new-versions.result start.taken c.new-versions.ensures.repeated c.new-versions.ensures.taken
    c.take_places.new.taker (at_told _ _ places told c.in-Ok.ensures.ok) in
    (all.0, all.2 c.chosen.result.items c.chosen.ensures))

-- files that stay the same have as many rows as before, so no key is left
pub returns-then-not-is_empty-clause-err : goal.returns-then-not-is_empty-clause-err
returns-then-not-is_empty-clause-err g c =
    if_told _ (g.P.PlaceSource.places c.args.files.now) (λ places told other own seen beyond are.
    let start = c.new-comparing.ensures in
    let all = compared-all c.args.keys.now c.args.repeated.items places seen beyond are c.requires.covers start.few
    c.new-comparing.result start.uuids start.left
    c.new-versions.result start.taken c.new-versions.ensures.repeated c.new-versions.ensures.taken
    c.take_places.new.taker (at_told _ _ places told c.in-Ok.ensures.ok) in
    absurd (grind (arith, nat_tests, all.1, c.is_empty.ensures, c.if-not-is_empty.true)))

-- the fault at which the second pass stops is the first conflict of the rows that the first pass read
pub returns-in-Err-clause-err : goal.returns-in-Err-clause-err
returns-in-Err-clause-err g c =
    if_told _ (g.P.PlaceSource.places c.args.files.now) (λ places told other own seen beyond are.
    let start = c.new-comparing.ensures in
    compared-until c.args.keys.now c.args.repeated.items places seen beyond are c.requires.covers start.few
    c.new-comparing.result start.uuids start.left
    c.new-versions.result start.taken c.new-versions.ensures.repeated c.new-versions.ensures.taken
    c.take_places.new.taker c.in-Err.fault (at_told _ _ places told c.in-Err.ensures.err other own))
