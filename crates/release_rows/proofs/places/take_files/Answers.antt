use Rattle.std.proofs.Common.{map, arith}
use Rattle.release_files.specs.Source.{file_text}
use Rattle.release_rows.specs.Files.{places_from}
use Rattle.release_rows.proofs.TakingLemmas.{Leads-end, Leads-on, places_from-end, places_from-next, stops_file}
use Rattle.release_rows.proofs.places.take_files.Goals as goal

-- a file that was gone over keeps the invariant for the next file
pub loop-file-preserved : goal.loop-file-preserved
loop-file-preserved g c =
    grind (
      arith,
      (Leads-on g.T.PlaceTaker.takes g.T.PlaceTaker.refuses c.args.taker.now c.loop-file.taker
          c.take_named.new.taker (places_from 0 (map file_text c.args.files.now))),
      (places_from-next c.loop-file.file c.args.files.now),
      c.loop-file-test.true,
      c.loop-file.invariant,
      c.in-Ok.ensures.ok,
    )

-- after the last file all places have been taken
pub returns-clause-ok : goal.returns-clause-ok
returns-clause-ok g c = grind (
  arith,
  Leads-end,
  (places_from-end c.loop-file.file c.args.files.now c.loop-file-test.false),
  c.loop-file.invariant,
)

-- if a place of a file is refused, going over all places stops there
pub returns-in-Err-clause-err : goal.returns-in-Err-clause-err
returns-in-Err-clause-err g c other =
    stops_file g.T.PlaceTaker.takes g.T.PlaceTaker.refuses c.args.taker.now c.loop-file.taker c.take_named.new.taker
    (places_from 0 (map file_text c.args.files.now)) c.loop-file.file c.args.files.now _ c.in-Err.fault
    c.loop-file-test.true c.loop-file.invariant (c.in-Err.ensures.err other)
