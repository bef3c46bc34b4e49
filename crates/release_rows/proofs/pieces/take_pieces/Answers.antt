use Rattle.std.proofs.Common.{ap, string_bytes, arith, ◌∙◌}
use Rattle.release_rows.specs.Files.{places_from, places_of_file}
use Rattle.release_rows.specs.Pieces.{cut_file, FailsAt, listed, text_named, has_kind_at}
use Rattle.release_rows.proofs.TakingLemmas.{Leads, Leads-end, ReadsWithin-trans, if_told}
use Rattle.release_rows.proofs.PiecesLemmas.{fails_at_one, fails_at_file, fails_at_read, kind_at, leads_name}
use Rattle.release_rows.proofs.PiecesLemmas.{places_from-listed, places_from-none, stops_name}
use Rattle.std.proofs.Common.{map, drop, ◌+◌, ◌++◌}
use Rattle.release_rows.proofs.pieces.take_pieces.Goals as goal

-- a file that was gone over keeps the invariant for the next file
pub loop-file-preserved : goal.loop-file-preserved
loop-file-preserved g c =
    let H = g.S.FileSource.history in
    record {
      told = λ known told. leads_name g.T.PlaceTaker.takes g.T.PlaceTaker.refuses _ c.args.taker.now c.loop-file.taker
          c.take_name.new.taker _ (places_of_file c.loop-file.file
          (cut_file c.args.byte_limit (text_named known c.as_str.result.now))) _ c.take_name.result c.in-Ok.field-0
          (rw (← places_from-listed c.args.byte_limit known string_bytes c.loop-file.file c.args.names.now
          c.index-names-file.result c.as_str.result.now c.loop-file-test.true
          (c.as_str.ensures.value ∙ ap string_bytes c.index-names-file.is)) (c.loop-file.invariant.told known told))
          (c.take_name.ensures.goes known (c.loop-file.invariant.files ∙ told)) c.in-Ok.is;
      files = c.in-Ok.ensures.files ∙ c.loop-file.invariant.files;
      failures = c.in-Ok.ensures.failure_is_device ∙ c.loop-file.invariant.failures;
      bounded = ReadsWithin-trans _ (H c.args.source.now) (H c.loop-file.source) (H c.take_name.new.source)
          c.loop-file.invariant.bounded c.in-Ok.ensures.bounded;
    }

-- after the last file all places of the files have been taken
pub returns-clause-ok : goal.returns-clause-ok
returns-clause-ok g c = if_told _ (g.S.FileSource.files c.args.source.now)
    (λ known told. Leads-end g.T.PlaceTaker.takes g.T.PlaceTaker.refuses c.args.taker.now c.loop-file.taker _
    (grind (
      arith,
      (places_from-none c.args.byte_limit known string_bytes c.loop-file.file c.args.names.now),
      c.loop-file-test.false,
      (c.loop-file.invariant.told known told),
    )))

-- if the device failed at a file, the name of this file has a kind
pub returns-in-Err-clause-kind : goal.returns-in-Err-clause-kind
returns-in-Err-clause-kind g c =
    fails_at_read (has_kind_at (map string_bytes c.args.names.now)) c.loop-file.file
    (g.S.FileSource.history c.loop-file.source)
    (g.S.FileSource.history c.take_name.new.source) c.in-Err.fault c.in-Err.ensures.device
    (λ device. kind_at string_bytes c.args.names.now c.loop-file.file c.index-names-file.result c.as_str.result.now
    c.loop-file-test.true (c.as_str.ensures.value ∙ ap string_bytes c.index-names-file.is)
    ∙ c.in-Err.ensures.kind device)

-- if going over a file ends at a fault other than want of memory, the device failed or going over all places stops
-- there
pub returns-in-Err-clause-err : goal.returns-in-Err-clause-err
returns-in-Err-clause-err g c = if_told _ (g.S.FileSource.files c.args.source.now) (λ known told other.
    let all = places_from 0 (map (cut_file c.args.byte_limit) (listed known (map string_bytes c.args.names.now))) in
    let here = places_of_file c.loop-file.file (cut_file c.args.byte_limit (text_named known c.as_str.result.now)) in
    let left = places_from (c.loop-file.file + 1)
    (map (cut_file c.args.byte_limit) (listed known
    (map string_bytes (drop (c.loop-file.file + 1) c.args.names.now)))) in
    let ahead : Leads g.T.PlaceTaker.takes g.T.PlaceTaker.refuses c.args.taker.now all c.loop-file.taker
    (here ++ left) =
    rw (← places_from-listed c.args.byte_limit known string_bytes c.loop-file.file c.args.names.now
    c.index-names-file.result c.as_str.result.now c.loop-file-test.true
    (c.as_str.ensures.value ∙ ap string_bytes c.index-names-file.is)) (c.loop-file.invariant.told known told) in
    let stopped = stops_name g.T.PlaceTaker.takes g.T.PlaceTaker.refuses
    (FailsAt c.loop-file.file (g.S.FileSource.history c.loop-file.source)
    (g.S.FileSource.history c.take_name.new.source)) c.args.taker.now c.loop-file.taker
    c.take_name.new.taker all here left c.take_name.result c.in-Err.fault
    ahead (c.take_name.ensures.goes known (c.loop-file.invariant.files ∙ told)) c.in-Err.is other in
    fails_at_file c.loop-file.file (g.S.FileSource.history c.args.source.now)
    (g.S.FileSource.history c.loop-file.source) (g.S.FileSource.history c.take_name.new.source) c.in-Err.fault
    c.loop-file.invariant.failures stopped)

-- if the device failed, it failed at one of the names, and one failure was counted
pub returns-in-Err-clause-device : goal.returns-in-Err-clause-device
returns-in-Err-clause-device g c device =
    let H = g.S.FileSource.history in
    fails_at_one string_bytes c.args.names.now c.loop-file.file c.index-names-file.result c.as_str.result.now
    (H c.args.source.now) (H c.loop-file.source) (H c.take_name.new.source) c.in-Err.fault c.loop-file-test.true
    (c.as_str.ensures.value ∙ ap string_bytes c.index-names-file.is) c.loop-file.invariant.failures
    (c.in-Err.ensures.device device) (c.in-Err.ensures.failed device)
