use Rattle.std.proofs.Common.{map, drop}
use Rattle.release_files.specs.Source.{file_text}
use Rattle.release_rows.specs.Files.{places_from}
use Rattle.release_rows.proofs.TakingLemmas.{Leads}
use Rattle.release_rows.proofs.places.take_files.Given as goal

-- before file `file` the places left decide about all places
abbrev pub invariant-loop-file : goal.invariant-loop-file
invariant-loop-file g l =
    Leads g.T.PlaceTaker.takes g.T.PlaceTaker.refuses l.initial.taker (places_from 0 (map file_text l.files)) l.taker
    (places_from l.file (map file_text (drop l.file l.files)))
