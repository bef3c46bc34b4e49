use Rattle.std.proofs.Common.{◌≡◌, ◌+◌, List, Some, drop, map, string_bytes}
use Rattle.release_files.specs.Source.{FileText}
use Rattle.release_rows.specs.Files.{places_from}
use Rattle.release_rows.specs.Pieces.{cut_file, listed}
use Rattle.release_rows.specs.DeviceFaults.{ReadsWithin}
use Rattle.release_rows.proofs.TakingLemmas.{Leads}
use Rattle.release_rows.proofs.pieces.take_pieces.Given as goal

-- before file `file` the places left decide about all places, the source has read within the bound, and no failure
-- was counted
abbrev pub invariant-loop-file : goal.invariant-loop-file
invariant-loop-file g l = record {
  told : (known : List FileText) → g.S.FileSource.files l.initial.source ≡ Some known
      → Leads g.T.PlaceTaker.takes g.T.PlaceTaker.refuses l.initial.taker
      (places_from 0 (map (cut_file l.byte_limit) (listed known (map string_bytes l.names)))) l.taker
      (places_from l.file (map (cut_file l.byte_limit) (listed known (map string_bytes (drop l.file l.names)))));
  files : g.S.FileSource.files l.source ≡ g.S.FileSource.files l.initial.source;
  failures : (g.S.FileSource.history l.source).failures ≡ (g.S.FileSource.history l.initial.source).failures;
  bounded : ReadsWithin (l.byte_limit + 1) (g.S.FileSource.history l.initial.source) (g.S.FileSource.history l.source);
}
