-- How contracts see files in memory, and the invariant of their fields.
use Rattle.std.specs.Prelude.{◌≤◌, map, option_map}
use Rattle.release_files.specs.MemorySource.{MemorySource}
use Rattle.release_files.specs.Source.{file_text}
use Rattle.release_files.specs.declared.memory_files.MemoryFiles.TheInside.{Inside}

-- the source that the fields of a `MemoryFiles` describe
abbrev pub source_in : Inside → MemorySource
source_in inside = record {
  files = map file_text inside.files.now;
  rest = inside.rest.now;
  piece = inside.piece;
  fail_at = inside.fail_at;
  calls = inside.calls;
  history = record {
    failures = inside.failures;
    opened = option_map (λ name. name.now) inside.opened;
    failed = option_map (λ name. name.now) inside.failed;
    taken = inside.taken;
    most = inside.most;
    unlisted = inside.unlisted;
  };
}

-- one read may give at least one byte
abbrev pub HasPieces : Inside → Type 0
HasPieces inside = 1 ≤ inside.piece
