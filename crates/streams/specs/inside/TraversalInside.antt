-- The files and folders that the fields of a `Traversal` hold.
use Rattle.std.specs.Prelude.{map, string_bytes}
use Rattle.streams.specs.Traversal.{Found}
use Rattle.streams.specs.declared.traversal.Traversal.{Traversal}

-- the files and folders that `traversal` has found
abbrev pub found_by : Traversal → Found
found_by traversal = record {
  files = map string_bytes traversal.files.items;
  folders = map string_bytes traversal.folders.items;
}
