use Rattle.std.proofs.Common.{◌≡◌, ◌++◌, map, string_bytes, take}
use Rattle.streams.specs.Traversal.{numbered_name}
use Rattle.streams.proofs.folder.add_numbered.Given as goal

-- the list has the names before, and the names so far, each after the number
abbrev pub invariant-loop-name : goal.invariant-loop-name
invariant-loop-name l =
    map string_bytes l.names.items
    ≡ map string_bytes l.fn.names.items ++ map (numbered_name l.number) (map string_bytes (take l.name-index l.own))
