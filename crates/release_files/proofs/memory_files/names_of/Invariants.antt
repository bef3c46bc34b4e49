use Rattle.std.proofs.Common.{◌≡◌, map, take, string_bytes}
use Rattle.release_files.proofs.memory_files.names_of.Given as goal

-- the list has the names of the files so far
abbrev pub invariant-loop-file : goal.invariant-loop-file
invariant-loop-file l = map string_bytes l.names.items ≡ map (λ file. file.name.now) (take l.file-index l.files)
