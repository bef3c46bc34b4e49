use Rattle.std.proofs.Common.{◌≡◌, map, drop}
use Rattle.release_files.specs.Source.{bytes_of, file_text}
use Rattle.release_files.proofs.memory_files.file_named.Given as goal

-- none of the files so far is called `name`
abbrev pub invariant-loop-file : goal.invariant-loop-file
invariant-loop-file l = bytes_of l.name (map file_text l.files)
    ≡ bytes_of l.name (map file_text (drop l.file-index l.files))
