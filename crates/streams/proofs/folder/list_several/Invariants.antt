use Rattle.std.proofs.Common.{◌≡◌, ◌+◌, ◌++◌, ℕ, List, Some, drop, map, string_bytes}
use Rattle.streams.specs.Traversal.{AreFilesOfAll, FolderTree}
use Rattle.streams.proofs.folder.list_several.Given as goal

-- the names listed so far, followed by those of the files of the folders ahead, are the names of all files
abbrev pub invariant-loop-index : goal.invariant-loop-index
invariant-loop-index g l =
    (tree : FolderTree) (others : List (List ℕ)) → g.R.FolderSystem.tree l.rt ≡ Some tree
    → AreFilesOfAll tree (l.index + 1) (drop l.index l.folders) others
    → AreFilesOfAll tree 1 l.folders (map string_bytes l.names.items ++ others)
