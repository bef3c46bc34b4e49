use Rattle.std.proofs.Common.{◌≡◌, ◌-◌, [], List, ℕ, Some, map, string_bytes}
use Rattle.streams.specs.Traversal.{AreFilesBelow, Descends, FolderTree}
use Rattle.streams.specs.inside.TraversalInside.{found_by}
use Rattle.streams.proofs.traversal.list_files.Given as goal

-- going through the levels that are left ends as going through all levels does, and no folder of the next level was
-- found yet
abbrev pub invariant-loop-turn : goal.invariant-loop-turn
invariant-loop-turn g l = record {
  ahead : (tree : FolderTree) (names : List (List ℕ)) → g.R.FolderSystem.tree l.rt ≡ Some tree
      → Descends tree l.folder (17 - l.turn) (map string_bytes l.level.items) l.traversal.entered
      (found_by l.traversal).files names
      → AreFilesBelow tree l.folder names;
  none : (found_by l.traversal).folders ≡ [];
}
