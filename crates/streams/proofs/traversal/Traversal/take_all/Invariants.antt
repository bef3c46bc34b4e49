use Rattle.std.proofs.Common.{◌≡◌, Some, drop, map, string_bytes}
use Rattle.streams.specs.Traversal.{FolderTree, found_in}
use Rattle.streams.specs.inside.TraversalInside.{found_by}
use Rattle.streams.proofs.traversal.Traversal.take_all.Given as goal

-- the names ahead add what all names add, and the folders that were entered stay the same
abbrev pub invariant-loop-name : goal.invariant-loop-name
invariant-loop-name g l = record {
  ahead : (tree : FolderTree) → g.R.FolderSystem.tree l.rt ≡ Some tree
      → found_in tree l.folder l.below (map string_bytes l.names) (found_by l.fn.self)
      ≡ found_in tree l.folder l.below (map string_bytes (drop l.name-index l.names)) (found_by l.self);
  entered : l.self.entered ≡ l.fn.self.entered;
}
