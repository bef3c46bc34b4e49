use Rattle.std.proofs.Common.{◌≡◌, ℕ, List, Some, drop, map, string_bytes}
use Rattle.streams.specs.Traversal.{EntersAll, FolderTree, Found}
use Rattle.streams.specs.inside.TraversalInside.{found_by}
use Rattle.streams.proofs.traversal.Traversal.enter_all.Given as goal

-- entering the folders ahead ends as entering all folders of the level does
abbrev pub invariant-loop-below : goal.invariant-loop-below
invariant-loop-below g l =
    (tree : FolderTree) (last : List ℕ) (new : Found) → g.R.FolderSystem.tree l.rt ≡ Some tree
    → EntersAll tree l.folder (map string_bytes (drop l.below-index l.level)) l.self.entered (found_by l.self) last new
    → EntersAll tree l.folder (map string_bytes l.level) l.fn.self.entered (found_by l.fn.self) last new
