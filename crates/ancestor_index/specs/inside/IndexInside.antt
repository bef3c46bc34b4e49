-- The hierarchy that the fields of the index hold, and the invariant of the fields.
use Rattle.std.specs.Prelude.{◌<◌, ◌^◌, length}
use Rattle.ancestor_index.specs.HierarchyLists.{Hierarchy}
use Rattle.ancestor_index.specs.Wide.{AreWide}
use Rattle.ancestor_index.specs.declared.index.AncestorIndex.TheInside.{Inside}

-- the hierarchy that the fields of the index hold
abbrev pub hierarchy_in : Inside → Hierarchy
hierarchy_in inside = record {
  ancestors = inside.ancestors;
  descendants = inside.descendants;
  parents = inside.parents;
  children = inside.children;
}

-- the bitmaps of the long lists of descendants are kept besides the lists
abbrev pub HasWide : Inside → Type 0
HasWide inside =
    (length inside.descendants < 2 ^ 32)
    × AreWide (length inside.descendants) inside.descendants inside.wide.ends.items
    inside.wide.words.items
