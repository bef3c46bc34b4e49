-- Counts for walks: limits of list items by family, the items that a pass reads, and the items that
-- may be read before it.
use Rattle.std.specs.Prelude.{ℕ, ◌≡◌, ◌≤◌, ◌<◌, ◌+◌, true, List, Option, None, Some, length}
use Rattle.std.specs.List.{concat}
use Rattle.ancestor_index.specs.HierarchyLists.{Hierarchy}
use Rattle.candidates.specs.declared.candidates.ListStats.{ListStats}
use Rattle.reading.specs.declared.counter.Counter.{Counter}
use Rattle.walks.specs.Families.{all_items_of, items_in, lists_of}
use Rattle.walks.specs.Reads.{items_at_most}
use Rattle.walks.specs.inside.Joined.{is_whole, direct_of}
use Rattle.walks.specs.declared.family.Family.{Family}
use Rattle.walks.specs.declared.family.Family.TheVariants as family

-- the limit that statistics have for the lists of a family
abbrev pub told_of : Family → ListStats → ℕ
told_of family.Ancestors lists = lists.ancestors
told_of family.Descendants lists = lists.descendants
told_of family.Parents lists = lists.parents
told_of family.Children lists = lists.children

-- how many items one pass over the is-a rows reads: all `count` concepts in their order, and each
-- is-a link
abbrev pub pass_items : Hierarchy → ℕ → ℕ
pass_items hierarchy count = length (concat hierarchy.parents) + count

-- after the direct lists of `concepts` (parents or children), `room` more items may be read: their
-- whole lists, or a pass if those lists have more items
pub record HasRoom (hierarchy : Hierarchy) (f : Family) (count : ℕ) (concepts : List ℕ) (room : ℕ) :
    Type 0 where
  -- the direct lists and `room` items are together within the limit of a walk
  pub direct : items_in (lists_of hierarchy (direct_of f)) concepts + room
      ≤ items_at_most hierarchy f concepts
  -- a pass reads at most `room` items if the whole lists have more
  pub pass : room < items_in (lists_of hierarchy f) concepts → pass_items hierarchy count ≤ room

-- `most` items of lists and then a pass are together at most the total of all lists
pub record LeavesPass (hierarchy : Hierarchy) (f : Family) (count most : ℕ) : Type 0 where
  -- the family is ancestors or descendants
  pub whole : is_whole f ≡ true
  -- `most` items and a pass have at most as many items as all lists
  pub room : most + pass_items hierarchy count ≤ all_items_of hierarchy f

-- what is counted from `early` to `late` is taken off the limit; there is a limit after exactly if
-- there was one before
abbrev pub Spends : Option ℕ → Option ℕ → Counter → Counter → Type 0
Spends None None early late = Unit {0}
Spends None (Some after) early late = ⊥
Spends (Some before) None early late = ⊥
Spends (Some before) (Some after) early late = late.count + after ≤ early.count + before
