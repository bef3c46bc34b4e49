-- The alternatives of a leaf (a node that counts pairs of concepts or of groups): which choices it
-- offers, how many rows each reads, how much the leaf then finds and visits at most, and which is
-- chosen.
use Rattle.std.specs.Prelude.{ℕ, ◌+◌, ◌≡◌, ◌≤◌, ◌&&◌, Bool, true, if◌then◌else◌, IsTrue, min, nat_le}
use Rattle.set_algebra.specs.declared.choice.Choice.{Choice}
use Rattle.set_algebra.specs.declared.choice.Choice.TheVariants.{ByValue, ByType, Scan}
use Rattle.plan_bounds.specs.declared.leaf.Leaf.{Leaf}

-- whether a leaf offers a choice. It offers `ByValue` only if its test is `Within`, and always the
-- others
abbrev pub offers : Bool → Choice → Bool
offers is_within ByValue = is_within
offers is_within ByType = true
offers is_within Scan = true

-- how many rows the leaf reads at most under a choice
abbrev pub leaf_rows : Leaf → Choice → ℕ
leaf_rows leaf ByValue = leaf.value_rows
leaf_rows leaf ByType = leaf.type_rows
leaf_rows leaf Scan = leaf.rows

-- how many concepts or groups are visited in addition: all, if the minimum is 0, because those
-- without a matching pair are then found among all
abbrev pub passed_over : Bool → ℕ → ℕ
passed_over none_pass all = if none_pass then all else 0

-- how many of `all` concepts or groups are found at most, if `found` rows or groups were read: all
-- if the minimum is 0, and otherwise at most `found`
abbrev pub found_by : Bool → ℕ → ℕ → ℕ
found_by none_pass all found = if none_pass then all else min all found

-- how many concepts or groups the leaf finds at most under a choice
abbrev pub leaf_size : Leaf → Choice → ℕ
leaf_size leaf choice = found_by leaf.none_pass leaf.all (leaf_rows leaf choice)

-- how many items the leaf visits at most under a choice, without the visits of its types and its
-- test
abbrev pub leaf_bound : Leaf → Choice → ℕ
leaf_bound leaf ByValue = (leaf.value_size + leaf.value_rows) + passed_over leaf.none_pass leaf.all
leaf_bound leaf ByType = (leaf.type_size + leaf.type_rows) + passed_over leaf.none_pass leaf.all
leaf_bound leaf Scan = leaf.all + leaf.rows

-- the choice with the least bound among those that the leaf offers; of equal bounds the first in
-- the order of `rank`
abbrev pub least_choice : Leaf → Choice
least_choice leaf =
    if leaf.is_within && (nat_le (leaf_bound leaf ByValue) (leaf_bound leaf ByType)
    && nat_le (leaf_bound leaf ByValue) (leaf_bound leaf Scan))
    then ByValue
    else (if nat_le (leaf_bound leaf ByType) (leaf_bound leaf Scan) then ByType else Scan)

-- the order that decides between choices with equal bounds
abbrev pub rank : Choice → ℕ
rank ByValue = 0
rank ByType = 1
rank Scan = 2

-- `choice` is the one that the leaf takes: among the choices that it offers, the first with the
-- least bound
pub record IsLeast (leaf : Leaf) (choice : Choice) : Type 0 where
  -- the leaf offers the choice
  pub offered : IsTrue (offers leaf.is_within choice)
  -- no choice that the leaf offers has a smaller bound
  pub least : (other : Choice) → IsTrue (offers leaf.is_within other)
      → leaf_bound leaf choice ≤ leaf_bound leaf other
  -- each offered choice with an equal bound comes later in the order of `rank`, or is this choice
  pub first : (other : Choice) → IsTrue (offers leaf.is_within other)
      → leaf_bound leaf other ≡ leaf_bound leaf choice → rank choice ≤ rank other
