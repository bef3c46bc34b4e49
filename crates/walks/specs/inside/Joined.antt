-- How the lists of several concepts are joined: long lists first, and no list whose concept is
-- already found.
use Rattle.std.specs.Prelude.{ℕ, ◌≡◌, ◌+◌, ◌-◌, Bool, true, false, List, filter, length, nat_le}
use Rattle.std.specs.Bool.{beq}
use Rattle.std.specs.List.{list_any}
use Rattle.number_lists.specs.Members.{has}
use Rattle.number_lists.specs.KeyedLists.{list_of}
use Rattle.walks.specs.declared.family.Family.{Family}
use Rattle.walks.specs.declared.family.Family.TheVariants as family

-- whether a family is transitive, so that the list of a concept contains the lists of all concepts
-- in it
abbrev pub is_whole : Family → Bool
is_whole family.Ancestors = true
is_whole family.Descendants = true
is_whole family.Parents = false
is_whole family.Children = false

-- the family that goes one is-a row in the same direction
abbrev pub direct_of : Family → Family
direct_of family.Ancestors = family.Parents
direct_of family.Descendants = family.Children
direct_of family.Parents = family.Parents
direct_of family.Children = family.Children

-- the family of the opposite direction
abbrev pub opposite_of : Family → Family
opposite_of family.Ancestors = family.Descendants
opposite_of family.Descendants = family.Ancestors
opposite_of family.Parents = family.Children
opposite_of family.Children = family.Parents

-- which place of an order with parents before children a pass visits at step `turn` of `turns`:
-- each concept comes before the concepts in its direct list
abbrev pub turn_of : Family → ℕ → ℕ → ℕ
turn_of family.Ancestors turns turn = turns - (turn + 1)
turn_of family.Descendants turns turn = turn
turn_of family.Parents turns turn = turns - (turn + 1)
turn_of family.Children turns turn = turn

-- whether a list has at least 64 items, so that it is joined before the short ones
abbrev pub is_long : List ℕ → Bool
is_long list = nat_le 64 (length list)

-- the concepts of `concepts` whose lists are long, or short if `long` is false
abbrev pub with_length : List (List ℕ) → Bool → List ℕ → List ℕ
with_length lists long concepts =
    filter (λ concept. beq (is_long (list_of lists concept)) long) concepts

-- `numbers` has exactly the numbers that are in the list of at least one of `concepts`
abbrev pub AreJoined : List (List ℕ) → List ℕ → List ℕ → Type 0
AreJoined lists concepts numbers =
    (number : ℕ) → has numbers number ≡ list_any (λ concept. has (list_of lists concept) number)
    concepts
