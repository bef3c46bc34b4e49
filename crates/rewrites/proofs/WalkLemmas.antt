-- A walk of a walk, both along one transitive test.
use Rattle.std.proofs.Common.{ℕ, ◌≡◌, ◌&&◌, ◌||◌, Bool, true, List, inl, inr}
use Rattle.std.proofs.lemmas.Bool.{and_parts, and_from, or_cases, or_left}
use Rattle.release_model.specs.Release.{Release}
use Rattle.hierarchy.specs.Hierarchy.{reaches}
use Rattle.hierarchy.proofs.HierarchyLemmas.{chain_from_test, test_from_chain, chain_of_two}
use Rattle.constraint_tree.specs.Walks.{has_concept, some_member}
use Rattle.number_lists.proofs.ListLemmas.{passing_item, some_item_passes}
use Rattle.constraint_tree.proofs.WalkLemmas.{tells_in_force}
use Rattle.rewrites.proofs.BoolLemmas.{same_if}

-- a test of two concepts is transitive: if it is true for `from` and `between`, and for `between` and `to`, it is
-- true for `from` and `to`
abbrev pub IsTransitive : (ℕ → ℕ → Bool) → Type 0
IsTransitive leads = (from between to : ℕ) → leads from between ≡ true → leads between to ≡ true → leads from to ≡ true

-- to be a descendant is transitive
pub below_is_transitive : (rows : List (ℕ × ℕ)) → IsTransitive (λ (from to : ℕ). reaches rows from to)
below_is_transitive rows from between to first then =
    test_from_chain rows (chain_of_two (chain_from_test rows from between first) (chain_from_test rows between to then))

-- to be an ancestor is transitive
pub above_is_transitive : (rows : List (ℕ × ℕ)) → IsTransitive (λ (from to : ℕ). reaches rows to from)
above_is_transitive rows from between to first then =
    test_from_chain rows (chain_of_two (chain_from_test rows to between then) (chain_from_test rows between from first))

module _ (release : Release) (set : ℕ → Bool) (leads : ℕ → ℕ → Bool) (transitive : IsTransitive leads) where
  -- whether a concept is in force and leads to a concept of the set
  abbrev beyond : ℕ → Bool
  beyond member = has_concept release member && some_member release set (leads member)

  -- whether a concept is in force and is in the set or leads to a concept of the set
  abbrev there : ℕ → Bool
  there member = has_concept release member && (set member || some_member release set (leads member))

  -- a concept leads to a concept of the set if it leads to one that does
  by_two : (concept between : ℕ) → leads concept between ≡ true → some_member release set (leads between) ≡ true
      → some_member release set (leads concept) ≡ true
  by_two concept between first holds =
      let found = passing_item (λ member. set member && leads between member) release.concepts holds in
      let parts = and_parts (set found.0) (leads between found.0) found.2 in
      some_item_passes (λ member. set member && leads concept member) release.concepts found.0 found.1
      (and_from _ _ parts.0 (transitive concept between found.0 first parts.1))

  -- if `leads` is true for `concept` and some concept in force, and for this one and a member of the set, then it is
  -- true for `concept` and a member of the set
  pub beyond_twice : (concept : ℕ) → some_member release beyond (leads concept) ≡ true
      → some_member release set (leads concept) ≡ true
  beyond_twice concept holds =
      let found = passing_item (λ member. beyond member && leads concept member) release.concepts holds in
      let parts = and_parts (beyond found.0) (leads concept found.0) found.2 in
      let inner = and_parts (has_concept release found.0) (some_member release set (leads found.0)) parts.0 in
      by_two concept found.0 parts.1 inner.1

  -- a concept leads to a concept of the set if it leads to one that is in the set or leads there
  there_then : (concept : ℕ) → some_member release there (leads concept) ≡ true
      → some_member release set (leads concept) ≡ true
  there_then concept holds =
      let found = passing_item (λ member. there member && leads concept member) release.concepts holds in
      let parts = and_parts (there found.0) (leads concept found.0) found.2 in
      let inner =
      and_parts (has_concept release found.0) (set found.0 || some_member release set (leads found.0)) parts.0 in
      elim (or_cases (set found.0) (some_member release set (leads found.0)) inner.1) [
        | inl here ↦
            some_item_passes (λ member. set member && leads concept member) release.concepts found.0 found.1
            (and_from _ _ here parts.1)
        | inr further ↦ by_two concept found.0 parts.1 further
      ]

  -- a concept leads to one that is in the set or leads there if it leads to a concept of the set
  then_there : (concept : ℕ) → some_member release set (leads concept) ≡ true
      → some_member release there (leads concept) ≡ true
  then_there concept holds =
      let found = passing_item (λ member. set member && leads concept member) release.concepts holds in
      let parts = and_parts (set found.0) (leads concept found.0) found.2 in
      some_item_passes (λ member. there member && leads concept member) release.concepts found.0 found.1
      (and_from _ _ (and_from _ _ ((tells_in_force release found.0).1 found.1) (or_left _ _ parts.0)) parts.1)

  -- `leads` is true for `concept` and a member of the set exactly if it is true for `concept` and some concept in
  -- force that is in the set or for which `leads` is true with a member of it
  pub there_same : (concept : ℕ) → some_member release there (leads concept) ≡ some_member release set (leads concept)
  there_same concept = same_if _ _ (there_then concept) (then_there concept)
