-- A constraint denotes only concepts in force.
use Rattle.std.proofs.Common.{ℕ, ◌≡◌, inl, inr, Bool, true}
use Rattle.std.proofs.lemmas.Bool.{false≢true, or_cases, and_parts}
use Rattle.release_model.specs.Release.{Release}
use Rattle.constraint_tree.specs.Walks.{has_concept}
use Rattle.constraint_tree.proofs.WalkLemmas.{tells_in_force}
use Rattle.constraint_tree.specs.Denotation.{denotes, some_denotes, follows, is_value, DenotesConceptsInForce}
use Rattle.constraint_tree.specs.Tree.{Tree, concept_tree, any_tree, walk_tree, member_tree, and_tree, or_tree}
use Rattle.constraint_tree.specs.Tree.{minus_tree, dotted_tree, refined_tree, Trees, no_trees, tree_then}

-- every value that names lead to from `set` is in force if every member of `set` is
follows_in_force : (names : Trees) (release : Release) (set : ℕ → Bool)
    → ((value : ℕ) → set value ≡ true → has_concept release value ≡ true) → (concept : ℕ)
    → follows release set names concept ≡ true → has_concept release concept ≡ true
follows_in_force no_trees release set each concept holds = each concept holds
follows_in_force (tree_then name names) release set each concept holds =
    follows_in_force names release (is_value release set (denotes release name))
    (λ value found. (and_parts (has_concept release value) _ found).0) concept holds

-- Each concept that a tree denotes is in force.
mutual
  -- a concept that a tree denotes is in force
  in_force_if_denoted : (release : Release) (tree : Tree) (concept : ℕ) → denotes release tree concept ≡ true
      → has_concept release concept ≡ true
  in_force_if_denoted release (concept_tree number) concept holds = (and_parts (has_concept release concept) _ holds).0
  in_force_if_denoted release any_tree concept holds = holds
  in_force_if_denoted release (walk_tree operator operand) concept holds =
      (and_parts (has_concept release concept) _ holds).0
  in_force_if_denoted release (member_tree operand) concept holds = (and_parts (has_concept release concept) _ holds).0
  in_force_if_denoted release (and_tree parts) concept holds = (and_parts (has_concept release concept) _ holds).0
  in_force_if_denoted release (or_tree parts) concept holds = in_force_if_some_denotes release parts concept holds
  in_force_if_denoted release (minus_tree first second) concept holds =
      in_force_if_denoted release first concept (and_parts (denotes release first concept) _ holds).0
  in_force_if_denoted release (dotted_tree start names) concept holds =
      follows_in_force names release (denotes release start)
      (λ value found. in_force_if_denoted release start value found) concept holds
  in_force_if_denoted release (refined_tree focus refinement) concept holds =
      in_force_if_denoted release focus concept (and_parts (denotes release focus concept) _ holds).0

  -- a concept that at least one tree of a list denotes is in force
  in_force_if_some_denotes : (release : Release) (trees : Trees) (concept : ℕ)
      → some_denotes release trees concept ≡ true → has_concept release concept ≡ true
  in_force_if_some_denotes release no_trees concept holds = absurd (false≢true holds)
  in_force_if_some_denotes release (tree_then first rest) concept holds =
      elim (or_cases (denotes release first concept) _ holds) [
        | inl here ↦ in_force_if_denoted release first concept here
        | inr later ↦ in_force_if_some_denotes release rest concept later
      ]

-- for every release, each concept that a constraint denotes is in force
pub denotes_concepts_in_force : DenotesConceptsInForce
denotes_concepts_in_force release tree concept holds =
    (tells_in_force release concept).0 (in_force_if_denoted release tree concept holds)
