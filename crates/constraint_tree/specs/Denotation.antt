-- The set of concepts in force that a constraint denotes over a release (Expression Constraint
-- Language, all of its sections on constraints). The definitions are tests that compute.
use Rattle.std.specs.Prelude.{ℕ, Bool, true, false, not, ◌==◌, ◌&&◌, ◌||◌, if◌then◌else◌, IsTrue, List, Contains}
use Rattle.std.specs.Prelude.{filter, count_by}
use Rattle.std.specs.List.{list_any}
use Rattle.release_model.specs.Release.{Release, Value, concept_value}
use Rattle.release_model.specs.Pairs.{Pair, value_eq, out_pairs, in_pairs}
use Rattle.release_model.specs.Groups.{groups_of}
use Rattle.constraint_tree.specs.Passing.{is_within, is_outside, is_number_that, lies_in}
use Rattle.constraint_tree.specs.Tree.{Tree, concept_tree, any_tree, walk_tree, member_tree, and_tree, or_tree}
use Rattle.constraint_tree.specs.Tree.{minus_tree, dotted_tree, refined_tree, Trees, no_trees, tree_then}
use Rattle.constraint_tree.specs.Tree.{RefinementTree, one_refinement, group_refinement, and_refinement, or_refinement}
use Rattle.constraint_tree.specs.Tree.{RefinementTrees, no_refinements, refinement_then, AttributeSetTree, one_set}
use Rattle.constraint_tree.specs.Tree.{and_set, or_set, AttributeSetTrees, no_sets, set_then, AttributeTree}
use Rattle.constraint_tree.specs.Tree.{attribute_tree, TestTree, within_test, outside_test, number_test}
use Rattle.constraint_tree.specs.Walks.{has_concept, walks}

-- whether a concept in force is a member of a reference set in `set` ("Simple Expression
-- Constraints", memberOf)
abbrev pub is_component : Release → (ℕ → Bool) → ℕ → Bool
is_component release set concept =
    has_concept release concept && list_any (λ row. set row.0 && (row.1 == concept)) release.members

-- whether a concept in force is the value of an attribute row whose source is in `sources` and
-- whose type is in `types` ("Refinements", dotted attributes)
abbrev pub is_value : Release → (ℕ → Bool) → (ℕ → Bool) → ℕ → Bool
is_value release sources types concept =
    has_concept release concept
    && list_any
    (λ row. (sources row.source && types row.type_id) && value_eq row.value (concept_value concept))
    release.attributes

-- the pairs that an attribute outside braces counts for a concept: type and value of its own rows,
-- or, with `R`, type and source of the rows whose value it is
abbrev pub counted_pairs : Release → AttributeTree → ℕ → List Pair
counted_pairs release (attribute_tree count reverse name test) concept =
    if reverse then in_pairs release concept else out_pairs release concept

abbrev mutual
  -- whether a constraint denotes `concept`
  pub denotes : Release → Tree → ℕ → Bool
  denotes release (concept_tree number) concept = has_concept release concept && (concept == number)
  denotes release any_tree concept = has_concept release concept
  denotes release (walk_tree operator operand) concept =
      has_concept release concept && walks release operator (denotes release operand) concept
  denotes release (member_tree operand) concept =
      is_component release (denotes release operand) concept
  denotes release (and_tree parts) concept =
      has_concept release concept && all_denote release parts concept
  denotes release (or_tree parts) concept = some_denotes release parts concept
  denotes release (minus_tree first second) concept =
      denotes release first concept && not (denotes release second concept)
  denotes release (dotted_tree start names) concept =
      follows release (denotes release start) names concept
  denotes release (refined_tree focus refinement) concept =
      denotes release focus concept && satisfies release refinement concept

  -- whether every constraint of a list denotes `concept`
  pub all_denote : Release → Trees → ℕ → Bool
  all_denote release no_trees concept = true
  all_denote release (tree_then first rest) concept =
      denotes release first concept && all_denote release rest concept

  -- whether at least one constraint of a list denotes `concept`
  pub some_denotes : Release → Trees → ℕ → Bool
  some_denotes release no_trees concept = false
  some_denotes release (tree_then first rest) concept =
      denotes release first concept || some_denotes release rest concept

  -- whether `concept` is in the set that the names lead to from `set`: each step takes the values
  -- of the members' attributes whose type the next name denotes
  pub follows : Release → (ℕ → Bool) → Trees → ℕ → Bool
  follows release set no_trees concept = set concept
  follows release set (tree_then name names) concept =
      follows release (is_value release set (denotes release name)) names concept

  -- whether a concept satisfies a refinement
  pub satisfies : Release → RefinementTree → ℕ → Bool
  satisfies release (one_refinement attribute) concept =
      has_attribute release attribute (counted_pairs release attribute concept)
  satisfies release (group_refinement count set) concept =
      lies_in count (count_by (has_set release set) (groups_of release concept))
  satisfies release (and_refinement parts) concept = satisfies_all release parts concept
  satisfies release (or_refinement parts) concept = satisfies_some release parts concept

  -- whether a concept satisfies every refinement of a list
  pub satisfies_all : Release → RefinementTrees → ℕ → Bool
  satisfies_all release no_refinements concept = true
  satisfies_all release (refinement_then first rest) concept =
      satisfies release first concept && satisfies_all release rest concept

  -- whether a concept satisfies at least one refinement of a list
  pub satisfies_some : Release → RefinementTrees → ℕ → Bool
  satisfies_some release no_refinements concept = false
  satisfies_some release (refinement_then first rest) concept =
      satisfies release first concept || satisfies_some release rest concept

  -- whether a group, given as the list of its distinct pairs, satisfies an attribute set. No
  -- attribute of a set is read backwards
  pub has_set : Release → AttributeSetTree → List Pair → Bool
  has_set release (one_set attribute) pairs = has_attribute release attribute pairs
  has_set release (and_set parts) pairs = has_all release parts pairs
  has_set release (or_set parts) pairs = has_some release parts pairs

  -- whether a group satisfies every attribute set of a list
  pub has_all : Release → AttributeSetTrees → List Pair → Bool
  has_all release no_sets pairs = true
  has_all release (set_then first rest) pairs =
      has_set release first pairs && has_all release rest pairs

  -- whether a group satisfies at least one attribute set of a list
  pub has_some : Release → AttributeSetTrees → List Pair → Bool
  has_some release no_sets pairs = false
  has_some release (set_then first rest) pairs =
      has_set release first pairs || has_some release rest pairs

  -- whether the number of matching pairs lies in the cardinality of the attribute. A pair matches
  -- if `name` denotes its type and its value passes the test
  pub has_attribute : Release → AttributeTree → List Pair → Bool
  has_attribute release (attribute_tree count reverse name test) pairs =
      lies_in count
      (count_by (λ pair. denotes release name pair.type_id && passes release test pair.value) pairs)

  -- whether a value passes the test of an attribute
  pub passes : Release → TestTree → Value → Bool
  passes release (within_test operand) value = is_within (denotes release operand) value
  passes release (outside_test operand) value = is_outside (denotes release operand) value
  passes release (number_test compare number) value = is_number_that compare number value

-- the concepts that a constraint denotes, in rising order
abbrev pub denotation : Release → Tree → List ℕ
denotation release tree = filter (denotes release tree) release.concepts

-- a constraint denotes only concepts in force
abbrev pub DenotesConceptsInForce : Type 0
DenotesConceptsInForce =
    (release : Release) (tree : Tree) (concept : ℕ) →
    IsTrue (denotes release tree concept) →
    Contains release.concepts concept
