-- The plan of a constraint means what the constraint denotes.
use Rattle.std.proofs.Common.{ℕ, ◌≡◌, ◌&&◌, ◌||◌, not, Bool, true, false, List, refl, ap, ◌∙◌}
use Rattle.std.proofs.Math.Path.{fun_ext}
use Rattle.release_model.specs.Release.{Release, Value}
use Rattle.release_model.specs.Pairs.{Pair}
use Rattle.constraint_tree.specs.declared.operator.Cardinality.{Cardinality}
use Rattle.constraint_tree.specs.Passing.{is_within, is_outside}
use Rattle.constraint_tree.specs.Walks.{has_concept, walks}
use Rattle.constraint_tree.specs.Denotation.{denotes, counted_pairs, all_denote, some_denotes, follows, satisfies}
use Rattle.constraint_tree.specs.Denotation.{satisfies_all, satisfies_some, has_set, has_all, has_some, has_attribute}
use Rattle.constraint_tree.specs.Denotation.{passes, is_value, is_component}
use Rattle.constraint_tree.specs.Tree.{Tree, concept_tree, any_tree, walk_tree, member_tree, and_tree, or_tree}
use Rattle.constraint_tree.specs.Tree.{minus_tree, dotted_tree, refined_tree, Trees, no_trees, tree_then}
use Rattle.constraint_tree.specs.Tree.{RefinementTree, one_refinement, group_refinement, and_refinement, or_refinement}
use Rattle.constraint_tree.specs.Tree.{RefinementTrees, no_refinements, refinement_then, AttributeSetTree, one_set}
use Rattle.constraint_tree.specs.Tree.{and_set, or_set, AttributeSetTrees, no_sets, set_then, AttributeTree}
use Rattle.constraint_tree.specs.Tree.{attribute_tree, TestTree, within_test, outside_test, number_test}
use Rattle.constraint_tree.proofs.DenotationLemmas.{denotes_concepts_in_force}
use Rattle.constraint_tree.proofs.WalkLemmas.{tells_in_force}
use Rattle.set_algebra.specs.Meaning.{means, all_mean, some_means, leads, group_means, all_groups_mean}
use Rattle.set_algebra.specs.Meaning.{some_group_means, value_passes, has_pairs, has_groups, pairs_of}
use Rattle.set_algebra.specs.Lowering.{lowered, lowered_trees, lowered_attribute, lowered_in_group, lowered_refinement}
use Rattle.set_algebra.specs.Lowering.{lowered_refinements, lowered_set, lowered_sets, lowered_test}

-- testing the conjunction of focus and refinement once more for a concept in force changes nothing, since the focus
-- denotes only concepts in force
in_both : (in_force focus holds : Bool) → (focus ≡ true → in_force ≡ true)
    → (in_force && (focus && ((in_force && holds) && true))) ≡ (focus && holds)
in_both true true true is = refl
in_both true true false is = refl
in_both true false holds is = refl
in_both false true holds is = absurd (cc (is refl))
in_both false false holds is = refl

-- under a test for concepts in force, a conjunct that makes that test itself equals one that does not
and_more : (in_force meant holds others rest : Bool) → meant ≡ (in_force && holds)
    → (in_force && others) ≡ (in_force && rest) → (in_force && (meant && others)) ≡ (in_force && (holds && rest))
and_more true meant holds others rest one more = cc
and_more false meant holds others rest one more = refl

-- a test for concepts in force that both disjuncts make may stand before the disjunction instead
or_more : (in_force meant holds others rest : Bool) → meant ≡ (in_force && holds) → others ≡ (in_force && rest)
    → (meant || others) ≡ (in_force && (holds || rest))
or_more true meant holds others rest one more = cc
or_more false meant holds others rest one more = cc

-- the empty disjunction under a test for concepts in force is false
or_none : (in_force : Bool) → false ≡ (in_force && false)
or_none true = refl
or_none false = refl

-- each concept that a constraint denotes is in force
in_force_if_denoted : (release : Release) (tree : Tree) (concept : ℕ) → denotes release tree concept ≡ true
    → has_concept release concept ≡ true
in_force_if_denoted release tree concept holds =
    (tells_in_force release concept).1 (denotes_concepts_in_force release tree concept holds)

-- `has_pairs` does not change if its types and its values are replaced by equal ones
pairs_alike : (count : Cardinality) (pairs : List Pair) (types other : ℕ → Bool) (values others : Value → Bool)
    → types ≡ other → values ≡ others → has_pairs count types values pairs ≡ has_pairs count other others pairs
pairs_alike count pairs types other values others same_types same_values =
    ap (λ (set : ℕ → Bool). has_pairs count set values pairs) same_types
    ∙ ap (λ (set : Value → Bool). has_pairs count other set pairs) same_values

mutual
  -- over each release the plan of a constraint means exactly the concepts that the constraint denotes
  pub same_meaning : (release : Release) (tree : Tree) (concept : ℕ)
      → means release (lowered tree) concept ≡ denotes release tree concept
  same_meaning release (concept_tree number) concept = refl
  same_meaning release any_tree concept = refl
  same_meaning release (walk_tree operator operand) concept =
      ap (λ (set : ℕ → Bool). has_concept release concept && walks release operator set concept)
      (fun_ext (same_meaning release operand))
  same_meaning release (member_tree operand) concept =
      ap (λ (set : ℕ → Bool). is_component release set concept) (fun_ext (same_meaning release operand))
  same_meaning release (and_tree parts) concept =
      ap (λ (holds : Bool). has_concept release concept && holds) (same_all release parts concept)
  same_meaning release (or_tree parts) concept = same_some release parts concept
  same_meaning release (minus_tree first second) concept =
      ap (λ (holds : Bool). holds && not (means release (lowered second) concept)) (same_meaning release first concept)
      ∙ ap (λ (holds : Bool). denotes release first concept && not holds) (same_meaning release second concept)
  same_meaning release (dotted_tree start names) concept =
      same_along release names (means release (lowered start)) (denotes release start)
      (fun_ext (same_meaning release start)) concept
  same_meaning release (refined_tree focus refinement) concept =
      ap (λ (holds : Bool). has_concept release concept
      && (holds && (means release (lowered_refinement refinement) concept && true)))
      (same_meaning release focus concept)
      ∙ ap (λ (holds : Bool). has_concept release concept && (denotes release focus concept && (holds && true)))
      (same_refinement release refinement concept)
      ∙ in_both (has_concept release concept) (denotes release focus concept) (satisfies release refinement concept)
      (in_force_if_denoted release focus concept)

  same_all : (release : Release) (trees : Trees) (concept : ℕ)
      → all_mean release (lowered_trees trees) concept ≡ all_denote release trees concept
  same_all release no_trees concept = refl
  same_all release (tree_then first rest) concept =
      ap (λ (holds : Bool). holds && all_mean release (lowered_trees rest) concept) (same_meaning release first concept)
      ∙ ap (λ (holds : Bool). denotes release first concept && holds) (same_all release rest concept)

  same_some : (release : Release) (trees : Trees) (concept : ℕ)
      → some_means release (lowered_trees trees) concept ≡ some_denotes release trees concept
  same_some release no_trees concept = refl
  same_some release (tree_then first rest) concept =
      ap (λ (holds : Bool). holds || some_means release (lowered_trees rest) concept)
      (same_meaning release first concept)
      ∙ ap (λ (holds : Bool). denotes release first concept || holds) (same_some release rest concept)

  same_along : (release : Release) (names : Trees) (one other : ℕ → Bool) → one ≡ other → (concept : ℕ)
      → leads release one (lowered_trees names) concept ≡ follows release other names concept
  same_along release no_trees one other is concept = ap (λ (set : ℕ → Bool). set concept) is
  same_along release (tree_then name names) one other is concept =
      same_along release names (is_value release one (means release (lowered name)))
      (is_value release other (denotes release name))
      (ap (λ (set : ℕ → Bool). is_value release set (means release (lowered name))) is
      ∙ ap (λ (types : ℕ → Bool). is_value release other types) (fun_ext (same_meaning release name)))
      concept

  same_refinement : (release : Release) (refinement : RefinementTree) (concept : ℕ)
      → means release (lowered_refinement refinement) concept
      ≡ (has_concept release concept && satisfies release refinement concept)
  same_refinement release (one_refinement attribute) concept = same_attribute release attribute concept
  same_refinement release (group_refinement count set) concept =
      ap (λ (set : List Pair → Bool). has_concept release concept && has_groups release count set concept)
      (fun_ext (same_set release set))
  same_refinement release (and_refinement parts) concept = same_refinement_all release parts concept
  same_refinement release (or_refinement parts) concept = same_refinement_some release parts concept

  same_refinement_all : (release : Release) (parts : RefinementTrees) (concept : ℕ)
      → (has_concept release concept && all_mean release (lowered_refinements parts) concept)
      ≡ (has_concept release concept && satisfies_all release parts concept)
  same_refinement_all release no_refinements concept = refl
  same_refinement_all release (refinement_then first rest) concept =
      and_more (has_concept release concept) _ _ _ _ (same_refinement release first concept)
      (same_refinement_all release rest concept)

  same_refinement_some : (release : Release) (parts : RefinementTrees) (concept : ℕ)
      → some_means release (lowered_refinements parts) concept
      ≡ (has_concept release concept && satisfies_some release parts concept)
  same_refinement_some release no_refinements concept = or_none (has_concept release concept)
  same_refinement_some release (refinement_then first rest) concept =
      or_more (has_concept release concept) _ _ _ _ (same_refinement release first concept)
      (same_refinement_some release rest concept)

  same_set : (release : Release) (set : AttributeSetTree) (pairs : List Pair)
      → group_means release (lowered_set set) pairs ≡ has_set release set pairs
  same_set release (one_set attribute) pairs = same_in_group release attribute pairs
  same_set release (and_set parts) pairs = same_set_all release parts pairs
  same_set release (or_set parts) pairs = same_set_some release parts pairs

  same_set_all : (release : Release) (parts : AttributeSetTrees) (pairs : List Pair)
      → all_groups_mean release (lowered_sets parts) pairs ≡ has_all release parts pairs
  same_set_all release no_sets pairs = refl
  same_set_all release (set_then first rest) pairs =
      ap (λ (holds : Bool). holds && all_groups_mean release (lowered_sets rest) pairs) (same_set release first pairs)
      ∙ ap (λ (holds : Bool). has_set release first pairs && holds) (same_set_all release rest pairs)

  same_set_some : (release : Release) (parts : AttributeSetTrees) (pairs : List Pair)
      → some_group_means release (lowered_sets parts) pairs ≡ has_some release parts pairs
  same_set_some release no_sets pairs = refl
  same_set_some release (set_then first rest) pairs =
      ap (λ (holds : Bool). holds || some_group_means release (lowered_sets rest) pairs) (same_set release first pairs)
      ∙ ap (λ (holds : Bool). has_set release first pairs || holds) (same_set_some release rest pairs)

  same_attribute : (release : Release) (attribute : AttributeTree) (concept : ℕ)
      → means release (lowered_attribute attribute) concept
      ≡ (has_concept release concept && has_attribute release attribute (counted_pairs release attribute concept))
  same_attribute release (attribute_tree count reverse name test) concept =
      ap (λ (holds : Bool). has_concept release concept && holds)
      (pairs_alike count (pairs_of release reverse concept) _ _ _ _ (fun_ext (same_meaning release name))
      (fun_ext (same_passes release test)))

  same_in_group : (release : Release) (attribute : AttributeTree) (pairs : List Pair)
      → group_means release (lowered_in_group attribute) pairs ≡ has_attribute release attribute pairs
  same_in_group release (attribute_tree count reverse name test) pairs =
      pairs_alike count pairs _ _ _ _ (fun_ext (same_meaning release name)) (fun_ext (same_passes release test))

  same_passes : (release : Release) (test : TestTree) (value : Value)
      → value_passes release (lowered_test test) value ≡ passes release test value
  same_passes release (within_test operand) value =
      ap (λ (set : ℕ → Bool). is_within set value) (fun_ext (same_meaning release operand))
  same_passes release (outside_test operand) value =
      ap (λ (set : ℕ → Bool). is_outside set value) (fun_ext (same_meaning release operand))
  same_passes release (number_test compare number) value = refl
