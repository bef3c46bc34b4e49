-- What each kind of plan of groups means, from what its parts mean.
use Rattle.std.proofs.Common.{ℕ, ◌≡◌, ◌<◌, ◌∙◌, ◌∷◌, [], Bool, true, ◌&&◌, ◌||◌, List, Option, None, Some, length}
use Rattle.std.proofs.Common.{refl, sym, ap}
use Rattle.std.specs.Prelude.{slice_get}
use Rattle.std.specs.List.{list_all, list_any, range_with_len}
use Rattle.release_model.specs.Pairs.{Pair}
use Rattle.release_model.specs.Release.{Release}
use Rattle.constraint_tree.specs.declared.operator.Cardinality.{Cardinality}
use Rattle.number_lists.proofs.WhereLemmas.{numbers_where-agree, numbers_where-all}
use Rattle.postings.specs.Groups.{ConceptGroup, all_groups}
use Rattle.set_algebra.specs.declared.plan.UnitPlan.{UnitPlan}
use Rattle.set_algebra.specs.Meaning.{all_groups_mean, group_means, has_pairs, means, some_group_means, value_passes}
use Rattle.set_algebra.specs.Plan.{PlanOfGroups, Plan, TestPlan, and_group_plan, every_group, or_group_plan}
use Rattle.set_algebra.specs.Plan.{pairs_group_plan}
use Rattle.candidates.specs.Groups.{groups_where, some_group_in}
use Rattle.candidates.specs.Numbers.{is_one_of, numbers_in}
use Rattle.pair_sets.proofs.LeafLemmas.{none_within}
use Rattle.executor.specs.inside.Logical.{logical_groups_list_of, logical_groups_of}
use Rattle.executor.proofs.NodeLemmas.{one_meant}

module _ (release : Release) where
  abbrev all : List ConceptGroup
  all = all_groups release

  -- whether a set of pairs contains the pairs of the group with a number
  abbrev pub by_number : (List Pair → Bool) → ℕ → Bool
  by_number set n = some_group_in release set (slice_get all n)

  -- the numbers of all groups are the numbers of the groups in the set of all
  pub each_where : range_with_len 0 (length all) ≡ groups_where release (λ pairs. true)
  each_where = sym (numbers_where-all (length all))
      ∙ numbers_where-agree (length all) (λ n. true) (by_number (λ pairs. true))
      (λ n within. at n within (slice_get all n) refl)
    where
      at : (n : ℕ) → n < length all → (found : Option ConceptGroup) → slice_get all n ≡ found → true
          ≡ some_group_in release (λ pairs. true) found
      at n within None is = absurd (none_within all n within is)
      at n within (Some group) is = refl

  -- equal plans of groups mean equal sets
  meant : (plan other : PlanOfGroups) → plan ≡ other → groups_where release (group_means release other)
      ≡ groups_where release (group_means release plan)
  meant plan other is = ap (λ (p : PlanOfGroups). groups_where release (group_means release p)) (sym is)

  module _ (plan : PlanOfGroups) (found : List ℕ) where
    -- the plan of every group means the numbers of all groups
    pub every_node : plan ≡ every_group → found ≡ range_with_len 0 (length all) → found
        ≡ groups_where release (group_means release plan)
    every_node is found_is = found_is ∙ each_where ∙ meant plan every_group is

    -- a conjunction of plans of groups means the groups that all parts mean
    pub and_node : (parts : List UnitPlan) → plan ≡ and_group_plan (logical_groups_list_of parts)
        → found ≡ groups_where release (λ pairs. list_all (λ part. group_means release (logical_groups_of part) pairs)
        parts)
        → found ≡ groups_where release (group_means release plan)
    and_node parts is found_is =
        found_is ∙ (λ i. groups_where release (λ pairs. all_listed parts pairs i))
        ∙ meant plan (and_group_plan (logical_groups_list_of parts)) is
      where
        all_listed : (some : List UnitPlan) (pairs : List Pair)
            → list_all (λ part. group_means release (logical_groups_of part) pairs) some
            ≡ all_groups_mean release (logical_groups_list_of some) pairs
        all_listed [] pairs = refl
        all_listed (part ∷ some) pairs = ap (λ (b : Bool). group_means release (logical_groups_of part) pairs && b)
            (all_listed some pairs)

    -- a disjunction of plans of groups means the groups that at least one part means
    pub or_node : (parts : List UnitPlan) → plan ≡ or_group_plan (logical_groups_list_of parts)
        → found ≡ groups_where release (λ pairs. list_any (λ part. group_means release (logical_groups_of part) pairs)
        parts)
        → found ≡ groups_where release (group_means release plan)
    or_node parts is found_is =
        found_is ∙ (λ i. groups_where release (λ pairs. some_listed parts pairs i))
        ∙ meant plan (or_group_plan (logical_groups_list_of parts)) is
      where
        some_listed : (some : List UnitPlan) (pairs : List Pair)
            → list_any (λ part. group_means release (logical_groups_of part) pairs) some
            ≡ some_group_means release (logical_groups_list_of some) pairs
        some_listed [] pairs = refl
        some_listed (part ∷ some) pairs = ap (λ (b : Bool). group_means release (logical_groups_of part) pairs || b)
            (some_listed some pairs)

    -- a leaf of groups means the groups whose number of pairs with a type in `items` and a value that passes the test
    -- lies in `count`
    pub pairs_node : (count : Cardinality) (types : Plan) (test : TestPlan) (concepts items : List ℕ) → plan
        ≡ pairs_group_plan count types test
        → concepts ≡ release.concepts → items ≡ numbers_in release (means release types)
        → found ≡ groups_where release (has_pairs count (is_one_of concepts items) (value_passes release test))
        → found ≡ groups_where release (group_means release plan)
    pairs_node count types test concepts items is are items_are found_is =
        found_is
        ∙ ap (λ (set : ℕ → Bool). groups_where release (has_pairs count set (value_passes release test)))
        (one_meant release types concepts items are items_are)
        ∙ meant plan (pairs_group_plan count types test) is
