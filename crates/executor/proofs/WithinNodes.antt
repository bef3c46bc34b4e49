-- What plans mean among candidates, from what they mean.
use Rattle.std.proofs.Common.{ℕ, ◌≡◌, ◌<◌, ◌∙◌, ◌∷◌, [], Bool, true, false, not, ◌&&◌, List}
use Rattle.std.proofs.Common.{Option, None, Some, length, get_or, refl, sym, ap, subst, inl, inr}
use Rattle.std.specs.Prelude.{IfOk, Result, filter, slice_get}
use Rattle.std.proofs.lemmas.Result.{IfOk-weaker}
use Rattle.std.specs.List.{list_all, list_any}
use Rattle.std.proofs.lemmas.Bool.{cases_lt}
use Rattle.release_model.specs.Pairs.{Pair}
use Rattle.release_model.specs.Release.{Release}
use Rattle.constraint_tree.specs.declared.operator.Cardinality.{Cardinality}
use Rattle.constraint_tree.specs.declared.operator.Operator.{Operator}
use Rattle.number_lists.specs.Rising.{IsRisingBelow, numbers_where}
use Rattle.number_lists.specs.Members.{has}
use Rattle.idset.specs.Sets.{other_items}
use Rattle.number_lists.proofs.WhereLemmas.{has-numbers_where, has-numbers_where_past, numbers_where-agree}
use Rattle.number_lists.proofs.RisingLemmas.{numbers_where-rising}
use Rattle.ancestor_index.specs.HierarchyLists.{Hierarchy, hierarchy_of}
use Rattle.postings.specs.Groups.{ConceptGroup, all_groups}
use Rattle.set_algebra.specs.declared.plan.ConceptPlan.{ConceptPlan}
use Rattle.set_algebra.specs.declared.plan.UnitPlan.{UnitPlan}
use Rattle.set_algebra.specs.Meaning.{has_groups, means, group_means}
use Rattle.set_algebra.specs.Plan.{PlanOfGroups, Plan, and_plan, and_group_plan, empty_plan, minus_plan}
use Rattle.set_algebra.specs.Plan.{minus_group_plan}
use Rattle.set_algebra.specs.Plan.{nothing_group, or_plan, or_group_plan, groups_plan, walk_plan}
use Rattle.candidates.specs.Groups.{groups_where, some_group_in}
use Rattle.candidates.specs.Numbers.{numbers_in}
use Rattle.walks.specs.Asked.{AreEnough, asked_lists}
use Rattle.walks.specs.Related.{related_to}
use Rattle.executor.specs.inside.Logical.{logical_of, logical_groups_list_of, logical_groups_of, logicals_of}
use Rattle.candidates.specs.Within.{groups_within, numbers_within}
use Rattle.walks.proofs.AskedLemmas.{related_from_part}
use Rattle.executor.proofs.GroupNodeLemmas as groups
use Rattle.executor.proofs.NodeLemmas.{and_node, or_node, groups_node, walk_node}
use Rattle.pair_sets.proofs.LeafLemmas as leaf
use Rattle.candidates.proofs.WithinLemmas.{minus_within, restricted_to, some_of_none}

-- ---- what a part means, by the number of a concept or of a group
-- whether a part of concepts means the concept with a number
abbrev pub means_concept : Release → ConceptPlan → ℕ → Bool
means_concept release part n = means release (logical_of part) (get_or release.concepts n 0)

-- whether a part of groups means the group with a number
abbrev pub means_group : Release → UnitPlan → ℕ → Bool
means_group release part n = some_group_in release (group_means release (logical_groups_of part))
    (slice_get (all_groups release) n)

-- what a call finds meets a statement if the statement follows from the one that the call promises
pub found_for : {T E : Type 0} (items_of : T → List ℕ) (result : Result T E) {own other : List ℕ → Type 0}
    → ((found : List ℕ) → own found → other found) → IfOk result (λ found. own (items_of found)) → IfOk result
    (λ found. other (items_of found))
found_for items_of result {own} {other} next found =
    IfOk-weaker result (λ x. own (items_of x)) (λ x. other (items_of x)) (λ x. next (items_of x)) found

module _ (release : Release) (may : ℕ → Bool) where
  -- whether a set contains the concept with a number
  abbrev by_number : (ℕ → Bool) → ℕ → Bool
  by_number set n = set (get_or release.concepts n 0)

  -- two sets with the same numbers have the same numbers among candidates
  pub within_same : (p q : ℕ → Bool) → numbers_in release p ≡ numbers_in release q → numbers_within release may p
      ≡ numbers_within release may q
  within_same p q same =
      sym (restricted_to (length release.concepts) may (by_number p) (numbers_in release p)
      (filter may (numbers_in release p)) refl refl)
      ∙ ap (filter may) same
      ∙ restricted_to (length release.concepts) may (by_number q) (numbers_in release q)
      (filter may (numbers_in release q)) refl refl

  -- restricting what a plan means to candidates gives what the plan means among them
  pub kept_node : (plan : Plan) (some found : List ℕ) → some ≡ numbers_in release (means release plan) → found
      ≡ filter may some
      → found ≡ numbers_within release may (means release plan)
  kept_node plan some found some_is found_is = restricted_to (length release.concepts) may
      (by_number (means release plan)) some found some_is found_is

  -- equal plans mean equal sets among candidates
  pub meant_within : (plan other : Plan) → plan ≡ other → numbers_within release may (means release other)
      ≡ numbers_within release may (means release plan)
  meant_within plan other is = ap (λ (p : Plan). numbers_within release may (means release p)) (sym is)

  -- the empty set is what the empty plan means among candidates
  pub empty_within : (plan : Plan) (found : List ℕ) → plan ≡ empty_plan → found ≡ [] → found
      ≡ numbers_within release may (means release plan)
  empty_within plan found is found_is = some_of_none (length release.concepts) may found found_is
      ∙ meant_within plan empty_plan is

  -- the first part among candidates without the second among what the first found is what the difference means among
  -- candidates
  pub minus_node : (plan first second : Plan) (left right found : List ℕ) → plan ≡ minus_plan first second
      → left ≡ numbers_within release may (means release first)
      → right ≡ numbers_within release (has left) (means release second)
      → found ≡ other_items left right → found ≡ numbers_within release may (means release plan)
  minus_node plan first second left right found is left_is right_is found_is =
      minus_within (length release.concepts) may (by_number (means release first)) (by_number (means release second))
      left right found left_is right_is found_is
      ∙ meant_within plan (minus_plan first second) is

-- ---- groups
module _ (release : Release) (may : ℕ → Bool) where
  -- the groups of the release
  abbrev all : List ConceptGroup
  all = all_groups release

  -- whether a set of pairs contains the pairs of the group with a number
  abbrev group_by_number : (List Pair → Bool) → ℕ → Bool
  group_by_number set n = some_group_in release set (slice_get all n)

  -- two sets of pairs with the same group numbers have the same group numbers among candidates
  pub groups_same : (p q : List Pair → Bool) → groups_where release p
      ≡ groups_where release q → groups_within release may p ≡ groups_within release may q
  groups_same p q same =
      sym (restricted_to (length all) may (group_by_number p) (groups_where release p)
      (filter may (groups_where release p)) refl refl)
      ∙ ap (filter may) same
      ∙ restricted_to (length all) may (group_by_number q) (groups_where release q)
      (filter may (groups_where release q)) refl refl

  -- equal plans of groups mean equal sets among candidates
  pub groups_meant : (plan other : PlanOfGroups) → plan ≡ other
      → groups_within release may (group_means release other) ≡ groups_within release may (group_means release plan)
  groups_meant plan other is = ap (λ (p : PlanOfGroups). groups_within release may (group_means release p)) (sym is)

  -- no group has pairs in the empty set
  nothing_in : (at : Option ConceptGroup) → false ≡ some_group_in release (λ pairs. false) at
  nothing_in None = refl
  nothing_in (Some group) = refl

  -- the empty set is what the plan of no group means among candidates
  pub nothing_within : (plan : PlanOfGroups) (found : List ℕ) → plan ≡ nothing_group → found ≡ [] → found
      ≡ groups_within release may (group_means release plan)
  nothing_within plan found is found_is =
      some_of_none (length all) may found found_is
      ∙ (λ i. numbers_where (length all) (λ n. may n && nothing_in (slice_get all n) i))
      ∙ groups_meant plan nothing_group is

  -- the pairs of a group are in the difference of two sets exactly if they are in the first and not in the second
  minus_in : (p q : List Pair → Bool) (at : Option ConceptGroup)
      → (some_group_in release p at && not (some_group_in release q at))
      ≡ some_group_in release (λ pairs. p pairs && not (q pairs)) at
  minus_in p q None = refl
  minus_in p q (Some group) = refl

  -- the first part of groups among candidates without the second among what the first found is what the difference
  -- means among candidates
  pub minus_groups : (plan first second : PlanOfGroups) (left right found : List ℕ)
      → plan ≡ minus_group_plan first second
      → left ≡ groups_within release may (group_means release first)
      → right ≡ groups_within release (has left) (group_means release second)
      → found ≡ other_items left right → found ≡ groups_within release may (group_means release plan)
  minus_groups plan first second left right found is left_is right_is found_is =
      minus_within (length all) may (group_by_number (group_means release first))
      (group_by_number (group_means release second)) left right found left_is right_is found_is
      ∙ (λ i. numbers_where (length all) (λ n. may n
      && minus_in (group_means release first) (group_means release second)
      (slice_get all n) i))
      ∙ groups_meant plan (minus_group_plan first second) is

  -- the pairs of a group are in the sets of all parts exactly if they are in their intersection
  all_in : (parts : List UnitPlan) (n : ℕ) → n < length all → (at : Option ConceptGroup) → slice_get all n ≡ at
      → list_all (λ part. some_group_in release (group_means release (logical_groups_of part)) at) parts
      ≡ some_group_in release (λ pairs. list_all (λ part. group_means release (logical_groups_of part) pairs) parts) at
  all_in parts n within None is = absurd (leaf.none_within all n within is)
  all_in parts n within (Some group) is = refl

  -- the pairs of a group are in the set of at least one part exactly if they are in their union
  any_in : (parts : List UnitPlan) (at : Option ConceptGroup)
      → list_any (λ part. some_group_in release (group_means release (logical_groups_of part)) at) parts
      ≡ some_group_in release (λ pairs. list_any (λ part. group_means release (logical_groups_of part) pairs) parts) at
  any_in [] None = refl
  any_in (part ∷ parts) None = any_in parts None
  any_in parts (Some group) = refl

  -- the candidate groups that all parts mean, by their numbers, are those by their pairs
  pub all_done : (parts : List UnitPlan) (found : List ℕ)
      → found ≡ numbers_where (length all) (λ n. may n && list_all
      (λ part. some_group_in release (group_means release (logical_groups_of part)) (slice_get all n)) parts)
      → found ≡ groups_within release may
      (λ pairs. list_all (λ part. group_means release (logical_groups_of part) pairs)
      parts)
  all_done parts found found_is =
      found_is
      ∙ numbers_where-agree (length all) (λ n. may n && list_all
      (λ part. some_group_in release (group_means release (logical_groups_of part)) (slice_get all n)) parts)
      (λ n. may n && some_group_in release (λ pairs. list_all
      (λ part. group_means release (logical_groups_of part) pairs)
      parts) (slice_get all n))
      (λ n within. ap (λ (b : Bool). may n && b) (all_in parts n within (slice_get all n) refl))

  -- the candidate groups that at least one part means, by their numbers, are those by their pairs
  pub any_done : (parts : List UnitPlan) (found : List ℕ)
      → found ≡ numbers_where (length all) (λ n. may n && list_any
      (λ part. some_group_in release (group_means release (logical_groups_of part)) (slice_get all n)) parts)
      → found ≡ groups_within release may
      (λ pairs. list_any (λ part. group_means release (logical_groups_of part) pairs)
      parts)
  any_done parts found found_is = found_is
      ∙ (λ i. numbers_where (length all) (λ n. may n && any_in parts (slice_get all n) i))

-- what an operator leads to from the enough concepts of `child`, restricted to candidates, is what the walk means
-- among candidates
pub walk_of_part : (release : Release) (child : Plan) (operator : Operator) (hierarchy : Hierarchy) (count : ℕ)
    (may enough : ℕ → Bool) (part found : List ℕ)
    → hierarchy ≡ hierarchy_of release → count ≡ length release.concepts
    → AreEnough (asked_lists hierarchy operator) may enough
    → part ≡ numbers_within release enough (means release child)
    → found ≡ filter may (related_to hierarchy count operator part)
    → found ≡ numbers_within release may (means release (walk_plan operator child))
walk_of_part release child operator hierarchy count may enough part found over counted are_enough part_is found_is =
    kept_node release may (walk_plan operator child) (related_to hierarchy count operator set) found
    (walk_node release (walk_plan operator child) (related_to hierarchy count operator set) child operator hierarchy
    count
    set refl over counted refl refl)
    (found_is ∙ related_from_part count hierarchy
    (record { release = release; hierarchy_is = over; count_is = counted })
    set part (rises holds) (subst (IsRisingBelow count) (sym part_is) (rises (λ n. enough n && holds n))) enough same
    operator may are_enough)
  where
    holds : ℕ → Bool
    holds n = means release child (get_or release.concepts n 0)

    set : List ℕ
    set = numbers_in release (means release child)

    rises : (test : ℕ → Bool) → IsRisingBelow count (numbers_where (length release.concepts) test)
    rises test =
        subst (λ (bound : ℕ). IsRisingBelow bound (numbers_where (length release.concepts) test)) (sym counted)
        (numbers_where-rising (length release.concepts) test)

    same : (n : ℕ) → enough n ≡ true → has part n ≡ has set n
    same n told =
        ap (λ (items : List ℕ). has items n) part_is
        ∙ elim (cases_lt n (length release.concepts)) [
          | inl below ↦
              has-numbers_where (length release.concepts) (λ m. enough m && holds m) n below
              ∙ ap (λ (b : Bool). b && holds n) told
              ∙ sym (has-numbers_where (length release.concepts) holds n below)
          | inr past ↦
              has-numbers_where_past (length release.concepts) (λ m. enough m && holds m) n past
              ∙ sym (has-numbers_where_past (length release.concepts) holds n past)
        ]

-- ---- joined parts, and concepts with groups, are the plan of their node
module _ (release : Release) (may : ℕ → Bool) where
  -- the candidates that all parts mean are what their conjunction means among candidates
  pub and_within : (parts : List ConceptPlan)
      → numbers_within release may (λ concept. list_all (λ part. means release (logical_of part) concept) parts)
      ≡ numbers_within release may (means release (and_plan (logicals_of parts)))
  and_within parts =
      let set : ℕ → Bool = λ concept. list_all (λ part. means release (logical_of part) concept) parts in
      let plan : Plan = and_plan (logicals_of parts) in
      within_same release may set (means release plan) (and_node release plan (numbers_in release set) parts refl refl)

  -- the candidates that at least one part means are what their disjunction means among candidates
  pub or_within : (parts : List ConceptPlan)
      → numbers_within release may (λ concept. list_any (λ part. means release (logical_of part) concept) parts)
      ≡ numbers_within release may (means release (or_plan (logicals_of parts)))
  or_within parts =
      let set : ℕ → Bool = λ concept. list_any (λ part. means release (logical_of part) concept) parts in
      let plan : Plan = or_plan (logicals_of parts) in
      within_same release may set (means release plan) (or_node release plan (numbers_in release set) parts refl refl)

  -- the candidates with a number of groups of `units` in `count` are what the plan of groups means among candidates
  pub execute_units : (count : Cardinality) (units : PlanOfGroups)
      → numbers_within release may (has_groups release count (group_means release units))
      ≡ numbers_within release may (means release (groups_plan count units))
  execute_units count units =
      let set : ℕ → Bool = has_groups release count (group_means release units) in
      let plan : Plan = groups_plan count units in
      within_same release may set (means release plan) (groups_node release plan (numbers_in release set) count units
      refl refl)

  -- the candidate groups that all parts mean are what their conjunction means among candidates
  pub and_groups : (parts : List UnitPlan)
      → groups_within release may (λ pairs. list_all (λ part. group_means release (logical_groups_of part) pairs) parts)
      ≡ groups_within release may (group_means release (and_group_plan (logical_groups_list_of parts)))
  and_groups parts =
      let set : List Pair → Bool =
      λ pairs. list_all (λ part. group_means release (logical_groups_of part) pairs) parts in
      let plan : PlanOfGroups = and_group_plan (logical_groups_list_of parts) in
      groups_same release may set (group_means release plan) (groups.and_node release plan (groups_where release set)
      parts refl refl)

  -- the candidate groups that at least one part means are what their disjunction means among candidates
  pub or_groups : (parts : List UnitPlan)
      → groups_within release may (λ pairs. list_any (λ part. group_means release (logical_groups_of part) pairs) parts)
      ≡ groups_within release may (group_means release (or_group_plan (logical_groups_list_of parts)))
  or_groups parts =
      let set : List Pair → Bool =
      λ pairs. list_any (λ part. group_means release (logical_groups_of part) pairs) parts in
      let plan : PlanOfGroups = or_group_plan (logical_groups_list_of parts) in
      groups_same release may set (group_means release plan) (groups.or_node release plan (groups_where release set)
      parts refl refl)
