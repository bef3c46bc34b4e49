-- A physical plan finds at most its size, whatever choices its leaves have.
use Rattle.std.proofs.Common.{ℕ, suc, ◌+◌, ◌==◌, ◌≡◌, ◌≤◌, ◌∙◌, ◌∷◌, [], ◌||◌, Bool, true, false, cond, List, Option}
use Rattle.std.proofs.Common.{Some, length, get_or, min, sym, subst, arith}
use Rattle.std.specs.Prelude.{All, count_by, slice_get}
use Rattle.std.specs.List.Sorted.{IsStrictlyIncreasing}
use Rattle.std.proofs.lemmas.Bool.{and_parts, false≢true, ne_eqb}
use Rattle.std.proofs.lemmas.List.Sums.{length-filter}
use Rattle.release_model.specs.Pairs.{Pair}
use Rattle.release_model.specs.Release.{Attribute, Release}
use Rattle.number_lists.specs.Members.{has}
use Rattle.number_lists.specs.Rising.{numbers_where}
use Rattle.constraint_tree.specs.declared.operator.Operator.{Operator}
use Rattle.constraint_tree.specs.Denotation.{is_value}
use Rattle.constraint_tree.specs.Walks.{has_concept}
use Rattle.set_algebra.specs.Meaning.{all_groups_mean, all_mean, group_means, leads, means, some_group_means}
use Rattle.set_algebra.specs.Meaning.{some_means}
use Rattle.set_algebra.specs.Plan.{Plan, members_plan, no_plans, no_group_plans, plan_then, Plans, walk_plan}
use Rattle.set_algebra.specs.Physical.{Physical, physical_empty, physical_all, physical_one, physical_walk}
use Rattle.set_algebra.specs.Physical.{physical_members, physical_and}
use Rattle.set_algebra.specs.Physical.{physical_or, physical_minus, physical_values, physical_pairs, physical_groups}
use Rattle.set_algebra.specs.Physical.{Physicals, no_physicals, physical_then, PhysicalGroups, physical_nothing}
use Rattle.set_algebra.specs.Physical.{physical_every}
use Rattle.set_algebra.specs.Physical.{physical_groups_and, physical_groups_or, physical_groups_minus}
use Rattle.set_algebra.specs.Physical.{physical_groups_pairs}
use Rattle.set_algebra.specs.Physical.{PhysicalGroupsList, no_physical_groups, physical_groups_then}
use Rattle.set_algebra.specs.Physical.{logical, logical_test, logical_groups, logical_groups_list, logicals}
use Rattle.set_algebra.proofs.MeaningLemmas.{in_force_if_meant}
use Rattle.postings.specs.Groups.{ConceptGroup, all_groups, groups_in, pairs_of_group}
use Rattle.postings.specs.Indexed.{Indexed, IsIndexOf}
use Rattle.plan_bounds.specs.Counts.{one_of}
use Rattle.plan_bounds.specs.Found.{FindsWithinSize}
use Rattle.plan_bounds.specs.Leaves.{plan_count}
use Rattle.plan_bounds.specs.Sizes.{group_size, group_sizes, least_from, least_of, members_size, size, sizes, test_size}
use Rattle.plan_bounds.specs.Sizes.{total, walk_size}
use Rattle.plan_bounds.proofs.FewLemmas.{count_either, count_le, count_none, length-places, length-places_got}
use Rattle.plan_bounds.proofs.FoundLemmas.{found-le, group_rows, groups-all, leaf-le, many-all, many-groups, many-one}
use Rattle.plan_bounds.proofs.FoundLemmas.{many-values, members_of_any, members_of_one, pair_rows, walk_from_any}
use Rattle.plan_bounds.proofs.FoundLemmas.{walk_from_one}

-- ---- what all parts of a node mean, and what at least one part means
module _ {X : Type 0} (xs : List X) where
  -- if all of `set` is in `part`, `set` is counted at most as often as the less of its bound `most` and the bound `n`
  -- of `part`
  with_part : (set part : X → Bool) (most n : ℕ) → ((x : X) → set x ≡ true → part x ≡ true) → count_by set xs ≤ most
      → count_by part xs ≤ n
      → count_by set xs ≤ min most n
  with_part set part most n each within few = omega (arith, within, few, count_le set part xs each)

  -- the union of a part with at most `n` and others with at most `rest` has at most `n + rest`
  or_part : (part others : X → Bool) (n rest : ℕ) → count_by part xs ≤ n → count_by others xs ≤ rest
      → count_by (λ x. part x || others x) xs ≤ n + rest
  or_part part others n rest few more = omega (arith, few, more, count_either part others xs)

-- values along at least one type are at most the less of all concepts and all rows
along-le : (others all rows size n : ℕ) → n ≤ all → n ≤ rows → n ≤ cond (suc others == 0) size (min all rows)
along-le others all rows size n within few =
    subst (λ b. n ≤ cond b size (min all rows)) (sym (ne_eqb (suc others) 0 (λ same. omega (arith, same))))
    (omega (arith, within, few))

-- `least_from one` of a list is at most `least_from other` of it if `one` is at most `other`
least_from-le : (one other : ℕ) (numbers : List ℕ) → one ≤ other → least_from one numbers ≤ least_from other numbers
least_from-le one other [] less = less
least_from-le one other (number ∷ numbers) less =
    least_from-le (min one number) (min other number) numbers (omega (arith, less))

-- a number that is at most `least_from most numbers` is at most `least_of most numbers`
least_of-from : (n most : ℕ) (numbers : List ℕ) → n ≤ least_from most numbers → n ≤ least_of most numbers
least_of-from n most [] within = within
least_of-from n most (number ∷ numbers) within =
    omega (arith, within, least_from-le (min most number) number numbers (omega arith))

module _ (release : Release) (indexed : Indexed) (is : IsIndexOf indexed release)
    (rising : IsStrictlyIncreasing release.concepts)
    (known : All (λ (row : Attribute). has release.concepts row.source ≡ true) release.attributes) where
  -- how many concepts are in a set
  abbrev many : (ℕ → Bool) → ℕ
  many set = count_by set release.concepts

  -- whether a set of pairs contains the pairs of a group
  abbrev meant : (List Pair → Bool) → ConceptGroup → Bool
  meant set group = set (pairs_of_group release group)

  -- ---- groups
  -- whether a plan of groups means a group
  abbrev in_groups : PhysicalGroups → ConceptGroup → Bool
  in_groups plan = meant (group_means release (logical_groups plan))

  mutual
    -- a plan of groups means at most `group_size` groups of the release
    pub group_size-le : (plan : PhysicalGroups)
        → count_by (in_groups plan) (all_groups release) ≤ group_size indexed plan
    group_size-le physical_nothing =
        omega (
          arith,
          count_none (in_groups physical_nothing) (all_groups release)
              (λ group there passes. false≢true passes),
        )
    group_size-le physical_every = groups-all release indexed is rising (in_groups physical_every)
    group_size-le (physical_groups_and parts) =
        least_of-from _ (length (groups_in indexed)) (group_sizes indexed parts)
        (all_groups-le parts (in_groups (physical_groups_and parts)) (length (groups_in indexed))
        (λ group passes. passes)
        (groups-all release indexed is rising (in_groups (physical_groups_and parts))))
    group_size-le (physical_groups_or parts) =
        omega (arith, groups-all release indexed is rising (in_groups (physical_groups_or parts)), some_groups-le parts)
    group_size-le (physical_groups_minus first second) =
        omega (
          arith,
          group_size-le first,
          count_le (in_groups (physical_groups_minus first second)) (in_groups first) (all_groups release)
              (λ group passes. (and_parts (in_groups first group) _ passes).0),
        )
    group_size-le (physical_groups_pairs count types test choice) =
        leaf-le release indexed is rising (length (groups_in indexed)) false count types test (size indexed types)
        (test_size indexed test)
        choice _
        (groups-all release indexed is rising (in_groups (physical_groups_pairs count types test choice)))
        (group_rows release indexed is rising count (logical types) (logical_test test))

    -- a set of groups that each of `parts` means has at most as many groups as `least_from most` of the sizes of
    -- `parts`, if it has at most `most`
    all_groups-le : (parts : PhysicalGroupsList) (set : ConceptGroup → Bool) (most : ℕ)
        → ((group : ConceptGroup) → set group ≡ true → meant (all_groups_mean release (logical_groups_list parts)) group
        ≡ true)
        → count_by set (all_groups release) ≤ most
        → count_by set (all_groups release) ≤ least_from most (group_sizes indexed parts)
    all_groups-le no_physical_groups set most each within = within
    all_groups-le (physical_groups_then first rest) set most each within =
        all_groups-le rest set (min most (group_size indexed first))
        (λ group passes. (and_parts (in_groups first group) _ (each group passes)).1)
        (with_part (all_groups release) set (in_groups first) most (group_size indexed first)
        (λ group passes. (and_parts (in_groups first group) _ (each group passes)).0) within (group_size-le first))

    -- the groups that at least one of `parts` means are at most the total of the sizes of `parts`
    some_groups-le : (parts : PhysicalGroupsList)
        → count_by (meant (some_group_means release (logical_groups_list parts))) (all_groups release)
        ≤ total (group_sizes indexed parts)
    some_groups-le no_physical_groups =
        omega (
          arith,
          count_none (meant (some_group_means release no_group_plans)) (all_groups release)
              (λ group there passes. false≢true passes),
        )
    some_groups-le (physical_groups_then first rest) =
        or_part (all_groups release) (in_groups first) (meant (some_group_means release (logical_groups_list rest))) _ _
        (group_size-le first) (some_groups-le rest)

  -- ---- concepts
  -- a walk from an operand with at most `n` concepts means at most `walk_size` concepts
  walk-le : (operator : Operator) (operand : Physical) (n : ℕ) → many (means release (logical operand)) ≤ n
      → many (means release (walk_plan operator (logical operand))) ≤ walk_size indexed operator (one_of operand) n
  walk-le operator (physical_one one) n few = walk_from_one release indexed is rising operator one n
  walk-le operator operand n few = walk_from_any release indexed is rising operator (logical operand) n few

  -- the plan of reference set members means at most `members_size` concepts
  members-le : (operand : Physical) → many (means release (members_plan (logical operand)))
      ≤ members_size indexed (one_of operand)
  members-le (physical_one one) = members_of_one release indexed is rising one
  members-le operand = members_of_any release indexed is rising (means release (logical operand))
      (in_force_if_meant release (logical operand))

  -- the values along at least one type, from a set of concepts in force, are at most as many as the rows of the
  -- indexes
  values-le : (names : Plans) (types : Plan) (set : ℕ → Bool)
      → ((concept : ℕ) → set concept ≡ true → has_concept release concept ≡ true)
      → many (leads release set (plan_then types names)) ≤ length indexed.rows
  values-le no_plans types set forced =
      many-values release indexed is rising set (means release types) (λ row there. forced row.source)
  values-le (plan_then others names) types set forced =
      values-le names others (is_value release set (means release types))
      (λ concept passes. (and_parts (has_concept release concept) _ passes).0)

  -- whether a plan means a concept
  abbrev in_set : Physical → ℕ → Bool
  in_set plan = means release (logical plan)

  mutual
    -- a plan of concepts means at most `size` concepts of the release
    pub size-le : (plan : Physical) → many (in_set plan) ≤ size indexed plan
    size-le physical_empty =
        omega (arith, count_none (in_set physical_empty) release.concepts (λ concept there passes. false≢true passes))
    size-le physical_all = many-all release indexed is rising (in_set physical_all)
    size-le (physical_one one) = many-one release indexed is rising one
    size-le (physical_walk operator operand) = walk-le operator operand (size indexed operand) (size-le operand)
    size-le (physical_members operand) = members-le operand
    size-le (physical_and parts) =
        least_of-from _ (length indexed.concepts) (sizes indexed parts)
        (all-le parts (in_set (physical_and parts)) (length indexed.concepts)
        (λ concept passes. (and_parts (has_concept release concept) _ passes).1)
        (many-all release indexed is rising (in_set (physical_and parts))))
    size-le (physical_or parts) =
        omega (arith, many-all release indexed is rising (in_set (physical_or parts)), some-le parts)
    size-le (physical_minus first second) =
        omega (
          arith,
          size-le first,
          count_le (in_set (physical_minus first second)) (in_set first) release.concepts
              (λ concept passes. (and_parts (in_set first concept) _ passes).0),
        )
    size-le (physical_values start no_physicals) = size-le start
    size-le (physical_values start (physical_then types names)) =
        along-le (plan_count names) (length indexed.concepts) (length indexed.rows) (size indexed start) _
        (many-all release indexed is rising (in_set (physical_values start (physical_then types names))))
        (values-le (logicals names) (logical types) (in_set start) (in_force_if_meant release (logical start)))
    size-le (physical_pairs back count types test choice) =
        leaf-le release indexed is rising (length indexed.concepts) back count types test (size indexed types)
        (test_size indexed test)
        choice _
        (many-all release indexed is rising (in_set (physical_pairs back count types test choice)))
        (pair_rows release indexed is rising count (logical types) (logical_test test) known back)
    size-le (physical_groups count units) =
        found-le count.min (length indexed.concepts) (group_size indexed units) _
        (many-all release indexed is rising (in_set (physical_groups count units)))
        (λ some. omega (
          arith,
          many-groups release indexed is rising count (group_means release (logical_groups units)) some,
          group_size-le units,
        ))

    -- a set of concepts that each of `parts` means has at most as many concepts as `least_from most` of the sizes of
    -- `parts`, if it has at most `most`
    all-le : (parts : Physicals) (set : ℕ → Bool) (most : ℕ)
        → ((concept : ℕ) → set concept ≡ true → all_mean release (logicals parts) concept ≡ true)
        → many set ≤ most → many set ≤ least_from most (sizes indexed parts)
    all-le no_physicals set most each within = within
    all-le (physical_then first rest) set most each within =
        all-le rest set (min most (size indexed first))
        (λ concept passes. (and_parts (in_set first concept) _ (each concept passes)).1)
        (with_part release.concepts set (in_set first) most (size indexed first)
        (λ concept passes. (and_parts (in_set first concept) _ (each concept passes)).0) within (size-le first))

    -- the concepts that at least one of `parts` means are at most the total of the sizes of `parts`
    some-le : (parts : Physicals) → many (some_means release (logicals parts)) ≤ total (sizes indexed parts)
    some-le no_physicals =
        omega (
          arith,
          count_none (some_means release no_plans) release.concepts
              (λ concept there passes. false≢true passes),
        )
    some-le (physical_then first rest) =
        or_part release.concepts (in_set first) (some_means release (logicals rest)) _ _ (size-le first) (some-le rest)

  -- ---- by the numbers of concepts, and of groups
  -- at most `size` concept numbers are those of concepts that a plan of concepts means
  pub numbers-le : (plan : Physical)
      → length (numbers_where (length release.concepts) (λ number. in_set plan (get_or release.concepts number 0)))
      ≤ size indexed plan
  numbers-le plan = omega (arith, length-places (in_set plan) release.concepts 0, size-le plan)

  -- at most `group_size` group numbers are those of groups that a plan of groups means; `test` says so for the group
  -- at a number
  pub group_numbers-le : (plan : PhysicalGroups) (test : Option ConceptGroup → Bool)
      → ((group : ConceptGroup) → test (Some group) ≡ in_groups plan group)
      → length (numbers_where (length (all_groups release)) (λ number. test (slice_get (all_groups release) number)))
      ≤ group_size indexed plan
  group_numbers-le plan test told =
      omega (
        arith,
        length-places_got test (all_groups release) ∙ (λ i. count_by (λ group. told group i) (all_groups release)),
        group_size-le plan,
      )

-- if the concepts of a release rise and each attribute row has a source in force, no plan finds more concepts than
-- its size, and no plan of groups more groups, whatever choices its leaves have
pub finds_within_size : FindsWithinSize
finds_within_size release rising known indexed is = (
  λ plan. omega (
    arith,
    length-filter (means release (logical plan)) release.concepts,
    size-le release indexed is rising
        known plan,
  ),
  λ plan.
      omega (
        arith,
        length-filter (λ group. group_means release (logical_groups plan) (pairs_of_group release group))
            (all_groups release),
        group_size-le release indexed is rising known plan,
      ),
)
