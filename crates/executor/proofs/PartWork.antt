-- What the parts of a node find and visit at most, and how many numbers a set has of those that a plan means. Nodes
-- of concepts and of groups are treated apart.
use Rattle.std.proofs.Common.{ℕ, ◌+◌, ◌*◌, ◌≡◌, ◌≤◌, ◌∙◌, ◌&&◌, Bool, true, List, length, get_or, min, refl, sym, ap}
use Rattle.std.proofs.Common.{subst, arith}
use Rattle.std.specs.Prelude.{All, slice_get}
use Rattle.std.specs.List.{list_any, range_with_len}
use Rattle.std.specs.List.Sorted.{IsStrictlyIncreasing}
use Rattle.std.proofs.lemmas.Bool.{and_parts}
use Rattle.std.proofs.lemmas.List.Elements.{All-contains, Contains-get_or}
use Rattle.std.proofs.lemmas.List.Sums.{length-filter}
use Rattle.release_model.specs.Pairs.{Pair}
use Rattle.release_model.specs.Release.{Attribute, Release}
use Rattle.number_lists.specs.Members.{has}
use Rattle.number_lists.proofs.MemberLemmas.{contains_had}
use Rattle.number_lists.proofs.WhereLemmas.{there_where}
use Rattle.number_lists.specs.Rising.{numbers_where}
use Rattle.constraint_tree.specs.Denotation.{is_value}
use Rattle.constraint_tree.proofs.WalkLemmas.{tells_in_force}
use Rattle.postings.specs.Groups.{all_groups}
use Rattle.postings.specs.Indexed.{Indexed, IsIndexOf}
use Rattle.set_algebra.specs.declared.plan.ConceptPlan.{ConceptPlan}
use Rattle.set_algebra.specs.declared.plan.UnitPlan.{UnitPlan}
use Rattle.set_algebra.specs.Meaning.{group_means, means}
use Rattle.set_algebra.specs.Plan.{Plan, PlanOfGroups, or_plan, or_group_plan}
use Rattle.set_algebra.specs.Physical.{Physical, PhysicalGroups, logical, logical_groups, physical_of, physical_or}
use Rattle.set_algebra.specs.Physical.{physical_groups_list_of}
use Rattle.set_algebra.specs.Physical.{physical_groups_of, physical_groups_or, physicals_of}
use Rattle.plan_bounds.specs.Bounds.{own_number}
use Rattle.plan_bounds.specs.Nodes.{group_sum, groups_sum, node_sum, plans_sum}
use Rattle.plan_bounds.specs.Sizes.{group_size, group_sizes, size, sizes, total}
use Rattle.plan_bounds.proofs.FewLemmas.{count_le, length-places}
use Rattle.plan_bounds.proofs.FoundLemmas.{many-all, many-values}
use Rattle.plan_bounds.proofs.LoopLemmas.{Sum}
use Rattle.plan_bounds.proofs.SizeLemmas.{group_numbers-le, numbers-le}
use Rattle.candidates.specs.Groups.{groups_where, some_group_in}
use Rattle.candidates.specs.Numbers.{numbers_in}
use Rattle.candidates.specs.Within.{groups_within, numbers_within}
use Rattle.candidates.proofs.SumLemmas.{listed_few}
use Rattle.executor.specs.inside.Logical.{logical_of, logical_groups_list_of, logical_groups_of, logicals_of}
use Rattle.executor.proofs.GroupNodeLemmas as groups
use Rattle.executor.proofs.NodeLemmas.{or_node}
use Rattle.executor.proofs.WithinNodes.{groups_same, within_same}

-- the sizes of plans of concepts, added up
abbrev pub concepts_found : Indexed → Sum ConceptPlan
concepts_found indexed = record {
  of_part = λ part. size indexed (physical_of part);
  of_parts = λ parts. total (sizes indexed (physicals_of parts));
  none = refl;
  more = λ part parts. refl;
}

-- twice the sizes of plans of concepts, and their bounds, added up
abbrev pub concepts_read : Indexed → Sum ConceptPlan
concepts_read indexed = record {
  of_part = λ part. 2 * size indexed (physical_of part) + node_sum (own_number indexed) (physical_of part);
  of_parts = λ parts. 2 * total (sizes indexed (physicals_of parts)) + plans_sum (own_number indexed)
      (physicals_of parts);
  none = refl;
  more = λ part parts. omega arith;
}

-- the sizes of plans of groups, added up
abbrev pub groups_found : Indexed → Sum UnitPlan
groups_found indexed = record {
  of_part = λ part. group_size indexed (physical_groups_of part);
  of_parts = λ parts. total (group_sizes indexed (physical_groups_list_of parts));
  none = refl;
  more = λ part parts. refl;
}

-- twice the sizes of plans of groups, and their bounds, added up
abbrev pub groups_read : Indexed → Sum UnitPlan
groups_read indexed = record {
  of_part = λ part. 2 * group_size indexed (physical_groups_of part) + group_sum (own_number indexed)
      (physical_groups_of part);
  of_parts = λ parts.
      2 * total (group_sizes indexed (physical_groups_list_of parts)) + groups_sum (own_number indexed)
      (physical_groups_list_of parts);
  none = refl;
  more = λ part parts. omega arith;
}

-- ---- a plan finds at most what it means, whatever the candidates
-- at most as many numbers below `bound` pass two tests as pass one of them
fewer : (bound : ℕ) (may set : ℕ → Bool) → length (numbers_where bound (λ n. may n && set n))
    ≤ length (numbers_where bound set)
fewer bound may set =
    omega (
      arith,
      length-filter (λ n. may n && set n) (range_with_len 0 bound),
      length-filter set (range_with_len 0 bound),
      count_le (λ n. may n && set n) set (range_with_len 0 bound) (λ n passes. (and_parts (may n) (set n) passes).1),
    )

-- a set that is found among `candidates` has at most as many numbers as there are candidates
pub few_of_candidates : (bound : ℕ) (candidates : List ℕ) (set : ℕ → Bool) (found : List ℕ)
    → found ≡ numbers_where bound (λ n. has candidates n && set n) → length found ≤ length candidates
few_of_candidates bound candidates set found is =
    omega (
      arith,
      ap (λ (numbers : List ℕ). length numbers) is,
      length-filter (λ n. has candidates n && set n) (range_with_len 0 bound),
      length-filter (has candidates) (range_with_len 0 bound),
      count_le (λ n. has candidates n && set n) (has candidates) (range_with_len 0 bound)
          (λ n passes. (and_parts (has candidates n) (set n) passes).0),
      listed_few bound candidates,
    )

-- each number that is found among candidates is a candidate
pub are_candidates : (bound : ℕ) (may set : ℕ → Bool) (found : List ℕ) → found
    ≡ numbers_where bound (λ n. may n && set n)
    → All (λ n. may n ≡ true) found
are_candidates bound may set found is =
    subst (All (λ n. may n ≡ true)) (sym is)
    (λ k d within.
    let n = get_or (numbers_where bound (λ n. may n && set n)) k d in
    (and_parts (may n) (set n) (there_where bound (λ n. may n && set n) n
    (Contains-get_or (numbers_where bound (λ n. may n && set n)) k d within)).1).0)

module _ (release : Release) (indexed : Indexed) (is : IsIndexOf indexed release)
    (rising : IsStrictlyIncreasing release.concepts)
    (known : All (λ (row : Attribute). has release.concepts row.source ≡ true) release.attributes) where
  -- a plan of concepts finds, among any candidates, at most as many as its size
  pub few_found : (plan : Physical) (may : ℕ → Bool) (found : List ℕ) → found
      ≡ numbers_within release may (means release (logical plan))
      → length found ≤ size indexed plan
  few_found plan may found found_is =
      omega (
        arith,
        ap (λ (numbers : List ℕ). length numbers) found_is,
        fewer (length release.concepts) may (λ n. means release (logical plan) (get_or release.concepts n 0)),
        numbers-le release indexed is rising known plan,
      )

  -- a plan of groups finds, among any candidates, at most as many as its size
  pub few_groups : (plan : PhysicalGroups) (may : ℕ → Bool) (found : List ℕ)
      → found ≡ groups_within release may (group_means release (logical_groups plan)) → length found
      ≤ group_size indexed plan
  few_groups plan may found found_is =
      let set : List Pair → Bool = group_means release (logical_groups plan) in
      omega (
        arith,
        ap (λ (numbers : List ℕ). length numbers) found_is,
        fewer (length (all_groups release)) may (λ n. some_group_in release set (slice_get (all_groups release) n)),
        group_numbers-le release indexed is rising known plan (some_group_in release set) (λ group. refl),
      )

  -- the concepts that at least one part finds are at most as many as the sizes of the parts add up to
  pub few_joined : (parts : List ConceptPlan) (may : ℕ → Bool) (found : List ℕ)
      → found ≡ numbers_within release may (λ concept. list_any (λ part. means release (logical_of part) concept) parts)
      → length found ≤ total (sizes indexed (physicals_of parts))
  few_joined parts may found found_is =
      let some : ℕ → Bool = λ concept. list_any (λ part. means release (logical_of part) concept) parts in
      let plan : Plan = or_plan (logicals_of parts) in
      let few = few_found (physical_or (physicals_of parts)) may found
      (found_is ∙ within_same release may some (means release plan)
      (or_node release plan (numbers_in release some) parts refl refl)) in
      omega (arith, few)

  -- the groups that at least one part finds are at most as many as the sizes of the parts add up to
  pub few_joined_groups : (parts : List UnitPlan) (may : ℕ → Bool) (found : List ℕ)
      → found ≡ groups_within release may
      (λ pairs. list_any (λ part. group_means release (logical_groups_of part) pairs)
      parts)
      → length found ≤ total (group_sizes indexed (physical_groups_list_of parts))
  few_joined_groups parts may found found_is =
      let some : List Pair → Bool = λ pairs. list_any (λ part. group_means release (logical_groups_of part) pairs)
      parts in
      let plan : PlanOfGroups = or_group_plan (logical_groups_list_of parts) in
      let few = few_groups (physical_groups_or (physical_groups_list_of parts)) may found
      (found_is ∙ groups_same release may some (group_means release plan)
      (groups.or_node release plan (groups_where release some) parts refl refl)) in
      omega (arith, few)

  -- the values of attributes are at most as many as all concepts, and as all rows
  pub few_values : (set types : ℕ → Bool) (found : List ℕ) → found ≡ numbers_in release (is_value release set types)
      → length found ≤ min (length indexed.concepts) (length indexed.rows)
  few_values set types found found_is =
      omega (
        arith,
        ap (λ (numbers : List ℕ). length numbers) found_is,
        length-places (is_value release set types) release.concepts 0,
        many-all release indexed is rising (is_value release set types),
        many-values release indexed is rising set types
            (λ row there passes.
            (tells_in_force release row.source).1
            (contains_had release.concepts row.source
            (All-contains (λ (row : Attribute). has release.concepts row.source ≡ true) release.attributes row known
            there))),
      )
