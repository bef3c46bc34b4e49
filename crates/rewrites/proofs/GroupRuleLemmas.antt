-- Each rule keeps the meaning of a plan of groups at its root.
use Rattle.std.proofs.Common.{ℕ, ◌≡◌, ◌+◌, ◌-◌, ◌^◌, ◌&&◌, ◌||◌, not, Bool, true, false, Option, Some, None, List}
use Rattle.std.proofs.Common.{nat_le, nat_lt, nat_eq, refl, sym, ap, ◌∙◌}
use Rattle.std.specs.List.{count_by}
use Rattle.std.proofs.lemmas.Bool.{and_parts, eqb-true}
use Rattle.release_model.specs.Release.{Release}
use Rattle.release_model.specs.Pairs.{Pair}
use Rattle.constraint_tree.specs.declared.operator.Cardinality.{Cardinality}
use Rattle.constraint_tree.specs.Passing.{lies_in, is_within}
use Rattle.set_algebra.specs.Equal.{same_group}
use Rattle.set_algebra.specs.EqualLaws.{decides_group}
use Rattle.set_algebra.specs.Meaning.{means, group_means, all_groups_mean, some_group_means, value_passes, has_pairs}
use Rattle.set_algebra.specs.Plan.{Plan, or_plan, PlanOfGroups, nothing_group, every_group, and_group_plan}
use Rattle.set_algebra.specs.Plan.{or_group_plan}
use Rattle.set_algebra.specs.Plan.{minus_group_plan, pairs_group_plan, PlansOfGroups, no_group_plans, group_plan_then}
use Rattle.set_algebra.specs.Plan.{TestPlan, within_plan}
use Rattle.rewrites.specs.declared.rule.Rule.{Rule}
use Rattle.rewrites.specs.declared.rule.Rule.TheVariants as rule
use Rattle.rewrites.specs.PlanLists.{groups_then, groups_joined, groups_of_each}
use Rattle.rewrites.specs.Counts.{only_if, at_least, up_to, asks_some, split_at, complement_at}
use Rattle.rewrites.specs.Counts.{trivial_at}
use Rattle.rewrites.specs.Rules.{rewritten_group, both_groups}
use Rattle.rewrites.proofs.BoolLemmas
use Rattle.rewrites.proofs.CountLemmas
use Rattle.rewrites.proofs.AdditiveLemmas.{holds_of, and_after, spread_groups, spread_in_groups}
use Rattle.rewrites.proofs.RuleLemmas.{types_add, values_add}

-- over the release, the new plan of groups, if there is one, means the same groups as the old one
abbrev pub KeepsGroup : Release → PlanOfGroups → Option PlanOfGroups → Type 0
KeepsGroup release old None = Unit {0}
KeepsGroup release old (Some new) = (pairs : List Pair) → group_means release old pairs ≡ group_means release new pairs

-- a new plan of groups that is made under a condition keeps the meaning if it does so under the condition
keeps_if : (release : Release) (old new : PlanOfGroups) (condition : Bool)
    → (condition ≡ true → (pairs : List Pair) → group_means release old pairs ≡ group_means release new pairs)
    → KeepsGroup release old (only_if condition new)
keeps_if release old new true is = is refl
keeps_if release old new false is = tt

-- a group is in the sets of a list and of `last` exactly if it is in each set of the list with `last` at its end
all_then : (release : Release) (parts : PlansOfGroups) (last : PlanOfGroups) (pairs : List Pair)
    → all_groups_mean release (groups_then parts last) pairs
    ≡ (all_groups_mean release parts pairs && group_means release last pairs)
all_then release no_group_plans last pairs = BoolLemmas.and_one (group_means release last pairs)
all_then release (group_plan_then first rest) last pairs =
    ap (λ (b : Bool). group_means release first pairs && b) (all_then release rest last pairs)
    ∙ BoolLemmas.and_assoc (group_means release first pairs) (all_groups_mean release rest pairs)
    (group_means release last pairs)

-- a group is in the set of a plan of a list or of `last` exactly if it is in one of the list with `last` at its end
some_then : (release : Release) (parts : PlansOfGroups) (last : PlanOfGroups) (pairs : List Pair)
    → some_group_means release (groups_then parts last) pairs
    ≡ (some_group_means release parts pairs || group_means release last pairs)
some_then release no_group_plans last pairs = BoolLemmas.or_only (group_means release last pairs)
some_then release (group_plan_then first rest) last pairs =
    ap (λ (b : Bool). group_means release first pairs || b) (some_then release rest last pairs)
    ∙ BoolLemmas.or_assoc (group_means release first pairs) (some_group_means release rest pairs)
    (group_means release last pairs)

-- a group is in each set of two lists of plans of groups exactly if it is in each set of the joined list
all_joined : (release : Release) (parts others : PlansOfGroups) (pairs : List Pair)
    → all_groups_mean release (groups_joined parts others) pairs
    ≡ (all_groups_mean release parts pairs && all_groups_mean release others pairs)
all_joined release no_group_plans others pairs = refl
all_joined release (group_plan_then first rest) others pairs =
    ap (λ (b : Bool). group_means release first pairs && b) (all_joined release rest others pairs)
    ∙ BoolLemmas.and_assoc (group_means release first pairs) (all_groups_mean release rest pairs)
    (all_groups_mean release others pairs)

-- a group is in some set of two lists of plans of groups exactly if it is in some set of the joined list
some_joined : (release : Release) (parts others : PlansOfGroups) (pairs : List Pair)
    → some_group_means release (groups_joined parts others) pairs
    ≡ (some_group_means release parts pairs || some_group_means release others pairs)
some_joined release no_group_plans others pairs = refl
some_joined release (group_plan_then first rest) others pairs =
    ap (λ (b : Bool). group_means release first pairs || b) (some_joined release rest others pairs)
    ∙ BoolLemmas.or_assoc (group_means release first pairs) (some_group_means release rest pairs)
    (some_group_means release others pairs)

-- The rules of the parts of And, Or and Minus.

turn : (release : Release) (plan : PlanOfGroups) → KeepsGroup release plan (rewritten_group rule.Turn plan)
turn release (and_group_plan (group_plan_then first (group_plan_then second rest))) = λ pairs.
    BoolLemmas.and_turned true (group_means release first pairs)
    (all_groups_mean release (group_plan_then second rest) pairs)
    ∙ sym (all_then release (group_plan_then second rest) first pairs)
turn release (or_group_plan (group_plan_then first (group_plan_then second rest))) = λ pairs.
    BoolLemmas.or_turned (group_means release first pairs)
    (some_group_means release (group_plan_then second rest) pairs)
    ∙ sym (some_then release (group_plan_then second rest) first pairs)
turn release plan = tt

join : (release : Release) (plan : PlanOfGroups) → KeepsGroup release plan (rewritten_group rule.Join plan)
join release (and_group_plan (group_plan_then (and_group_plan parts) rest)) =
    λ pairs. sym (all_joined release parts rest pairs)
join release (or_group_plan (group_plan_then (or_group_plan parts) rest)) =
    λ pairs. sym (some_joined release parts rest pairs)
join release plan = tt

pair : (release : Release) (plan : PlanOfGroups) → KeepsGroup release plan (rewritten_group rule.Pair plan)
pair release (and_group_plan (group_plan_then first (group_plan_then second (group_plan_then third rest)))) = λ pairs.
    BoolLemmas.and_paired true (group_means release first pairs) (group_means release second pairs)
    (all_groups_mean release (group_plan_then third rest) pairs)
pair release (or_group_plan (group_plan_then first (group_plan_then second (group_plan_then third rest)))) = λ pairs.
    BoolLemmas.or_paired (group_means release first pairs) (group_means release second pairs)
    (some_group_means release (group_plan_then third rest) pairs)
pair release plan = tt

spread : (release : Release) (plan : PlanOfGroups) → KeepsGroup release plan (rewritten_group rule.Spread plan)
spread release (and_group_plan (group_plan_then (or_group_plan parts) rest)) = λ pairs.
    spread_groups release pairs (λ part. and_group_plan (group_plan_then part rest))
    (λ set. set pairs && all_groups_mean release rest pairs)
    (and_after _ (all_groups_mean release rest pairs) (holds_of pairs))
    (λ part. refl) parts
spread release plan = tt

same : (release : Release) (plan : PlanOfGroups) → KeepsGroup release plan (rewritten_group rule.Same plan)
same release (and_group_plan (group_plan_then first (group_plan_then second rest))) =
    keeps_if release (and_group_plan (group_plan_then first (group_plan_then second rest)))
    (and_group_plan (group_plan_then first rest))
    (same_group first second) (λ holds pairs.
    ap
    (λ (plan : PlanOfGroups). group_means release first pairs
    && (group_means release plan pairs && all_groups_mean release rest pairs))
    (sym ((decides_group first second).0 holds))
    ∙ BoolLemmas.and_same true (group_means release first pairs) (all_groups_mean release rest pairs))
same release (or_group_plan (group_plan_then first (group_plan_then second rest))) =
    keeps_if release (or_group_plan (group_plan_then first (group_plan_then second rest)))
    (or_group_plan (group_plan_then first rest))
    (same_group first second) (λ holds pairs.
    ap
    (λ (plan : PlanOfGroups). group_means release first pairs
    || (group_means release plan pairs || some_group_means release rest pairs))
    (sym ((decides_group first second).0 holds))
    ∙ BoolLemmas.or_same (group_means release first pairs) (some_group_means release rest pairs))
same release (minus_group_plan first second) =
    keeps_if release (minus_group_plan first second) nothing_group (same_group first second) (λ holds pairs.
    ap (λ (plan : PlanOfGroups). group_means release first pairs && not (group_means release plan pairs))
    (sym ((decides_group first second).0 holds))
    ∙ BoolLemmas.minus_same (group_means release first pairs))
same release plan = tt

only : (release : Release) (plan : PlanOfGroups) → KeepsGroup release plan (rewritten_group rule.Only plan)
only release (and_group_plan (group_plan_then one no_group_plans)) =
    λ pairs. BoolLemmas.and_one (group_means release one pairs)
only release (or_group_plan (group_plan_then one no_group_plans)) =
    λ pairs. BoolLemmas.or_only (group_means release one pairs)
only release plan = tt

minus_and : (release : Release) (plan : PlanOfGroups) → KeepsGroup release plan (rewritten_group rule.MinusAnd plan)
minus_and release (and_group_plan (group_plan_then (minus_group_plan first second) rest)) = λ pairs.
    BoolLemmas.and_minus true (group_means release first pairs) (group_means release second pairs)
    (all_groups_mean release rest pairs)
minus_and release plan = tt

minus_or : (release : Release) (plan : PlanOfGroups) → KeepsGroup release plan (rewritten_group rule.MinusOr plan)
minus_or release (minus_group_plan first (or_group_plan (group_plan_then second rest))) = λ pairs.
    BoolLemmas.minus_or (group_means release first pairs) (group_means release second pairs)
    (some_group_means release rest pairs)
minus_or release plan = tt

-- The rules of types and tests.

types_or : (release : Release) (plan : PlanOfGroups) → KeepsGroup release plan (rewritten_group rule.TypesOr plan)
types_or release (pairs_group_plan count (or_plan types) test) =
    keeps_if release (pairs_group_plan count (or_plan types) test)
    (or_group_plan (groups_of_each (λ type. pairs_group_plan count type test) types)) (asks_some count) (λ asks pairs.
    spread_in_groups release pairs (λ type. pairs_group_plan count type test)
    (λ set. has_pairs count set (value_passes release test) pairs)
    (types_add count (value_passes release test) pairs asks) (λ part. refl) types)
types_or release plan = tt

test_or : (release : Release) (plan : PlanOfGroups) → KeepsGroup release plan (rewritten_group rule.TestOr plan)
test_or release (pairs_group_plan count types (within_plan (or_plan values))) =
    keeps_if release (pairs_group_plan count types (within_plan (or_plan values)))
    (or_group_plan (groups_of_each (λ value. pairs_group_plan count types (within_plan value)) values))
    (asks_some count)
    (λ asks pairs.
    spread_in_groups release pairs (λ value. pairs_group_plan count types (within_plan value))
    (λ set. has_pairs count (means release types) (is_within set) pairs)
    (values_add count (means release types) pairs asks) (λ part. refl) values)
test_or release plan = tt

-- The rules of counts. `n` is the number of the group's pairs that match.
module _ (release : Release) (types : Plan) (test : TestPlan) where
  abbrev n : List Pair → ℕ
  n pairs = count_by (λ pair. means release types pair.type_id && value_passes release test pair.value) pairs

  split_keeps : (count : Cardinality) (least : ℕ) (most : Option ℕ) → count ≡ record { min = least; max = most }
      → KeepsGroup release (pairs_group_plan count types test)
      (split_at (λ some none. both_groups (pairs_group_plan some types test) (pairs_group_plan none types test)) least
      most)
  split_keeps count least None is = tt
  split_keeps count least (Some most) is =
      keeps_if release (pairs_group_plan count types test)
      (both_groups (pairs_group_plan (at_least least) types test) (pairs_group_plan (up_to most) types test))
      (nat_le 1 least)
      (λ above pairs.
      ap (λ (c : Cardinality). lies_in c (n pairs)) is ∙ CountLemmas.range_split true least most (n pairs))

  turn_keeps : (count : Cardinality) (least : ℕ) (most : Option ℕ) → count ≡ record { min = least; max = most }
      → KeepsGroup release (pairs_group_plan count types test)
      (complement_at (λ above. minus_group_plan every_group (pairs_group_plan above types test)) least most)
  turn_keeps count least None is = tt
  turn_keeps count least (Some most) is =
      keeps_if release (pairs_group_plan count types test)
      (minus_group_plan every_group (pairs_group_plan (at_least (most + 1)) types test))
      (nat_eq least 0 && nat_lt most (2 ^ 64 - 1)) (λ holds pairs.
      ap (λ (c : Cardinality). lies_in c (n pairs)) is
      ∙ ap (λ (k : ℕ). nat_le k (n pairs) && nat_le (n pairs) most)
      (eqb-true least 0 (and_parts (nat_eq least 0) _ holds).0)
      ∙ CountLemmas.range_turn true most (n pairs))

  trivial_keeps : (count : Cardinality) (least : ℕ) (most : Option ℕ) → count ≡ record { min = least; max = most }
      → KeepsGroup release (pairs_group_plan count types test) (trivial_at every_group nothing_group least most)
  trivial_keeps count least None is =
      keeps_if release (pairs_group_plan count types test) every_group (nat_eq least 0) (λ holds pairs.
      ap (λ (c : Cardinality). lies_in c (n pairs)) is
      ∙ ap (λ (k : ℕ). nat_le k (n pairs) && true) (eqb-true least 0 holds)
      ∙ CountLemmas.range_always true (n pairs))
  trivial_keeps count least (Some most) is =
      keeps_if release (pairs_group_plan count types test) nothing_group (nat_lt most least) (λ above pairs.
      ap (λ (c : Cardinality). lies_in c (n pairs)) is ∙ CountLemmas.range_never true least most (n pairs) above)

range_split : (release : Release) (plan : PlanOfGroups) → KeepsGroup release plan (rewritten_group rule.RangeSplit plan)
range_split release (pairs_group_plan count types test) = split_keeps release types test count count.min count.max refl
range_split release plan = tt

range_turn : (release : Release) (plan : PlanOfGroups) → KeepsGroup release plan (rewritten_group rule.RangeTurn plan)
range_turn release (pairs_group_plan count types test) = turn_keeps release types test count count.min count.max refl
range_turn release plan = tt

range_all : (release : Release) (plan : PlanOfGroups) → KeepsGroup release plan (rewritten_group rule.RangeAll plan)
range_all release (pairs_group_plan count types test) = trivial_keeps release types test count count.min count.max refl
range_all release plan = tt

-- each rule keeps the meaning of a plan of groups at its root
pub group_keeps : (release : Release) (rule : Rule) (plan : PlanOfGroups)
    → KeepsGroup release plan (rewritten_group rule plan)
group_keeps release rule.Turn plan = turn release plan
group_keeps release rule.Join plan = join release plan
group_keeps release rule.Pair plan = pair release plan
group_keeps release rule.Spread plan = spread release plan
group_keeps release rule.Same plan = same release plan
group_keeps release rule.Only plan = only release plan
group_keeps release rule.MinusAnd plan = minus_and release plan
group_keeps release rule.MinusOr plan = minus_or release plan
group_keeps release rule.TypesOr plan = types_or release plan
group_keeps release rule.TestOr plan = test_or release plan
group_keeps release rule.RangeSplit plan = range_split release plan
group_keeps release rule.RangeTurn plan = range_turn release plan
group_keeps release rule.RangeAll plan = range_all release plan
group_keeps release rule plan = tt
