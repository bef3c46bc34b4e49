-- Each rule keeps the meaning of a plan of concepts at its root.
use Rattle.std.proofs.Common.{ℕ, ◌≡◌, ◌+◌, ◌-◌, ◌^◌, ◌&&◌, ◌||◌, not, Bool, true, false, Option, Some, None, List}
use Rattle.std.proofs.Common.{option_map, nat_le, nat_lt, nat_eq, if◌then◌else◌, refl, sym, ap, ◌∙◌}
use Rattle.std.proofs.Math.Path.{fun_ext}
use Rattle.std.specs.List.{list_any, count_by}
use Rattle.std.proofs.lemmas.Bool.{and_parts, eqb-true}
use Rattle.release_model.specs.Release.{Release, Value}
use Rattle.release_model.specs.Pairs.{Pair, out_pairs}
use Rattle.release_model.specs.Groups.{groups_of}
use Rattle.constraint_tree.specs.declared.operator.Cardinality.{Cardinality}
use Rattle.constraint_tree.specs.declared.operator.Operator.{Operator}
use Rattle.constraint_tree.specs.declared.operator.Operator.TheVariants.{Descendants, DescendantsOrSelf, Children}
use Rattle.constraint_tree.specs.declared.operator.Operator.TheVariants.{ChildrenOrSelf, Ancestors, AncestorsOrSelf}
use Rattle.constraint_tree.specs.declared.operator.Operator.TheVariants.{Parents, ParentsOrSelf, Top, Bottom}
use Rattle.constraint_tree.specs.Passing.{lies_in, is_within}
use Rattle.constraint_tree.specs.Walks.{has_concept, some_member, is_below, is_above, is_child, walks}
use Rattle.constraint_tree.specs.Denotation.{is_component}
use Rattle.hierarchy.specs.Hierarchy.{reaches}
use Rattle.set_algebra.specs.Equal.{same_plan}
use Rattle.set_algebra.specs.EqualLaws.{decides_plan}
use Rattle.set_algebra.specs.Lowering.{both_plan}
use Rattle.set_algebra.specs.Meaning.{means, all_mean, some_means, group_means, some_group_means}
use Rattle.set_algebra.specs.Meaning.{value_passes, has_pairs, has_groups, pairs_of}
use Rattle.set_algebra.proofs.MeaningLemmas.{in_force_if_meant}
use Rattle.set_algebra.specs.Plan.{Plan, empty_plan, all_plan, walk_plan, members_plan, and_plan, or_plan}
use Rattle.set_algebra.specs.Plan.{minus_plan, pairs_plan, groups_plan, Plans, no_plans, plan_then}
use Rattle.set_algebra.specs.Plan.{PlanOfGroups, and_group_plan, or_group_plan, pairs_group_plan}
use Rattle.set_algebra.specs.Plan.{PlansOfGroups, no_group_plans, group_plan_then, TestPlan, within_plan}
use Rattle.rewrites.specs.declared.rule.Rule.{Rule}
use Rattle.rewrites.specs.declared.rule.Rule.TheVariants as rule
use Rattle.rewrites.specs.PlanLists.{plans_then, plans_joined, plans_each, plans_of_each}
use Rattle.rewrites.specs.Counts.{only_if, at_least, up_to, asks_some, asks_none, split_at, complement_at}
use Rattle.rewrites.specs.Counts.{trivial_at}
use Rattle.rewrites.specs.Rules.{rewritten, goes_through, walk_of_walk}
use Rattle.rewrites.proofs.BoolLemmas
use Rattle.rewrites.proofs.CountLemmas
use Rattle.rewrites.proofs.AdditiveLemmas.{IsAdditive, holds_of, and_after, and_before, in_either, within, some_of}
use Rattle.rewrites.proofs.AdditiveLemmas.{equivalent, spread_plans, spread_braces}
use Rattle.rewrites.proofs.WalkLemmas.{beyond_twice, there_same, below_is_transitive, above_is_transitive}
use Rattle.rewrites.proofs.GroupLemmas.{some_pair_of_group}
use Rattle.number_lists.proofs.ListLemmas.{passing_item, some_item_passes}

-- over the release, the new plan of concepts, if there is one, means the same concepts as the old one
abbrev pub Keeps : Release → Plan → Option Plan → Type 0
Keeps release old None = Unit {0}
Keeps release old (Some new) = (concept : ℕ) → means release old concept ≡ means release new concept

-- a new plan of concepts that is made under a condition keeps the meaning if it does so under the condition
keeps_if : (release : Release) (old new : Plan) (condition : Bool)
    → (condition ≡ true → (concept : ℕ) → means release old concept ≡ means release new concept)
    → Keeps release old (only_if condition new)
keeps_if release old new true is = is refl
keeps_if release old new false is = tt

-- a concept is in the sets of a list and of `last` exactly if it is in each set of the list with `last` at its end
all_then : (release : Release) (parts : Plans) (last : Plan) (concept : ℕ)
    → all_mean release (plans_then parts last) concept ≡ (all_mean release parts concept && means release last concept)
all_then release no_plans last concept = BoolLemmas.and_one (means release last concept)
all_then release (plan_then first rest) last concept =
    ap (λ (b : Bool). means release first concept && b) (all_then release rest last concept)
    ∙ BoolLemmas.and_assoc (means release first concept) (all_mean release rest concept) (means release last concept)

-- a concept is in the set of a plan of a list or of `last` exactly if it is in one of the list with `last` at its end
some_then : (release : Release) (parts : Plans) (last : Plan) (concept : ℕ)
    → some_means release (plans_then parts last) concept
    ≡ (some_means release parts concept || means release last concept)
some_then release no_plans last concept = BoolLemmas.or_only (means release last concept)
some_then release (plan_then first rest) last concept =
    ap (λ (b : Bool). means release first concept || b) (some_then release rest last concept)
    ∙ BoolLemmas.or_assoc (means release first concept) (some_means release rest concept) (means release last concept)

-- a concept is in each set of two lists of plans of concepts exactly if it is in each set of the joined list
all_joined : (release : Release) (parts others : Plans) (concept : ℕ)
    → all_mean release (plans_joined parts others) concept
    ≡ (all_mean release parts concept && all_mean release others concept)
all_joined release no_plans others concept = refl
all_joined release (plan_then first rest) others concept =
    ap (λ (b : Bool). means release first concept && b) (all_joined release rest others concept)
    ∙ BoolLemmas.and_assoc (means release first concept) (all_mean release rest concept)
    (all_mean release others concept)

-- a concept is in some set of two lists of plans of concepts exactly if it is in some set of the joined list
some_joined : (release : Release) (parts others : Plans) (concept : ℕ)
    → some_means release (plans_joined parts others) concept
    ≡ (some_means release parts concept || some_means release others concept)
some_joined release no_plans others concept = refl
some_joined release (plan_then first rest) others concept =
    ap (λ (b : Bool). means release first concept || b) (some_joined release rest others concept)
    ∙ BoolLemmas.or_assoc (means release first concept) (some_means release rest concept)
    (some_means release others concept)

-- The rules of the parts of And, Or and Minus.

turn : (release : Release) (plan : Plan) → Keeps release plan (rewritten rule.Turn plan)
turn release (and_plan (plan_then first (plan_then second rest))) = λ concept.
    BoolLemmas.and_turned (has_concept release concept) (means release first concept)
    (all_mean release (plan_then second rest) concept)
    ∙ ap (λ (b : Bool). has_concept release concept && b) (sym (all_then release (plan_then second rest) first concept))
turn release (or_plan (plan_then first (plan_then second rest))) = λ concept.
    BoolLemmas.or_turned (means release first concept) (some_means release (plan_then second rest) concept)
    ∙ sym (some_then release (plan_then second rest) first concept)
turn release plan = tt

join : (release : Release) (plan : Plan) → Keeps release plan (rewritten rule.Join plan)
join release (and_plan (plan_then (and_plan parts) rest)) = λ concept.
    BoolLemmas.and_joined (has_concept release concept) (all_mean release parts concept) (all_mean release rest concept)
    ∙ ap (λ (b : Bool). has_concept release concept && b) (sym (all_joined release parts rest concept))
join release (or_plan (plan_then (or_plan parts) rest)) = λ concept. sym (some_joined release parts rest concept)
join release plan = tt

pair : (release : Release) (plan : Plan) → Keeps release plan (rewritten rule.Pair plan)
pair release (and_plan (plan_then first (plan_then second (plan_then third rest)))) = λ concept.
    BoolLemmas.and_paired (has_concept release concept) (means release first concept) (means release second concept)
    (all_mean release (plan_then third rest) concept)
pair release (or_plan (plan_then first (plan_then second (plan_then third rest)))) = λ concept.
    BoolLemmas.or_paired (means release first concept) (means release second concept)
    (some_means release (plan_then third rest) concept)
pair release plan = tt

spread : (release : Release) (plan : Plan) → Keeps release plan (rewritten rule.Spread plan)
spread release (and_plan (plan_then (or_plan parts) rest)) = λ concept.
    spread_plans release concept (λ part. and_plan (plan_then part rest))
    (λ set. has_concept release concept && (set concept && all_mean release rest concept))
    (and_before (has_concept release concept) _ (and_after _ (all_mean release rest concept) (holds_of concept)))
    (λ part. refl) parts
spread release plan = tt

same : (release : Release) (plan : Plan) → Keeps release plan (rewritten rule.Same plan)
same release (and_plan (plan_then first (plan_then second rest))) =
    keeps_if release (and_plan (plan_then first (plan_then second rest))) (and_plan (plan_then first rest))
    (same_plan first second) (λ holds concept.
    ap
    (λ (plan : Plan). has_concept release concept
    && (means release first concept && (means release plan concept && all_mean release rest concept)))
    (sym ((decides_plan first second).0 holds))
    ∙ BoolLemmas.and_same (has_concept release concept) (means release first concept) (all_mean release rest concept))
same release (or_plan (plan_then first (plan_then second rest))) =
    keeps_if release (or_plan (plan_then first (plan_then second rest))) (or_plan (plan_then first rest))
    (same_plan first second) (λ holds concept.
    ap (λ (plan : Plan). means release first concept || (means release plan concept || some_means release rest concept))
    (sym ((decides_plan first second).0 holds))
    ∙ BoolLemmas.or_same (means release first concept) (some_means release rest concept))
same release (minus_plan first second) =
    keeps_if release (minus_plan first second) empty_plan (same_plan first second) (λ holds concept.
    ap (λ (plan : Plan). means release first concept && not (means release plan concept))
    (sym ((decides_plan first second).0 holds))
    ∙ BoolLemmas.minus_same (means release first concept))
same release plan = tt

only : (release : Release) (plan : Plan) → Keeps release plan (rewritten rule.Only plan)
only release (and_plan (plan_then one no_plans)) = λ concept.
    BoolLemmas.and_only (has_concept release concept) (means release one concept)
    (in_force_if_meant release one concept)
only release (or_plan (plan_then one no_plans)) = λ concept. BoolLemmas.or_only (means release one concept)
only release plan = tt

minus_and : (release : Release) (plan : Plan) → Keeps release plan (rewritten rule.MinusAnd plan)
minus_and release (and_plan (plan_then (minus_plan first second) rest)) = λ concept.
    BoolLemmas.and_minus (has_concept release concept) (means release first concept) (means release second concept)
    (all_mean release rest concept)
minus_and release plan = tt

minus_or : (release : Release) (plan : Plan) → Keeps release plan (rewritten rule.MinusOr plan)
minus_or release (minus_plan first (or_plan (plan_then second rest))) = λ concept.
    BoolLemmas.minus_or (means release first concept) (means release second concept) (some_means release rest concept)
minus_or release plan = tt

-- The rules of walks.

-- the test that some concept of the set passes is additive
some_member_adds : (release : Release) (test : ℕ → Bool) → IsAdditive (λ (set : ℕ → Bool). some_member release set test)
some_member_adds release test =
    some_of (λ member set. set member && test member) (λ member. and_after _ (test member) (holds_of member))
    release.concepts

-- the test of a walk is additive in its operand, for each operator other than `!!>` and `!!<`
walks_add : (release : Release) (operator : Operator) (concept : ℕ) → goes_through operator ≡ true
    → IsAdditive (λ (set : ℕ → Bool). walks release operator set concept)
walks_add release Descendants concept goes = some_member_adds release (λ member. reaches release.isa concept member)
walks_add release DescendantsOrSelf concept goes =
    in_either _ _ (holds_of concept) (some_member_adds release (λ member. reaches release.isa concept member))
walks_add release Children concept goes = some_member_adds release (λ member. is_child release concept member)
walks_add release ChildrenOrSelf concept goes =
    in_either _ _ (holds_of concept) (some_member_adds release (λ member. is_child release concept member))
walks_add release Ancestors concept goes = some_member_adds release (λ member. reaches release.isa member concept)
walks_add release AncestorsOrSelf concept goes =
    in_either _ _ (holds_of concept) (some_member_adds release (λ member. reaches release.isa member concept))
walks_add release Parents concept goes = some_member_adds release (λ member. is_child release member concept)
walks_add release ParentsOrSelf concept goes =
    in_either _ _ (holds_of concept) (some_member_adds release (λ member. is_child release member concept))
walks_add release Top concept goes = absurd (cc)
walks_add release Bottom concept goes = absurd (cc)

walk_or : (release : Release) (plan : Plan) → Keeps release plan (rewritten rule.WalkOr plan)
walk_or release (walk_plan operator (or_plan parts)) =
    keeps_if release (walk_plan operator (or_plan parts)) (or_plan (plans_each (walk_plan operator) parts))
    (goes_through operator) (λ goes concept.
    spread_plans release concept (walk_plan operator)
    (λ set. has_concept release concept && walks release operator set concept)
    (and_before (has_concept release concept) _ (walks_add release operator concept goes)) (λ part. refl) parts)
walk_or release (members_plan (or_plan parts)) = λ concept.
    spread_plans release concept members_plan (λ set. is_component release set concept)
    (and_before (has_concept release concept) _
    (some_of (λ (row : ℕ × ℕ) (set : ℕ → Bool). set row.0 && nat_eq row.1 concept)
    (λ row. and_after _ (nat_eq row.1 concept) (holds_of row.0)) release.members))
    (λ part. refl) parts
walk_or release plan = tt

-- WalkTwice keeps the meaning of a walk of a walk, for each pair of operators
two_walks : (release : Release) (outer inner : Operator) (operand : Plan)
    → Keeps release (walk_plan outer (walk_plan inner operand))
    (option_map (λ operator. walk_plan operator operand) (walk_of_walk outer inner))
two_walks release DescendantsOrSelf DescendantsOrSelf operand = λ concept.
    ap
    (λ (b : Bool). has_concept release concept &&
    ((has_concept release concept && (means release operand concept
    || is_below release (means release operand) concept)) || b))
    (there_same release (means release operand) (λ from to. reaches release.isa from to)
    (below_is_transitive release.isa) concept)
    ∙ BoolLemmas.self_of_self (has_concept release concept) (means release operand concept)
    (is_below release (means release operand) concept)
two_walks release DescendantsOrSelf Descendants operand = λ concept.
    BoolLemmas.self_of_walk (has_concept release concept) (is_below release (means release operand) concept) _
    (beyond_twice release (means release operand) (λ from to. reaches release.isa from to)
    (below_is_transitive release.isa) concept)
two_walks release Descendants DescendantsOrSelf operand = λ concept.
    ap (λ (b : Bool). has_concept release concept && b)
    (there_same release (means release operand) (λ from to. reaches release.isa from to)
    (below_is_transitive release.isa) concept)
two_walks release AncestorsOrSelf AncestorsOrSelf operand = λ concept.
    ap
    (λ (b : Bool). has_concept release concept &&
    ((has_concept release concept && (means release operand concept
    || is_above release (means release operand) concept)) || b))
    (there_same release (means release operand) (λ from to. reaches release.isa to from)
    (above_is_transitive release.isa) concept)
    ∙ BoolLemmas.self_of_self (has_concept release concept) (means release operand concept)
    (is_above release (means release operand) concept)
two_walks release AncestorsOrSelf Ancestors operand = λ concept.
    BoolLemmas.self_of_walk (has_concept release concept) (is_above release (means release operand) concept) _
    (beyond_twice release (means release operand) (λ from to. reaches release.isa to from)
    (above_is_transitive release.isa) concept)
two_walks release Ancestors AncestorsOrSelf operand = λ concept.
    ap (λ (b : Bool). has_concept release concept && b)
    (there_same release (means release operand) (λ from to. reaches release.isa to from)
    (above_is_transitive release.isa) concept)
two_walks release outer inner operand = tt

walk_twice : (release : Release) (plan : Plan) → Keeps release plan (rewritten rule.WalkTwice plan)
walk_twice release (walk_plan outer (walk_plan inner operand)) = two_walks release outer inner operand
walk_twice release plan = tt

-- The rules of types and tests.

-- if a cardinality is `[1..*]`, the test whether the number of matching pairs lies in it is additive in the set of
-- types
pub types_add : (count : Cardinality) (passes : Value → Bool) (pairs : List Pair) → asks_some count ≡ true
    → IsAdditive (λ (types : ℕ → Bool). has_pairs count types passes pairs)
types_add count passes pairs asks =
    equivalent _ (λ types. list_any (λ pair. types pair.type_id && passes pair.value) pairs)
    (λ types. CountLemmas.some_lie_in count (λ pair. types pair.type_id && passes pair.value) pairs asks)
    (some_of (λ pair types. types pair.type_id && passes pair.value)
    (λ pair. and_after _ (passes pair.value) (holds_of pair.type_id)) pairs)

-- if a cardinality is `[1..*]`, the test whether the number of matching pairs lies in it is additive in the set of
-- values
pub values_add : (count : Cardinality) (types : ℕ → Bool) (pairs : List Pair) → asks_some count ≡ true
    → IsAdditive (λ (set : ℕ → Bool). has_pairs count types (is_within set) pairs)
values_add count types pairs asks =
    equivalent _ (λ set. list_any (λ pair. types pair.type_id && is_within set pair.value) pairs)
    (λ set. CountLemmas.some_lie_in count (λ pair. types pair.type_id && is_within set pair.value) pairs asks)
    (some_of (λ pair set. types pair.type_id && is_within set pair.value)
    (λ pair. and_before (types pair.type_id) _ (within pair.value)) pairs)

types_or : (release : Release) (plan : Plan) → Keeps release plan (rewritten rule.TypesOr plan)
types_or release (pairs_plan back count (or_plan types) test) =
    keeps_if release (pairs_plan back count (or_plan types) test)
    (or_plan (plans_each (λ type. pairs_plan back count type test) types)) (asks_some count) (λ asks concept.
    spread_plans release concept (λ type. pairs_plan back count type test)
    (λ set. has_concept release concept && has_pairs count set (value_passes release test)
    (pairs_of release back concept))
    (and_before (has_concept release concept) _ (types_add count (value_passes release test)
    (pairs_of release back concept) asks))
    (λ part. refl) types)
types_or release plan = tt

test_or : (release : Release) (plan : Plan) → Keeps release plan (rewritten rule.TestOr plan)
test_or release (pairs_plan back count types (within_plan (or_plan values))) =
    keeps_if release (pairs_plan back count types (within_plan (or_plan values)))
    (or_plan (plans_each (λ value. pairs_plan back count types (within_plan value)) values)) (asks_some count)
    (λ asks concept.
    spread_plans release concept (λ value. pairs_plan back count types (within_plan value))
    (λ set. has_concept release concept && has_pairs count (means release types) (is_within set)
    (pairs_of release back concept))
    (and_before (has_concept release concept) _ (values_add count (means release types) (pairs_of release back concept)
    asks))
    (λ part. refl) values)
test_or release plan = tt

-- The rules of counts. The plan `make count` means the concepts in force whose number `n` lies in `count`.
module _ (release : Release) (make : Cardinality → Plan) (n : ℕ → ℕ)
    (is : (count : Cardinality) (concept : ℕ)
    → means release (make count) concept ≡ (has_concept release concept && lies_in count (n concept)))
  where
    split_keeps : (count : Cardinality) (least : ℕ) (most : Option ℕ) → count ≡ record { min = least; max = most }
        → Keeps release (make count) (split_at (λ some none. both_plan (make some) (make none)) least most)
    split_keeps count least None count_is = tt
    split_keeps count least (Some most) count_is =
        keeps_if release (make count) (both_plan (make (at_least least)) (make (up_to most))) (nat_le 1 least)
        (λ above concept.
        ap (λ (c : Cardinality). means release (make c) concept) count_is
        ∙ is (record { min = least; max = Some most }) concept
        ∙ CountLemmas.range_split (has_concept release concept) least most (n concept)
        ∙ sym
        (ap (λ (b : Bool). has_concept release concept && (b && (means release (make (up_to most)) concept && true)))
        (is (at_least least) concept)
        ∙ ap
        (λ (b : Bool). has_concept release concept
        && ((has_concept release concept && (nat_le least (n concept) && true)) && (b && true)))
        (is (up_to most) concept)))

    turn_keeps : (count : Cardinality) (least : ℕ) (most : Option ℕ) → count ≡ record { min = least; max = most }
        → Keeps release (make count) (complement_at (λ above. minus_plan all_plan (make above)) least most)
    turn_keeps count least None count_is = tt
    turn_keeps count least (Some most) count_is =
        keeps_if release (make count) (minus_plan all_plan (make (at_least (most + 1))))
        (nat_eq least 0 && nat_lt most (2 ^ 64 - 1)) (λ holds concept.
        ap (λ (c : Cardinality). means release (make c) concept) count_is
        ∙ is (record { min = least; max = Some most }) concept
        ∙ ap (λ (k : ℕ). has_concept release concept && (nat_le k (n concept) && nat_le (n concept) most))
        (eqb-true least 0 (and_parts (nat_eq least 0) _ holds).0)
        ∙ CountLemmas.range_turn (has_concept release concept) most (n concept)
        ∙ sym (ap (λ (b : Bool). has_concept release concept && not b) (is (at_least (most + 1)) concept)))

    trivial_keeps : (count : Cardinality) (least : ℕ) (most : Option ℕ) → count ≡ record { min = least; max = most }
        → Keeps release (make count) (trivial_at all_plan empty_plan least most)
    trivial_keeps count least None count_is =
        keeps_if release (make count) all_plan (nat_eq least 0) (λ holds concept.
        ap (λ (c : Cardinality). means release (make c) concept) count_is
        ∙ is (record { min = least; max = None }) concept
        ∙ ap (λ (k : ℕ). has_concept release concept && (nat_le k (n concept) && true)) (eqb-true least 0 holds)
        ∙ CountLemmas.range_always (has_concept release concept) (n concept))
    trivial_keeps count least (Some most) count_is =
        keeps_if release (make count) empty_plan (nat_lt most least) (λ above concept.
        ap (λ (c : Cardinality). means release (make c) concept) count_is
        ∙ is (record { min = least; max = Some most }) concept
        ∙ CountLemmas.range_never (has_concept release concept) least most (n concept) above)

-- the number of the concept's pairs that match the types and the test
abbrev pairs_count : (release : Release) (back : Bool) (types : Plan) (test : TestPlan) (concept : ℕ) → ℕ
pairs_count release back types test concept =
    count_by (λ pair. means release types pair.type_id && value_passes release test pair.value)
    (pairs_of release back concept)

-- the number of the concept's groups that the plan of groups means
abbrev groups_count : (release : Release) (units : PlanOfGroups) (concept : ℕ) → ℕ
groups_count release units concept = count_by (group_means release units) (groups_of release concept)

range_split : (release : Release) (plan : Plan) → Keeps release plan (rewritten rule.RangeSplit plan)
range_split release (pairs_plan back count types test) =
    split_keeps release (λ c. pairs_plan back c types test) (pairs_count release back types test) (λ c concept. refl)
    count count.min count.max refl
range_split release (groups_plan count units) =
    split_keeps release (λ c. groups_plan c units) (groups_count release units) (λ c concept. refl) count count.min
    count.max refl
range_split release plan = tt

range_turn : (release : Release) (plan : Plan) → Keeps release plan (rewritten rule.RangeTurn plan)
range_turn release (pairs_plan back count types test) =
    turn_keeps release (λ c. pairs_plan back c types test) (pairs_count release back types test) (λ c concept. refl)
    count count.min count.max refl
range_turn release (groups_plan count units) =
    turn_keeps release (λ c. groups_plan c units) (groups_count release units) (λ c concept. refl) count count.min
    count.max refl
range_turn release plan = tt

range_all : (release : Release) (plan : Plan) → Keeps release plan (rewritten rule.RangeAll plan)
range_all release (pairs_plan back count types test) =
    trivial_keeps release (λ c. pairs_plan back c types test) (pairs_count release back types test) (λ c concept. refl)
    count count.min count.max refl
range_all release (groups_plan count units) =
    trivial_keeps release (λ c. groups_plan c units) (groups_count release units) (λ c concept. refl) count count.min
    count.max refl
range_all release plan = tt

-- The rules of braces.

-- the test that the number of the concept's groups in a set lies in `1..*` is additive in the set
braces_add : (release : Release) (count : Cardinality) (concept : ℕ) → asks_some count ≡ true
    → IsAdditive (λ (set : List Pair → Bool). has_concept release concept && has_groups release count set concept)
braces_add release count concept asks =
    and_before (has_concept release concept) _
    (equivalent _ (λ set. list_any set (groups_of release concept))
    (λ set. CountLemmas.some_lie_in count set (groups_of release concept) asks)
    (some_of (λ pairs set. set pairs) (λ pairs. holds_of pairs) (groups_of release concept)))

-- a concept has no group in an `Or` of plans of groups exactly if it has no group in each of them
none_in_each : (release : Release) (count : Cardinality) (concept : ℕ) → asks_none count ≡ true
    → (units : PlansOfGroups)
    → (has_concept release concept && has_groups release count (some_group_means release units) concept)
    ≡ (has_concept release concept && all_mean release (plans_of_each (groups_plan count) units) concept)
none_in_each release count concept asks no_group_plans =
    ap (λ (b : Bool). has_concept release concept && b)
    (CountLemmas.none_lie_in count (λ pairs. false) (groups_of release concept) asks
    ∙ ap not
    (some_of {X = List Pair} (λ pairs set. set pairs) (λ pairs. holds_of pairs) (groups_of release concept)).none)
none_in_each release count concept asks (group_plan_then first rest) =
    let set : List Pair → Bool = group_means release first in
    let others : List Pair → Bool = some_group_means release rest in
    let groups : List (List Pair) = groups_of release concept in
    ap (λ (b : Bool). has_concept release concept && b)
    (CountLemmas.none_lie_in count (λ pairs. set pairs || others pairs) groups asks)
    ∙ ap (λ (b : Bool). has_concept release concept && not b)
    ((some_of (λ pairs sets. sets pairs) (λ pairs. holds_of pairs) groups).either set others)
    ∙ BoolLemmas.none_of_both (has_concept release concept) (list_any set groups) (list_any others groups)
    ∙ ap
    (λ (b : Bool). (has_concept release concept && not (list_any set groups)) && (has_concept release concept && b))
    (sym (CountLemmas.none_lie_in count others groups asks))
    ∙ ap (λ (b : Bool). (has_concept release concept && not (list_any set groups)) && b)
    (none_in_each release count concept asks rest)
    ∙ ap
    (λ (b : Bool). (has_concept release concept && b) &&
    (has_concept release concept && all_mean release (plans_of_each (groups_plan count) rest) concept))
    (sym (CountLemmas.none_lie_in count set groups asks))
    ∙ BoolLemmas.and_both (has_concept release concept) (has_groups release count set concept)
    (all_mean release (plans_of_each (groups_plan count) rest) concept)

-- BraceOr keeps the meaning if the cardinality is `1..*` or `0..0`, and makes nothing otherwise
brace_or_keeps : (release : Release) (count : Cardinality) (units : PlansOfGroups) (some none : Bool)
    → asks_some count ≡ some → asks_none count ≡ none
    → Keeps release (groups_plan count (or_group_plan units))
    (if some then Some (or_plan (plans_of_each (groups_plan count) units)) else only_if none
    (and_plan (plans_of_each (groups_plan count) units)))
brace_or_keeps release count units true none asks asks_not = λ concept.
    spread_braces release concept (groups_plan count)
    (λ set. has_concept release concept && has_groups release count set concept)
    (braces_add release count concept asks) (λ part. refl) units
brace_or_keeps release count units false true asks asks_not =
    λ concept. none_in_each release count concept asks_not units
brace_or_keeps release count units false false asks asks_not = tt

brace_or : (release : Release) (plan : Plan) → Keeps release plan (rewritten rule.BraceOr plan)
brace_or release (groups_plan count (or_group_plan units)) =
    brace_or_keeps release count units (asks_some count) (asks_none count) refl refl
brace_or release plan = tt

brace_one : (release : Release) (plan : Plan) → Keeps release plan (rewritten rule.BraceOne plan)
brace_one release (groups_plan count (pairs_group_plan some types test)) =
    keeps_if release (groups_plan count (pairs_group_plan some types test)) (pairs_plan false count types test)
    ((asks_some count || asks_none count) && asks_some some) (λ holds concept.
    let asked = and_parts (asks_some count || asks_none count) (asks_some some) holds in
    let passes : Pair → Bool = λ pair. means release types pair.type_id && value_passes release test pair.value in
    ap (λ (b : Bool). has_concept release concept && b)
    (CountLemmas.lies_in_equivalent count
    (count_by (group_means release (pairs_group_plan some types test)) (groups_of release concept))
    (count_by passes (out_pairs release concept)) asked.0
    (CountLemmas.counts_some (group_means release (pairs_group_plan some types test)) (groups_of release concept)
    ∙ ap (λ (set : List Pair → Bool). list_any set (groups_of release concept))
    (fun_ext (λ pairs. CountLemmas.some_lie_in some passes pairs asked.1))
    ∙ some_pair_of_group release concept passes
    ∙ sym (CountLemmas.counts_some passes (out_pairs release concept)))))
brace_one release plan = tt

-- a concept has a matching pair if at least one of its groups is in an `And` whose first part asks for at least one
-- matching pair
group_has_pair :
    (release : Release) (count some : Cardinality) (types : Plan) (test : TestPlan) (rest : PlansOfGroups) (concept : ℕ)
    → nat_le 1 count.min ≡ true → nat_le 1 some.min ≡ true
    → has_groups release count
    (group_means release (and_group_plan (group_plan_then (pairs_group_plan some types test) rest))) concept
    ≡ true
    → has_pairs (at_least 1) (means release types) (value_passes release test) (out_pairs release concept) ≡ true
group_has_pair release count some types test rest concept asks asks_pair holds =
    let passes : Pair → Bool = λ pair. means release types pair.type_id && value_passes release test pair.value in
    let both : List Pair → Bool =
    group_means release (and_group_plan (group_plan_then (pairs_group_plan some types test) rest)) in
    let any : list_any both (groups_of release concept) ≡ true =
    CountLemmas.some_of_enough count both (groups_of release concept) asks holds in
    let group = passing_item both (groups_of release concept) any in
    let paired : lies_in some (count_by passes group.0) ≡ true =
    (and_parts (lies_in some (count_by passes group.0)) _ group.2).0 in
    let pair : list_any passes group.0 ≡ true = CountLemmas.some_of_enough some passes group.0 asks_pair paired in
    CountLemmas.some_lie_in (at_least 1) passes (out_pairs release concept) refl
    ∙ sym (some_pair_of_group release concept passes)
    ∙ some_item_passes (list_any passes) (groups_of release concept) group.0 group.1 pair

brace_guard : (release : Release) (plan : Plan) → Keeps release plan (rewritten rule.BraceGuard plan)
brace_guard release (groups_plan count (and_group_plan (group_plan_then (pairs_group_plan some types test) rest))) =
    keeps_if release (groups_plan count (and_group_plan (group_plan_then (pairs_group_plan some types test) rest)))
    (both_plan (pairs_plan false (at_least 1) types test)
    (groups_plan count (and_group_plan (group_plan_then (pairs_group_plan some types test) rest))))
    (nat_le 1 count.min && nat_le 1 some.min) (λ holds concept.
    let asks = and_parts (nat_le 1 count.min) (nat_le 1 some.min) holds in
    BoolLemmas.guarded (has_concept release concept) _ _
    (group_has_pair release count some types test rest concept asks.0 asks.1))
brace_guard release plan = tt

-- each rule keeps the meaning of a plan of concepts at its root
pub plan_keeps : (release : Release) (rule : Rule) (plan : Plan) → Keeps release plan (rewritten rule plan)
plan_keeps release rule.Turn plan = turn release plan
plan_keeps release rule.Join plan = join release plan
plan_keeps release rule.Pair plan = pair release plan
plan_keeps release rule.Spread plan = spread release plan
plan_keeps release rule.Same plan = same release plan
plan_keeps release rule.Only plan = only release plan
plan_keeps release rule.MinusAnd plan = minus_and release plan
plan_keeps release rule.MinusOr plan = minus_or release plan
plan_keeps release rule.WalkOr plan = walk_or release plan
plan_keeps release rule.WalkTwice plan = walk_twice release plan
plan_keeps release rule.TypesOr plan = types_or release plan
plan_keeps release rule.TestOr plan = test_or release plan
plan_keeps release rule.RangeSplit plan = range_split release plan
plan_keeps release rule.RangeTurn plan = range_turn release plan
plan_keeps release rule.RangeAll plan = range_all release plan
plan_keeps release rule.BraceOr plan = brace_or release plan
plan_keeps release rule.BraceOne plan = brace_one release plan
plan_keeps release rule.BraceGuard plan = brace_guard release plan
