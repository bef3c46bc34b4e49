-- The eighteen rules: the plan that a rule makes of a plan at its root. A comment shows the form
-- before and after a rule; x.. stands for any further children. The lines below the comment say
-- this of plans as data. A rule makes nothing of a plan if no line of the rule has its form, or if
-- the rule's condition does not hold.
use Rattle.std.specs.Prelude.{Bool, true, false, ◌&&◌, ◌||◌, if◌then◌else◌, nat_le, Option, Some, None, option_map}
use Rattle.constraint_tree.specs.declared.operator.Operator.{Operator}
use Rattle.constraint_tree.specs.declared.operator.Operator.TheVariants.{Descendants, DescendantsOrSelf, Ancestors}
use Rattle.constraint_tree.specs.declared.operator.Operator.TheVariants.{AncestorsOrSelf, Top, Bottom}
use Rattle.constraint_tree.specs.declared.operator.Cardinality.{Cardinality}
use Rattle.set_algebra.specs.Equal.{same_plan, same_group}
use Rattle.set_algebra.specs.Lowering.{both_plan}
use Rattle.set_algebra.specs.Plan.{Plan, empty_plan, all_plan, walk_plan, members_plan, and_plan, or_plan}
use Rattle.set_algebra.specs.Plan.{minus_plan, pairs_plan, groups_plan, no_plans, plan_then}
use Rattle.set_algebra.specs.Plan.{PlanOfGroups, nothing_group, every_group, and_group_plan, or_group_plan}
use Rattle.set_algebra.specs.Plan.{minus_group_plan, pairs_group_plan}
use Rattle.set_algebra.specs.Plan.{PlansOfGroups, no_group_plans, group_plan_then, within_plan}
use Rattle.rewrites.specs.declared.rule.Rule.{Rule}
use Rattle.rewrites.specs.declared.rule.Rule.TheVariants.{Turn, Join, Pair, Spread, Same, Only, MinusAnd, MinusOr}
use Rattle.rewrites.specs.declared.rule.Rule.TheVariants.{WalkOr, WalkTwice, TypesOr, TestOr, RangeSplit, RangeTurn}
use Rattle.rewrites.specs.declared.rule.Rule.TheVariants.{RangeAll, BraceOr, BraceOne, BraceGuard}
use Rattle.rewrites.specs.Counts.{only_if, at_least, asks_some, asks_none, split, complement, trivial_cardinality}
use Rattle.rewrites.specs.PlanLists.{plans_then, groups_then, plans_joined, groups_joined, plans_each, groups_each}
use Rattle.rewrites.specs.PlanLists.{groups_of_each, plans_of_each}

-- whether a hierarchy operator over an `Or` may be moved into the `Or`: each but `!!>` and `!!<`
abbrev pub goes_through : Operator → Bool
goes_through Top = false
goes_through Bottom = false
goes_through operator = true

-- the one hierarchy operator that finds the same as `outer` of `inner`, or `None`. There is one for
-- `<<` twice and for `<` and `<<` in either order, and likewise for `>>` and `>`
abbrev pub walk_of_walk : Operator → Operator → Option Operator
walk_of_walk DescendantsOrSelf DescendantsOrSelf = Some DescendantsOrSelf
walk_of_walk DescendantsOrSelf Descendants = Some Descendants
walk_of_walk Descendants DescendantsOrSelf = Some Descendants
walk_of_walk AncestorsOrSelf AncestorsOrSelf = Some AncestorsOrSelf
walk_of_walk AncestorsOrSelf Ancestors = Some Ancestors
walk_of_walk Ancestors AncestorsOrSelf = Some Ancestors
walk_of_walk outer inner = None

-- the conjunction of two plans of groups
abbrev pub both_groups : PlanOfGroups → PlanOfGroups → PlanOfGroups
both_groups one other = and_group_plan (group_plan_then one (group_plan_then other no_group_plans))

-- the plan that BraceOr makes of `Units` of an `Or`: for `[1..*]` the `Or` of `Units` of each part
-- with `[1..*]`, for `[0..0]` the `And` of `Units` of each part with `[0..0]`, and `None` for
-- another count
abbrev pub braces_of_each : Cardinality → PlansOfGroups → Option Plan
braces_of_each count units =
    if asks_some count then Some (or_plan (plans_of_each (groups_plan count) units))
    else only_if (asks_none count) (and_plan (plans_of_each (groups_plan count) units))

-- the plan that a rule makes of a plan of concepts at its root, or `None` if it makes none
abbrev pub rewritten : Rule → Plan → Option Plan
-- And(x1, x2, x..) to And(x2, x.., x1); Or alike
rewritten Turn (and_plan (plan_then first (plan_then second rest))) =
    Some (and_plan (plans_then (plan_then second rest) first))
rewritten Turn (or_plan (plan_then first (plan_then second rest))) =
    Some (or_plan (plans_then (plan_then second rest) first))
-- And(And(y..), x..) to And(y.., x..); Or alike
rewritten Join (and_plan (plan_then (and_plan parts) rest)) =
    Some (and_plan (plans_joined parts rest))
rewritten Join (or_plan (plan_then (or_plan parts) rest)) = Some (or_plan (plans_joined parts rest))
-- And(x1, x2, x3, x..) to And(And(x1, x2), x3, x..); Or alike
rewritten Pair (and_plan (plan_then first (plan_then second (plan_then third rest)))) =
    Some (and_plan (plan_then (and_plan (plan_then first (plan_then second no_plans)))
    (plan_then third rest)))
rewritten Pair (or_plan (plan_then first (plan_then second (plan_then third rest)))) =
    Some (or_plan (plan_then (or_plan (plan_then first (plan_then second no_plans)))
    (plan_then third rest)))
-- And(Or(y..), x..) to the Or of And(y, x..) for each y
rewritten Spread (and_plan (plan_then (or_plan parts) rest)) =
    Some (or_plan (plans_each (λ part. and_plan (plan_then part rest)) parts))
-- And(x, x, y..) to And(x, y..); Or alike; Minus(x, x) to Empty
rewritten Same (and_plan (plan_then first (plan_then second rest))) =
    only_if (same_plan first second) (and_plan (plan_then first rest))
rewritten Same (or_plan (plan_then first (plan_then second rest))) =
    only_if (same_plan first second) (or_plan (plan_then first rest))
rewritten Same (minus_plan first second) = only_if (same_plan first second) empty_plan
-- And(x) or Or(x) to x
rewritten Only (and_plan (plan_then only no_plans)) = Some only
rewritten Only (or_plan (plan_then only no_plans)) = Some only
-- And(Minus(a, b), x..) to Minus(And(a, x..), b)
rewritten MinusAnd (and_plan (plan_then (minus_plan first second) rest)) =
    Some (minus_plan (and_plan (plan_then first rest)) second)
-- Minus(a, Or(b, x..)) to Minus(Minus(a, b), Or(x..))
rewritten MinusOr (minus_plan first (or_plan (plan_then second rest))) =
    Some (minus_plan (minus_plan first second) (or_plan rest))
-- Walk(w, Or(y..)) or Members(Or(y..)) to the Or of Walk(w, y) or Members(y), for w other than
-- `!!>` and `!!<`
rewritten WalkOr (walk_plan operator (or_plan parts)) =
    only_if (goes_through operator) (or_plan (plans_each (walk_plan operator) parts))
rewritten WalkOr (members_plan (or_plan parts)) = Some (or_plan (plans_each members_plan parts))
-- Walk(w, Walk(v, a)) to one walk of a, with the operator that stands for both
rewritten WalkTwice (walk_plan outer (walk_plan inner operand)) =
    option_map (λ operator. walk_plan operator operand) (walk_of_walk outer inner)
-- Pairs [1..*] with types Or(t..) to the Or of Pairs [1..*] with each t
rewritten TypesOr (pairs_plan back count (or_plan types) test) =
    only_if (asks_some count) (or_plan (plans_each (λ type. pairs_plan back count type test) types))
-- Pairs [1..*] with test Within(Or(v..)) to the Or of Pairs [1..*] with each Within(v)
rewritten TestOr (pairs_plan back count types (within_plan (or_plan values))) =
    only_if (asks_some count)
    (or_plan (plans_each (λ value. pairs_plan back count types (within_plan value)) values))
-- Pairs or Units [m..k] to the And of them with [m..*] and [0..k], for m at least 1 and a k
rewritten RangeSplit (pairs_plan back count types test) =
    split (λ least most. both_plan (pairs_plan back least types test)
    (pairs_plan back most types test)) count
rewritten RangeSplit (groups_plan count units) =
    split (λ least most. both_plan (groups_plan least units) (groups_plan most units)) count
-- Pairs or Units [0..k] to Minus(All, them with [k+1..*]), for a k below 2 ^ 64 - 1
rewritten RangeTurn (pairs_plan back count types test) =
    complement (λ above. minus_plan all_plan (pairs_plan back above types test)) count
rewritten RangeTurn (groups_plan count units) =
    complement (λ above. minus_plan all_plan (groups_plan above units)) count
-- Pairs or Units [0..*] to All, and [m..k] with m above k to Empty
rewritten RangeAll (pairs_plan back count types test) =
    trivial_cardinality all_plan empty_plan count
rewritten RangeAll (groups_plan count units) = trivial_cardinality all_plan empty_plan count
-- Units [1..*] of Or(u..) to the Or of Units [1..*] u, and Units [0..0] of Or(u..) to the And of
-- Units [0..0] u
rewritten BraceOr (groups_plan count (or_group_plan units)) = braces_of_each count units
-- Units [1..*] or [0..0] of Pairs [1..*] to forward Pairs with the count of the Units
rewritten BraceOne (groups_plan count (pairs_group_plan some types test)) =
    only_if ((asks_some count || asks_none count) && asks_some some)
    (pairs_plan false count types test)
-- Units [m..k] of And(Pairs [j..i], u..) to And(forward Pairs [1..*], the Units), for m and j at
-- least 1
rewritten BraceGuard (groups_plan count (and_group_plan
    (group_plan_then (pairs_group_plan some types test) rest))) =
    only_if (nat_le 1 count.min && nat_le 1 some.min)
    (both_plan (pairs_plan false (at_least 1) types test)
    (groups_plan count (and_group_plan (group_plan_then (pairs_group_plan some types test) rest))))
-- any other plan of concepts: none
rewritten rule plan = None

-- the plan that a rule makes of a plan of groups at its root, or `None` if it makes none. WalkOr,
-- WalkTwice and the rules of braces make none
abbrev pub rewritten_group : Rule → PlanOfGroups → Option PlanOfGroups
-- And(x1, x2, x..) to And(x2, x.., x1); Or alike
rewritten_group Turn (and_group_plan (group_plan_then first (group_plan_then second rest))) =
    Some (and_group_plan (groups_then (group_plan_then second rest) first))
rewritten_group Turn (or_group_plan (group_plan_then first (group_plan_then second rest))) =
    Some (or_group_plan (groups_then (group_plan_then second rest) first))
-- And(And(y..), x..) to And(y.., x..); Or alike
rewritten_group Join (and_group_plan (group_plan_then (and_group_plan parts) rest)) =
    Some (and_group_plan (groups_joined parts rest))
rewritten_group Join (or_group_plan (group_plan_then (or_group_plan parts) rest)) =
    Some (or_group_plan (groups_joined parts rest))
-- And(x1, x2, x3, x..) to And(And(x1, x2), x3, x..); Or alike
rewritten_group Pair (and_group_plan (group_plan_then first
    (group_plan_then second (group_plan_then third rest)))) =
    Some (and_group_plan (group_plan_then
    (and_group_plan (group_plan_then first (group_plan_then second no_group_plans)))
    (group_plan_then third rest)))
rewritten_group Pair (or_group_plan (group_plan_then first
    (group_plan_then second (group_plan_then third rest)))) =
    Some (or_group_plan (group_plan_then
    (or_group_plan (group_plan_then first (group_plan_then second no_group_plans)))
    (group_plan_then third rest)))
-- And(Or(y..), x..) to the Or of And(y, x..) for each y
rewritten_group Spread (and_group_plan (group_plan_then (or_group_plan parts) rest)) =
    Some (or_group_plan (groups_each (λ part. and_group_plan (group_plan_then part rest)) parts))
-- And(x, x, y..) to And(x, y..); Or alike; Minus(x, x) to Nothing
rewritten_group Same (and_group_plan (group_plan_then first (group_plan_then second rest))) =
    only_if (same_group first second) (and_group_plan (group_plan_then first rest))
rewritten_group Same (or_group_plan (group_plan_then first (group_plan_then second rest))) =
    only_if (same_group first second) (or_group_plan (group_plan_then first rest))
rewritten_group Same (minus_group_plan first second) =
    only_if (same_group first second) nothing_group
-- And(x) or Or(x) to x
rewritten_group Only (and_group_plan (group_plan_then only no_group_plans)) = Some only
rewritten_group Only (or_group_plan (group_plan_then only no_group_plans)) = Some only
-- And(Minus(a, b), x..) to Minus(And(a, x..), b)
rewritten_group MinusAnd (and_group_plan (group_plan_then (minus_group_plan first second) rest)) =
    Some (minus_group_plan (and_group_plan (group_plan_then first rest)) second)
-- Minus(a, Or(b, x..)) to Minus(Minus(a, b), Or(x..))
rewritten_group MinusOr (minus_group_plan first (or_group_plan (group_plan_then second rest))) =
    Some (minus_group_plan (minus_group_plan first second) (or_group_plan rest))
-- Pairs [1..*] with types Or(t..) to the Or of Pairs [1..*] with each t
rewritten_group TypesOr (pairs_group_plan count (or_plan types) test) =
    only_if (asks_some count)
    (or_group_plan (groups_of_each (λ type. pairs_group_plan count type test) types))
-- Pairs [1..*] with test Within(Or(v..)) to the Or of Pairs [1..*] with each Within(v)
rewritten_group TestOr (pairs_group_plan count types (within_plan (or_plan values))) =
    only_if (asks_some count)
    (or_group_plan (groups_of_each (λ value. pairs_group_plan count types (within_plan value))
    values))
-- Pairs [m..k] to the And of them with [m..*] and [0..k], for m at least 1 and a k
rewritten_group RangeSplit (pairs_group_plan count types test) =
    split (λ least most. both_groups (pairs_group_plan least types test)
    (pairs_group_plan most types test)) count
-- Pairs [0..k] to Minus(Every, them with [k+1..*]), for a k below 2 ^ 64 - 1
rewritten_group RangeTurn (pairs_group_plan count types test) =
    complement (λ above. minus_group_plan every_group (pairs_group_plan above types test)) count
-- Pairs [0..*] to Every, and [m..k] with m above k to Nothing
rewritten_group RangeAll (pairs_group_plan count types test) =
    trivial_cardinality every_group nothing_group count
-- any other plan of groups: none
rewritten_group rule plan = None
