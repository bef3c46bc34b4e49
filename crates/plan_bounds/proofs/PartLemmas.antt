-- The physical plan of a node from the physical plans of its parts, and the number of the parts.
use Rattle.std.proofs.Common.{ℕ, Bool, Box, Vec, suc, ◌+◌, ◌∷◌, [], ◌≡◌, ◌∙◌, List, length, refl, sym, ap}
use Rattle.std.specs.declared.alloc.Global.{Global}
use Rattle.constraint_tree.specs.declared.operator.Cardinality.{Cardinality}
use Rattle.set_algebra.specs.declared.choice.Choice.{Choice}
use Rattle.set_algebra.specs.declared.plan.ConceptPlan.{ConceptPlan}
use Rattle.set_algebra.specs.declared.plan.ConceptPlan.TheVariants as concept_plan
use Rattle.set_algebra.specs.declared.plan.UnitPlan.{UnitPlan}
use Rattle.set_algebra.specs.declared.plan.UnitPlan.TheVariants as group_plan
use Rattle.set_algebra.specs.declared.plan.ValueTest.{ValueTest}
use Rattle.set_algebra.specs.Physical.{physical_and, physical_groups_and, physical_minus, physical_groups_minus}
use Rattle.set_algebra.specs.Physical.{physical_or, physical_groups_or, physical_pairs, physical_groups_pairs}
use Rattle.set_algebra.specs.Physical.{physical_of, physicals_of}
use Rattle.set_algebra.specs.Physical.{physical_test_of, physical_groups_of, physical_groups_list_of, physical_groups}
use Rattle.set_algebra.specs.Physical.{physical_values}
use Rattle.set_algebra.proofs.PhysicalLemmas.{physical_of-And, physical_of-Or, physical_of-Values}
use Rattle.set_algebra.proofs.PhysicalLemmas.{physical_groups_of-And}
use Rattle.set_algebra.proofs.PhysicalLemmas.{physical_groups_of-Or}
use Rattle.plan_bounds.specs.Leaves.{group_count, plan_count}

-- the physical plans of a list of plans of concepts are as many as the list has plans
pub plan_count-parts : (parts : List ConceptPlan) → plan_count (physicals_of parts) ≡ length parts
plan_count-parts [] = refl
plan_count-parts (part ∷ parts) = ap suc (plan_count-parts parts)

-- the physical plans of a list of plans of groups are as many as the list has plans
pub group_count-parts : (parts : List UnitPlan) → group_count (physical_groups_list_of parts) ≡ length parts
group_count-parts [] = refl
group_count-parts (part ∷ parts) = ap suc (group_count-parts parts)

-- ---- the physical plan of a node, by its borrowed parts
-- the physical plan of an `And` of concepts is `physical_and` of the physical plans of its parts
pub and_are : (parts : Vec ConceptPlan Global) {plan : ConceptPlan} {items : List ConceptPlan}
    → plan ≡ concept_plan.And parts → items ≡ parts.items
    → physical_of plan ≡ physical_and (physicals_of items)
and_are parts is items_are = ap physical_of is ∙ physical_of-And parts
    ∙ ap (λ (items : List ConceptPlan). physical_and (physicals_of items)) (sym items_are)

-- the physical plan of an `And` of groups is `physical_groups_and` of the physical plans of its parts
pub and_group_plan_is : (parts : Vec UnitPlan Global) {plan : UnitPlan} {items : List UnitPlan}
    → plan ≡ group_plan.And parts → items ≡ parts.items
    → physical_groups_of plan ≡ physical_groups_and (physical_groups_list_of items)
and_group_plan_is parts is items_are =
    ap physical_groups_of is ∙ physical_groups_of-And parts
    ∙ ap (λ (items : List UnitPlan). physical_groups_and (physical_groups_list_of items)) (sym items_are)

-- the physical plan of an `Or` of concepts is `physical_or` of the physical plans of its parts
pub or_are : (parts : Vec ConceptPlan Global) {plan : ConceptPlan} {items : List ConceptPlan}
    → plan ≡ concept_plan.Or parts → items ≡ parts.items
    → physical_of plan ≡ physical_or (physicals_of items)
or_are parts is items_are = ap physical_of is ∙ physical_of-Or parts
    ∙ ap (λ (items : List ConceptPlan). physical_or (physicals_of items)) (sym items_are)

-- the physical plan of an `Or` of groups is `physical_groups_or` of the physical plans of its parts
pub or_group_plan_is : (parts : Vec UnitPlan Global) {plan : UnitPlan} {items : List UnitPlan}
    → plan ≡ group_plan.Or parts → items ≡ parts.items
    → physical_groups_of plan ≡ physical_groups_or (physical_groups_list_of items)
or_group_plan_is parts is items_are =
    ap physical_groups_of is ∙ physical_groups_of-Or parts
    ∙ ap (λ (items : List UnitPlan). physical_groups_or (physical_groups_list_of items)) (sym items_are)

-- the physical plan of a `Minus` of concepts is `physical_minus` of the physical plans of its two parts
pub minus_are : (left right : Box ConceptPlan Global) {plan first second : ConceptPlan}
    → plan ≡ concept_plan.Minus left right → first ≡ left.value
    → second ≡ right.value → physical_of plan ≡ physical_minus (physical_of first) (physical_of second)
minus_are left right is first_is second_is = ap physical_of is
    ∙ (λ i. physical_minus (physical_of (sym first_is i)) (physical_of (sym second_is i)))

-- the physical plan of a `Minus` of groups is `physical_groups_minus` of the physical plans of its two parts
pub minus_group_plan_is : (left right : Box UnitPlan Global) {plan first second : UnitPlan}
    → plan ≡ group_plan.Minus left right → first ≡ left.value
    → second ≡ right.value → physical_groups_of plan
    ≡ physical_groups_minus (physical_groups_of first) (physical_groups_of second)
minus_group_plan_is left right is first_is second_is =
    ap physical_groups_of is
    ∙ (λ i. physical_groups_minus (physical_groups_of (sym first_is i)) (physical_groups_of (sym second_is i)))

-- the physical plan of `Pairs` of concepts is `physical_pairs` of its direction, count, types, test and choice
pub pairs_are : (boxed : Box ConceptPlan Global) {plan types : ConceptPlan} {back : Bool} {count : Cardinality}
    {test : ValueTest}
    {choice : Choice} → plan ≡ concept_plan.Pairs back count boxed test choice → types ≡ boxed.value
    → physical_of plan ≡ physical_pairs back count (physical_of types) (physical_test_of test) choice
pairs_are boxed {back = back} {count = count} {test = test} {choice = choice} is types_is =
    ap physical_of is
    ∙ ap (λ (types : ConceptPlan). physical_pairs back count (physical_of types) (physical_test_of test) choice)
    (sym types_is)

-- the physical plan of `Pairs` of groups is `physical_groups_pairs` of its count, types, test and choice
pub pairs_group_plan_is : (boxed : Box ConceptPlan Global) {plan : UnitPlan} {types : ConceptPlan} {count : Cardinality}
    {test : ValueTest}
    {choice : Choice} → plan ≡ group_plan.Pairs count boxed test choice → types ≡ boxed.value
    → physical_groups_of plan ≡ physical_groups_pairs count (physical_of types) (physical_test_of test) choice
pairs_group_plan_is boxed {count = count} {test = test} {choice = choice} is types_is =
    ap physical_groups_of is
    ∙ ap (λ (types : ConceptPlan). physical_groups_pairs count (physical_of types) (physical_test_of test) choice)
    (sym types_is)

-- the physical plan of `Units` is `physical_groups` of its count and its plan of groups
pub group_plan_is : (boxed : Box UnitPlan Global) {plan : ConceptPlan} {units : UnitPlan} {count : Cardinality}
    → plan ≡ concept_plan.Units count boxed
    → units ≡ boxed.value → physical_of plan ≡ physical_groups count (physical_groups_of units)
group_plan_is boxed {count = count} is groups_is = ap physical_of is
    ∙ ap (λ (units : UnitPlan). physical_groups count (physical_groups_of units)) (sym groups_is)

-- the physical plan of `Values` is `physical_values` of the physical plans of its start and its names
pub values_are : (start : Box ConceptPlan Global) (names : Vec ConceptPlan Global) {plan from : ConceptPlan}
    {along : List ConceptPlan}
    → plan ≡ concept_plan.Values start names → from ≡ start.value → along ≡ names.items
    → physical_of plan ≡ physical_values (physical_of from) (physicals_of along)
values_are start names is from_is along_is =
    ap physical_of is ∙ physical_of-Values start names
    ∙ (λ i. physical_values (physical_of (sym from_is i)) (physicals_of (sym along_is i)))
