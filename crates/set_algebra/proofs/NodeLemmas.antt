-- A node put at a place stands there, and the other children stay as they were.
use Rattle.std.proofs.Common.{ℕ, zero, suc, ◌≡◌, Option, Some, None, List, [], ◌∷◌, refl, sym, ap, ◌∙◌}
use Rattle.std.specs.Prelude.{slice_get, slice_set}
use Rattle.set_algebra.specs.Places.{Node, concept_node, group_node, plan_nodes, group_nodes, test_nodes, plan_children}
use Rattle.set_algebra.specs.Places.{group_children, children, inside, node_at, plans_with, groups_with, test_with}
use Rattle.set_algebra.specs.Places.{plan_with, group_with, with_child, with_changed, put_at, AreOfOneSort}
use Rattle.set_algebra.specs.Places.{ReplacesOneChild, FindsWhatIsPut, PutsBack}
use Rattle.set_algebra.specs.Plan.{Plan, empty_plan, all_plan, one_plan, walk_plan, members_plan, and_plan, or_plan}
use Rattle.set_algebra.specs.Plan.{minus_plan, values_plan, pairs_plan, groups_plan, Plans, no_plans, plan_then}
use Rattle.set_algebra.specs.Plan.{PlanOfGroups, nothing_group, every_group, and_group_plan, or_group_plan}
use Rattle.set_algebra.specs.Plan.{minus_group_plan, pairs_group_plan, PlansOfGroups, no_group_plans, group_plan_then}
use Rattle.set_algebra.specs.Plan.{TestPlan, within_plan, outside_plan, number_plan}
use Rattle.set_algebra.proofs.PlaceLemmas.{no_group_among, no_group_in_test, no_plan_among}

-- `plans_with` sets the node at index `number` of a list of plans of concepts, and leaves the others
plans_replaced : (parts : Plans) (number : ℕ) (new : Plan)
    → plan_nodes (plans_with parts number new) ≡ slice_set (plan_nodes parts) number (concept_node new)
plans_replaced no_plans number new = refl
plans_replaced (plan_then first rest) zero new = refl
plans_replaced (plan_then first rest) (suc number) new =
    ap (λ (nodes : List Node). concept_node first ∷ nodes) (plans_replaced rest number new)

groups_replaced : (parts : PlansOfGroups) (number : ℕ) (new : PlanOfGroups)
    → group_nodes (groups_with parts number new) ≡ slice_set (group_nodes parts) number (group_node new)
groups_replaced no_group_plans number new = refl
groups_replaced (group_plan_then first rest) zero new = refl
groups_replaced (group_plan_then first rest) (suc number) new =
    ap (λ (nodes : List Node). group_node first ∷ nodes) (groups_replaced rest number new)

test_replaced : (test : TestPlan) (number : ℕ) (new : Plan)
    → test_nodes (test_with test number new) ≡ slice_set (test_nodes test) number (concept_node new)
test_replaced (within_plan operand) zero new = refl
test_replaced (within_plan operand) (suc number) new = refl
test_replaced (outside_plan operand) zero new = refl
test_replaced (outside_plan operand) (suc number) new = refl
test_replaced (number_plan compare value) number new = refl

plan_replaced : (plan : Plan) (number : ℕ) (old new : Plan)
    → slice_get (plan_children plan) number ≡ Some (concept_node old)
    → plan_children (plan_with plan number (concept_node new))
    ≡ slice_set (plan_children plan) number (concept_node new)
plan_replaced empty_plan number old new is = absurd (cc)
plan_replaced all_plan number old new is = absurd (cc)
plan_replaced (one_plan value) number old new is = absurd (cc)
plan_replaced (walk_plan operator operand) zero old new is = refl
plan_replaced (walk_plan operator operand) (suc number) old new is = absurd (cc)
plan_replaced (members_plan operand) zero old new is = refl
plan_replaced (members_plan operand) (suc number) old new is = absurd (cc)
plan_replaced (and_plan parts) number old new is = plans_replaced parts number new
plan_replaced (or_plan parts) number old new is = plans_replaced parts number new
plan_replaced (minus_plan first second) zero old new is = refl
plan_replaced (minus_plan first second) (suc zero) old new is = refl
plan_replaced (minus_plan first second) (suc (suc number)) old new is = absurd (cc)
plan_replaced (values_plan start names) zero old new is = refl
plan_replaced (values_plan start names) (suc number) old new is =
    ap (λ (nodes : List Node). concept_node start ∷ nodes) (plans_replaced names number new)
plan_replaced (pairs_plan back count types test) zero old new is = refl
plan_replaced (pairs_plan back count types test) (suc number) old new is =
    ap (λ (nodes : List Node). concept_node types ∷ nodes) (test_replaced test number new)
plan_replaced (groups_plan count units) zero old new is = absurd (cc)
plan_replaced (groups_plan count units) (suc number) old new is = absurd (cc)

braces_replaced : (plan : Plan) (number : ℕ) (old new : PlanOfGroups)
    → slice_get (plan_children plan) number ≡ Some (group_node old)
    → plan_children (plan_with plan number (group_node new)) ≡ slice_set (plan_children plan) number (group_node new)
braces_replaced empty_plan number old new is = absurd (cc)
braces_replaced all_plan number old new is = absurd (cc)
braces_replaced (one_plan value) number old new is = absurd (cc)
braces_replaced (walk_plan operator operand) zero old new is = absurd (cc)
braces_replaced (walk_plan operator operand) (suc number) old new is = absurd (cc)
braces_replaced (members_plan operand) zero old new is = absurd (cc)
braces_replaced (members_plan operand) (suc number) old new is = absurd (cc)
braces_replaced (and_plan parts) number old new is = absurd (no_group_among parts number old is)
braces_replaced (or_plan parts) number old new is = absurd (no_group_among parts number old is)
braces_replaced (minus_plan first second) zero old new is = absurd (cc)
braces_replaced (minus_plan first second) (suc zero) old new is = absurd (cc)
braces_replaced (minus_plan first second) (suc (suc number)) old new is = absurd (cc)
braces_replaced (values_plan start names) zero old new is = absurd (cc)
braces_replaced (values_plan start names) (suc number) old new is = absurd (no_group_among names number old is)
braces_replaced (pairs_plan back count types test) zero old new is = absurd (cc)
braces_replaced (pairs_plan back count types test) (suc number) old new is =
    absurd (no_group_in_test test number old is)
braces_replaced (groups_plan count units) zero old new is = refl
braces_replaced (groups_plan count units) (suc number) old new is = absurd (cc)

group_plan_replaced : (plan : PlanOfGroups) (number : ℕ) (old new : Plan)
    → slice_get (group_children plan) number ≡ Some (concept_node old)
    → group_children (group_with plan number (concept_node new))
    ≡ slice_set (group_children plan) number (concept_node new)
group_plan_replaced nothing_group number old new is = absurd (cc)
group_plan_replaced every_group number old new is = absurd (cc)
group_plan_replaced (and_group_plan parts) number old new is = absurd (no_plan_among parts number old is)
group_plan_replaced (or_group_plan parts) number old new is = absurd (no_plan_among parts number old is)
group_plan_replaced (minus_group_plan first second) zero old new is = absurd (cc)
group_plan_replaced (minus_group_plan first second) (suc zero) old new is = absurd (cc)
group_plan_replaced (minus_group_plan first second) (suc (suc number)) old new is = absurd (cc)
group_plan_replaced (pairs_group_plan count types test) zero old new is = refl
group_plan_replaced (pairs_group_plan count types test) (suc number) old new is =
    ap (λ (nodes : List Node). concept_node types ∷ nodes) (test_replaced test number new)

group_replaced : (plan : PlanOfGroups) (number : ℕ) (old new : PlanOfGroups)
    → slice_get (group_children plan) number ≡ Some (group_node old)
    → group_children (group_with plan number (group_node new)) ≡ slice_set (group_children plan) number (group_node new)
group_replaced nothing_group number old new is = absurd (cc)
group_replaced every_group number old new is = absurd (cc)
group_replaced (and_group_plan parts) number old new is = groups_replaced parts number new
group_replaced (or_group_plan parts) number old new is = groups_replaced parts number new
group_replaced (minus_group_plan first second) zero old new is = refl
group_replaced (minus_group_plan first second) (suc zero) old new is = refl
group_replaced (minus_group_plan first second) (suc (suc number)) old new is = absurd (cc)
group_replaced (pairs_group_plan count types test) zero old new is = absurd (cc)
group_replaced (pairs_group_plan count types test) (suc number) old new is =
    absurd (no_group_in_test test number old is)

-- `with_child` replaces child `number` by a node of its sort, and leaves the other children as they were
pub replaces_one_child : ReplacesOneChild
replaces_one_child (concept_node plan) number (concept_node old) (concept_node new) is sort =
    plan_replaced plan number old new is
replaces_one_child (concept_node plan) number (group_node old) (group_node new) is sort =
    braces_replaced plan number old new is
replaces_one_child (group_node plan) number (concept_node old) (concept_node new) is sort =
    group_plan_replaced plan number old new is
replaces_one_child (group_node plan) number (group_node old) (group_node new) is sort =
    group_replaced plan number old new is
replaces_one_child (concept_node plan) number (concept_node old) (group_node new) is sort = absurd sort
replaces_one_child (concept_node plan) number (group_node old) (concept_node new) is sort = absurd sort
replaces_one_child (group_node plan) number (concept_node old) (group_node new) is sort = absurd sort
replaces_one_child (group_node plan) number (group_node old) (concept_node new) is sort = absurd sort

-- the index that `slice_set` sets holds the new node
found_where_set : (nodes : List Node) (number : ℕ) (old new : Node) → slice_get nodes number ≡ Some old
    → slice_get (slice_set nodes number new) number ≡ Some new
found_where_set [] number old new is = absurd (cc)
found_where_set (first ∷ rest) zero old new is = refl
found_where_set (first ∷ rest) (suc number) old new is = found_where_set rest number old new is

-- a node stays of its sort if `new`, of the sort of the old node, is put at one of its places
same_sort_put : (place : List ℕ) (whole old new : Node) → node_at place whole ≡ Some old → AreOfOneSort old new
    → AreOfOneSort whole (put_at place new whole)
same_sort_put [] (concept_node plan) (concept_node old) (concept_node new) is sort = tt
same_sort_put [] (group_node plan) (group_node old) (group_node new) is sort = tt
same_sort_put [] (concept_node plan) (group_node old) new is sort = absurd (cc)
same_sort_put [] (group_node plan) (concept_node old) new is sort = absurd (cc)
same_sort_put [] (concept_node plan) (concept_node old) (group_node new) is sort = absurd sort
same_sort_put [] (group_node plan) (group_node old) (concept_node new) is sort = absurd sort
same_sort_put (number ∷ place) whole old new is sort =
    same_sort_changed whole number (put_at place new) (slice_get (children whole) number)
  where
    same_sort_changed : (whole : Node) (number : ℕ) (change : Node → Node) (found : Option Node)
        → AreOfOneSort whole (with_changed whole number change found)
    same_sort_changed (concept_node plan) number change None = tt
    same_sort_changed (group_node plan) number change None = tt
    same_sort_changed (concept_node plan) number change (Some child) = tt
    same_sort_changed (group_node plan) number change (Some child) = tt

found_in : (whole : Node) (number : ℕ) (old new : Node) (find : Node → Option Node) (change : Node → Node)
    (found : Option Node) → slice_get (children whole) number ≡ found
    → ((child : Node) → find child ≡ Some old → (find (change child) ≡ Some new) × AreOfOneSort child (change child))
    → inside find found ≡ Some old → inside find (slice_get (children (with_changed whole number change found)) number)
    ≡ Some new
found_in whole number old new find change None is each there = absurd (cc)
found_in whole number old new find change (Some child) is each there =
    let in_child = each child there in
    ap (λ (nodes : List Node). inside find (slice_get nodes number))
    (replaces_one_child whole number child (change child) is in_child.1)
    ∙ ap (inside find) (found_where_set (children whole) number child (change child) is)
    ∙ in_child.0

-- after `put_at` has put a node of the sort of the old one at a place, `node_at` finds it there
pub finds_what_is_put : FindsWhatIsPut
finds_what_is_put [] whole old new is sort = refl
finds_what_is_put (number ∷ place) whole old new is sort =
    found_in whole number old new (node_at place) (put_at place new) (slice_get (children whole) number) refl
    (λ child at_child. (
      finds_what_is_put place child old new at_child sort,
      same_sort_put place child old new at_child
          sort,
    ))
    is

-- a list of plans of concepts does not change if the plan at index `number` is put there again
plans_back : (parts : Plans) (number : ℕ) (old : Plan) → slice_get (plan_nodes parts) number ≡ Some (concept_node old)
    → plans_with parts number old ≡ parts
plans_back no_plans number old is = refl
plans_back (plan_then first rest) zero old is = let here : first ≡ old =
    cc in ap (λ (plan : Plan). plan_then plan rest) (sym here)
plans_back (plan_then first rest) (suc number) old is = ap (plan_then first) (plans_back rest number old is)

groups_back : (parts : PlansOfGroups) (number : ℕ) (old : PlanOfGroups)
    → slice_get (group_nodes parts) number ≡ Some (group_node old) → groups_with parts number old ≡ parts
groups_back no_group_plans number old is = refl
groups_back (group_plan_then first rest) zero old is = let here : first ≡ old =
    cc in ap (λ (plan : PlanOfGroups). group_plan_then plan rest) (sym here)
groups_back (group_plan_then first rest) (suc number) old is =
    ap (group_plan_then first) (groups_back rest number old is)

test_back : (test : TestPlan) (number : ℕ) (old : Plan) → slice_get (test_nodes test) number ≡ Some (concept_node old)
    → test_with test number old ≡ test
test_back (within_plan operand) zero old is = cc
test_back (within_plan operand) (suc number) old is = absurd (cc)
test_back (outside_plan operand) zero old is = cc
test_back (outside_plan operand) (suc number) old is = absurd (cc)
test_back (number_plan compare value) number old is = absurd (cc)

plan_back : (plan : Plan) (number : ℕ) (old : Node) → slice_get (plan_children plan) number ≡ Some old
    → plan_with plan number old ≡ plan
plan_back empty_plan number old is = absurd (cc)
plan_back all_plan number old is = absurd (cc)
plan_back (one_plan value) number old is = absurd (cc)
plan_back (walk_plan operator operand) zero (concept_node old) is = cc
plan_back (walk_plan operator operand) zero (group_node old) is = absurd (cc)
plan_back (walk_plan operator operand) (suc number) old is = absurd (cc)
plan_back (members_plan operand) zero (concept_node old) is = cc
plan_back (members_plan operand) zero (group_node old) is = absurd (cc)
plan_back (members_plan operand) (suc number) old is = absurd (cc)
plan_back (and_plan parts) number (concept_node old) is = ap and_plan (plans_back parts number old is)
plan_back (and_plan parts) number (group_node old) is = absurd (no_group_among parts number old is)
plan_back (or_plan parts) number (concept_node old) is = ap or_plan (plans_back parts number old is)
plan_back (or_plan parts) number (group_node old) is = absurd (no_group_among parts number old is)
plan_back (minus_plan first second) zero (concept_node old) is = cc
plan_back (minus_plan first second) zero (group_node old) is = absurd (cc)
plan_back (minus_plan first second) (suc zero) (concept_node old) is = cc
plan_back (minus_plan first second) (suc zero) (group_node old) is = absurd (cc)
plan_back (minus_plan first second) (suc (suc number)) old is = absurd (cc)
plan_back (values_plan start names) zero (concept_node old) is = cc
plan_back (values_plan start names) zero (group_node old) is = absurd (cc)
plan_back (values_plan start names) (suc number) (concept_node old) is =
    ap (values_plan start) (plans_back names number old is)
plan_back (values_plan start names) (suc number) (group_node old) is = absurd (no_group_among names number old is)
plan_back (pairs_plan back count types test) zero (concept_node old) is = cc
plan_back (pairs_plan back count types test) zero (group_node old) is = absurd (cc)
plan_back (pairs_plan back count types test) (suc number) (concept_node old) is =
    ap (pairs_plan back count types) (test_back test number old is)
plan_back (pairs_plan back count types test) (suc number) (group_node old) is =
    absurd (no_group_in_test test number old is)
plan_back (groups_plan count units) zero (concept_node old) is = absurd (cc)
plan_back (groups_plan count units) zero (group_node old) is = cc
plan_back (groups_plan count units) (suc number) old is = absurd (cc)

group_back : (plan : PlanOfGroups) (number : ℕ) (old : Node) → slice_get (group_children plan) number ≡ Some old
    → group_with plan number old ≡ plan
group_back nothing_group number old is = absurd (cc)
group_back every_group number old is = absurd (cc)
group_back (and_group_plan parts) number (group_node old) is = ap and_group_plan (groups_back parts number old is)
group_back (and_group_plan parts) number (concept_node old) is = absurd (no_plan_among parts number old is)
group_back (or_group_plan parts) number (group_node old) is = ap or_group_plan (groups_back parts number old is)
group_back (or_group_plan parts) number (concept_node old) is = absurd (no_plan_among parts number old is)
group_back (minus_group_plan first second) zero (group_node old) is = cc
group_back (minus_group_plan first second) zero (concept_node old) is = absurd (cc)
group_back (minus_group_plan first second) (suc zero) (group_node old) is = cc
group_back (minus_group_plan first second) (suc zero) (concept_node old) is = absurd (cc)
group_back (minus_group_plan first second) (suc (suc number)) old is = absurd (cc)
group_back (pairs_group_plan count types test) zero (concept_node old) is = cc
group_back (pairs_group_plan count types test) zero (group_node old) is = absurd (cc)
group_back (pairs_group_plan count types test) (suc number) (concept_node old) is =
    ap (pairs_group_plan count types) (test_back test number old is)
group_back (pairs_group_plan count types test) (suc number) (group_node old) is =
    absurd (no_group_in_test test number old is)

child_back : (whole : Node) (number : ℕ) (old : Node) → slice_get (children whole) number ≡ Some old
    → with_child whole number old ≡ whole
child_back (concept_node plan) number old is = ap concept_node (plan_back plan number old is)
child_back (group_node plan) number old is = ap group_node (group_back plan number old is)

back_in : (whole : Node) (number : ℕ) (old : Node) (find : Node → Option Node) (change : Node → Node)
    (found : Option Node) → slice_get (children whole) number ≡ found
    → ((child : Node) → find child ≡ Some old → change child ≡ child) → inside find found ≡ Some old
    → with_changed whole number change found ≡ whole
back_in whole number old find change None is each there = refl
back_in whole number old find change (Some child) is each there =
    ap (with_child whole number) (each child there) ∙ child_back whole number child is

-- to put the node that stands at a place there again changes nothing
pub puts_back : PutsBack
puts_back [] whole old is = let here : whole ≡ old = cc in sym here
puts_back (number ∷ place) whole old is =
    back_in whole number old (node_at place) (put_at place old) (slice_get (children whole) number) refl
    (λ child at_child. puts_back place child old at_child) is
