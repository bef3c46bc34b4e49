-- A plan keeps its meaning if a node in it is replaced by one that means the same. The proof goes from the node up to
-- the root, one child at a time.
use Rattle.std.proofs.Common.{ℕ, zero, suc, ◌≡◌, ◌&&◌, ◌||◌, not, Bool, Option, Some, None, List, [], ◌∷◌, refl, sym}
use Rattle.std.proofs.Common.{ap, subst, ◌∙◌}
use Rattle.std.specs.Prelude.{slice_get}
use Rattle.std.proofs.Math.Path.{fun_ext}
use Rattle.release_model.specs.Release.{Release, Value}
use Rattle.release_model.specs.Pairs.{Pair}
use Rattle.constraint_tree.specs.Passing.{is_within, is_outside}
use Rattle.constraint_tree.specs.Walks.{has_concept, walks}
use Rattle.constraint_tree.specs.Denotation.{is_value, is_component}
use Rattle.set_algebra.specs.Meaning.{means, all_mean, some_means, leads, group_means, all_groups_mean}
use Rattle.set_algebra.specs.Meaning.{some_group_means, value_passes, has_pairs, has_groups, pairs_of}
use Rattle.set_algebra.specs.Places.{Node, concept_node, group_node, plan_nodes, group_nodes, test_nodes, plan_children}
use Rattle.set_algebra.specs.Places.{group_children, children, inside, node_at, plans_with, groups_with, test_with}
use Rattle.set_algebra.specs.Places.{plan_with, group_with, with_child, with_changed, put_at, MeanTheSame}
use Rattle.set_algebra.specs.Places.{KeepsMeaningAtPlaces}
use Rattle.set_algebra.specs.Plan.{Plan, empty_plan, all_plan, one_plan, walk_plan, members_plan, and_plan, or_plan}
use Rattle.set_algebra.specs.Plan.{minus_plan, values_plan, pairs_plan, groups_plan, Plans, no_plans, plan_then}
use Rattle.set_algebra.specs.Plan.{PlanOfGroups, nothing_group, every_group, and_group_plan, or_group_plan}
use Rattle.set_algebra.specs.Plan.{minus_group_plan, pairs_group_plan, PlansOfGroups, no_group_plans, group_plan_then}
use Rattle.set_algebra.specs.Plan.{TestPlan, within_plan, outside_plan, number_plan}

-- the plan of concepts found as `child` means the same as `new` if `child` does
found_plan : (release : Release) (here child new : Plan) → Some (concept_node here) ≡ Some (concept_node child)
    → means release child ≡ means release new → means release here ≡ means release new
found_plan release here child new is same = let same_child : here ≡ child = cc in ap (means release) same_child ∙ same

found_group : (release : Release) (here child new : PlanOfGroups) → Some (group_node here) ≡ Some (group_node child)
    → group_means release child ≡ group_means release new → group_means release here ≡ group_means release new
found_group release here child new is same = let same_child : here ≡ child = cc in ap (group_means release) same_child
    ∙ same

-- a conjunction of concepts keeps its meaning if one part is replaced by one that means the same
all_keep : (release : Release) (parts : Plans) (number : ℕ) (child new : Plan)
    → slice_get (plan_nodes parts) number ≡ Some (concept_node child) → means release child ≡ means release new
    → all_mean release parts ≡ all_mean release (plans_with parts number new)
all_keep release no_plans number child new is same = absurd (cc)
all_keep release (plan_then first rest) zero child new is same =
    ap {B = ℕ → Bool} (λ (set : ℕ → Bool) (concept : ℕ). set concept && all_mean release rest concept)
    (found_plan release first child new is same)
all_keep release (plan_then first rest) (suc number) child new is same =
    ap {B = ℕ → Bool} (λ (set : ℕ → Bool) (concept : ℕ). means release first concept && set concept)
    (all_keep release rest number child new is same)

some_keep : (release : Release) (parts : Plans) (number : ℕ) (child new : Plan)
    → slice_get (plan_nodes parts) number ≡ Some (concept_node child) → means release child ≡ means release new
    → some_means release parts ≡ some_means release (plans_with parts number new)
some_keep release no_plans number child new is same = absurd (cc)
some_keep release (plan_then first rest) zero child new is same =
    ap {B = ℕ → Bool} (λ (set : ℕ → Bool) (concept : ℕ). set concept || some_means release rest concept)
    (found_plan release first child new is same)
some_keep release (plan_then first rest) (suc number) child new is same =
    ap {B = ℕ → Bool} (λ (set : ℕ → Bool) (concept : ℕ). means release first concept || set concept)
    (some_keep release rest number child new is same)

along_keep : (release : Release) (names : Plans) (number : ℕ) (child new : Plan) (set : ℕ → Bool)
    → slice_get (plan_nodes names) number ≡ Some (concept_node child) → means release child ≡ means release new
    → leads release set names ≡ leads release set (plans_with names number new)
along_keep release no_plans number child new set is same = absurd (cc)
along_keep release (plan_then first rest) zero child new set is same =
    ap (λ (types : ℕ → Bool). leads release (is_value release set types) rest)
    (found_plan release first child new is same)
along_keep release (plan_then first rest) (suc number) child new set is same =
    along_keep release rest number child new (is_value release set (means release first)) is same

all_groups_keep : (release : Release) (parts : PlansOfGroups) (number : ℕ) (child new : PlanOfGroups)
    → slice_get (group_nodes parts) number ≡ Some (group_node child)
    → group_means release child ≡ group_means release new
    → all_groups_mean release parts ≡ all_groups_mean release (groups_with parts number new)
all_groups_keep release no_group_plans number child new is same = absurd (cc)
all_groups_keep release (group_plan_then first rest) zero child new is same =
    ap {B = List Pair → Bool} (λ (set : List Pair → Bool) (pairs : List Pair). set pairs
    && all_groups_mean release rest pairs) (found_group release first child new is same)
all_groups_keep release (group_plan_then first rest) (suc number) child new is same =
    ap {B = List Pair → Bool} (λ (set : List Pair → Bool) (pairs : List Pair). group_means release first pairs
    && set pairs) (all_groups_keep release rest number child new is same)

some_groups_keep : (release : Release) (parts : PlansOfGroups) (number : ℕ) (child new : PlanOfGroups)
    → slice_get (group_nodes parts) number ≡ Some (group_node child)
    → group_means release child ≡ group_means release new
    → some_group_means release parts ≡ some_group_means release (groups_with parts number new)
some_groups_keep release no_group_plans number child new is same = absurd (cc)
some_groups_keep release (group_plan_then first rest) zero child new is same =
    ap {B = List Pair → Bool} (λ (set : List Pair → Bool) (pairs : List Pair). set pairs
    || some_group_means release rest pairs) (found_group release first child new is same)
some_groups_keep release (group_plan_then first rest) (suc number) child new is same =
    ap {B = List Pair → Bool} (λ (set : List Pair → Bool) (pairs : List Pair). group_means release first pairs
    || set pairs) (some_groups_keep release rest number child new is same)

-- a test lets the same values pass after its plan is replaced by one that means the same
test_keeps : (release : Release) (test : TestPlan) (number : ℕ) (child new : Plan)
    → slice_get (test_nodes test) number ≡ Some (concept_node child) → means release child ≡ means release new
    → value_passes release test ≡ value_passes release (test_with test number new)
test_keeps release (within_plan operand) zero child new is same =
    ap is_within (found_plan release operand child new is same)
test_keeps release (within_plan operand) (suc number) child new is same = absurd (cc)
test_keeps release (outside_plan operand) zero child new is same =
    ap is_outside (found_plan release operand child new is same)
test_keeps release (outside_plan operand) (suc number) child new is same = absurd (cc)
test_keeps release (number_plan compare value) number child new is same = absurd (cc)

-- a plan of concepts keeps its meaning if a child that is a plan of concepts is replaced by one that means the same
plan_keeps : (release : Release) (plan : Plan) (number : ℕ) (child new : Plan)
    → slice_get (plan_children plan) number ≡ Some (concept_node child) → means release child ≡ means release new
    → means release plan ≡ means release (plan_with plan number (concept_node new))
plan_keeps release empty_plan number child new is same = absurd (cc)
plan_keeps release all_plan number child new is same = absurd (cc)
plan_keeps release (one_plan value) number child new is same = absurd (cc)
plan_keeps release (walk_plan operator operand) zero child new is same =
    ap {B = ℕ → Bool} (λ (set : ℕ → Bool) (concept : ℕ). has_concept release concept
    && walks release operator set concept) (found_plan release operand child new is same)
plan_keeps release (walk_plan operator operand) (suc number) child new is same = absurd (cc)
plan_keeps release (members_plan operand) zero child new is same =
    ap (is_component release) (found_plan release operand child new is same)
plan_keeps release (members_plan operand) (suc number) child new is same = absurd (cc)
plan_keeps release (and_plan parts) number child new is same =
    ap {B = ℕ → Bool} (λ (set : ℕ → Bool) (concept : ℕ). has_concept release concept && set concept)
    (all_keep release parts number child new is same)
plan_keeps release (or_plan parts) number child new is same = some_keep release parts number child new is same
plan_keeps release (minus_plan first second) zero child new is same =
    ap {B = ℕ → Bool} (λ (set : ℕ → Bool) (concept : ℕ). set concept && not (means release second concept))
    (found_plan release first child new is same)
plan_keeps release (minus_plan first second) (suc zero) child new is same =
    ap {B = ℕ → Bool} (λ (set : ℕ → Bool) (concept : ℕ). means release first concept && not (set concept))
    (found_plan release second child new is same)
plan_keeps release (minus_plan first second) (suc (suc number)) child new is same = absurd (cc)
plan_keeps release (values_plan start names) zero child new is same =
    ap (λ (set : ℕ → Bool). leads release set names) (found_plan release start child new is same)
plan_keeps release (values_plan start names) (suc number) child new is same =
    along_keep release names number child new (means release start) is same
plan_keeps release (pairs_plan back count types test) zero child new is same =
    ap {B = ℕ → Bool} (λ (set : ℕ → Bool) (concept : ℕ). has_concept release concept
    && has_pairs count set (value_passes release test) (pairs_of release back concept))
    (found_plan release types child new is same)
plan_keeps release (pairs_plan back count types test) (suc number) child new is same =
    ap {B = ℕ → Bool} (λ (values : Value → Bool) (concept : ℕ). has_concept release concept
    && has_pairs count (means release types) values (pairs_of release back concept))
    (test_keeps release test number child new is same)
plan_keeps release (groups_plan count units) zero child new is same = absurd (cc)
plan_keeps release (groups_plan count units) (suc number) child new is same = absurd (cc)

-- no child in a list of plans of concepts is a plan of groups
pub no_group_among : (parts : Plans) (number : ℕ) (child : PlanOfGroups)
    → slice_get (plan_nodes parts) number ≡ Some (group_node child) → ⊥
no_group_among no_plans number child is = absurd (cc)
no_group_among (plan_then first rest) zero child is = absurd (cc)
no_group_among (plan_then first rest) (suc number) child is = no_group_among rest number child is

-- the child of a test is no plan of groups
pub no_group_in_test : (test : TestPlan) (number : ℕ) (child : PlanOfGroups)
    → slice_get (test_nodes test) number ≡ Some (group_node child) → ⊥
no_group_in_test (within_plan operand) zero child is = absurd (cc)
no_group_in_test (within_plan operand) (suc number) child is = absurd (cc)
no_group_in_test (outside_plan operand) zero child is = absurd (cc)
no_group_in_test (outside_plan operand) (suc number) child is = absurd (cc)
no_group_in_test (number_plan compare value) number child is = absurd (cc)

-- a plan of concepts keeps its meaning if the plan of groups in its braces is replaced by one that means the same
braces_keep : (release : Release) (plan : Plan) (number : ℕ) (child new : PlanOfGroups)
    → slice_get (plan_children plan) number ≡ Some (group_node child)
    → group_means release child ≡ group_means release new
    → means release plan ≡ means release (plan_with plan number (group_node new))
braces_keep release empty_plan number child new is same = absurd (cc)
braces_keep release all_plan number child new is same = absurd (cc)
braces_keep release (one_plan value) number child new is same = absurd (cc)
braces_keep release (walk_plan operator operand) zero child new is same = absurd (cc)
braces_keep release (walk_plan operator operand) (suc number) child new is same = absurd (cc)
braces_keep release (members_plan operand) zero child new is same = absurd (cc)
braces_keep release (members_plan operand) (suc number) child new is same = absurd (cc)
braces_keep release (and_plan parts) number child new is same = absurd (no_group_among parts number child is)
braces_keep release (or_plan parts) number child new is same = absurd (no_group_among parts number child is)
braces_keep release (minus_plan first second) zero child new is same = absurd (cc)
braces_keep release (minus_plan first second) (suc zero) child new is same = absurd (cc)
braces_keep release (minus_plan first second) (suc (suc number)) child new is same = absurd (cc)
braces_keep release (values_plan start names) zero child new is same = absurd (cc)
braces_keep release (values_plan start names) (suc number) child new is same =
    absurd (no_group_among names number child is)
braces_keep release (pairs_plan back count types test) zero child new is same = absurd (cc)
braces_keep release (pairs_plan back count types test) (suc number) child new is same =
    absurd (no_group_in_test test number child is)
braces_keep release (groups_plan count units) zero child new is same =
    ap {B = ℕ → Bool} (λ (set : List Pair → Bool) (concept : ℕ). has_concept release concept
    && has_groups release count set concept) (found_group release units child new is same)
braces_keep release (groups_plan count units) (suc number) child new is same = absurd (cc)

-- no child in a list of plans of groups is a plan of concepts
pub no_plan_among : (parts : PlansOfGroups) (number : ℕ) (child : Plan)
    → slice_get (group_nodes parts) number ≡ Some (concept_node child) → ⊥
no_plan_among no_group_plans number child is = absurd (cc)
no_plan_among (group_plan_then first rest) zero child is = absurd (cc)
no_plan_among (group_plan_then first rest) (suc number) child is = no_plan_among rest number child is

-- a plan of groups keeps its meaning if the types or the values of its pairs are replaced by a plan of concepts that
-- means the same
group_keeps_plan : (release : Release) (plan : PlanOfGroups) (number : ℕ) (child new : Plan)
    → slice_get (group_children plan) number ≡ Some (concept_node child) → means release child ≡ means release new
    → group_means release plan ≡ group_means release (group_with plan number (concept_node new))
group_keeps_plan release nothing_group number child new is same = absurd (cc)
group_keeps_plan release every_group number child new is same = absurd (cc)
group_keeps_plan release (and_group_plan parts) number child new is same = absurd (no_plan_among parts number child is)
group_keeps_plan release (or_group_plan parts) number child new is same = absurd (no_plan_among parts number child is)
group_keeps_plan release (minus_group_plan first second) zero child new is same = absurd (cc)
group_keeps_plan release (minus_group_plan first second) (suc zero) child new is same = absurd (cc)
group_keeps_plan release (minus_group_plan first second) (suc (suc number)) child new is same = absurd (cc)
group_keeps_plan release (pairs_group_plan count types test) zero child new is same =
    ap (λ (set : ℕ → Bool). has_pairs count set (value_passes release test))
    (found_plan release types child new is same)
group_keeps_plan release (pairs_group_plan count types test) (suc number) child new is same =
    ap (λ (values : Value → Bool). has_pairs count (means release types) values)
    (test_keeps release test number child new is same)

-- a plan of groups keeps its meaning if a child that is a plan of groups is replaced by one that means the same
group_keeps : (release : Release) (plan : PlanOfGroups) (number : ℕ) (child new : PlanOfGroups)
    → slice_get (group_children plan) number ≡ Some (group_node child)
    → group_means release child ≡ group_means release new
    → group_means release plan ≡ group_means release (group_with plan number (group_node new))
group_keeps release nothing_group number child new is same = absurd (cc)
group_keeps release every_group number child new is same = absurd (cc)
group_keeps release (and_group_plan parts) number child new is same =
    all_groups_keep release parts number child new is same
group_keeps release (or_group_plan parts) number child new is same =
    some_groups_keep release parts number child new is same
group_keeps release (minus_group_plan first second) zero child new is same =
    ap {B = List Pair → Bool} (λ (set : List Pair → Bool) (pairs : List Pair). set pairs
    && not (group_means release second pairs)) (found_group release first child new is same)
group_keeps release (minus_group_plan first second) (suc zero) child new is same =
    ap {B = List Pair → Bool} (λ (set : List Pair → Bool) (pairs : List Pair). group_means release first pairs
    && not (set pairs)) (found_group release second child new is same)
group_keeps release (minus_group_plan first second) (suc (suc number)) child new is same = absurd (cc)
group_keeps release (pairs_group_plan count types test) zero child new is same = absurd (cc)
group_keeps release (pairs_group_plan count types test) (suc number) child new is same =
    absurd (no_group_in_test test number child is)

-- a node of either sort keeps its meaning if a child is replaced by one that means the same
child_keeps : (release : Release) (whole : Node) (number : ℕ) (child new : Node)
    → slice_get (children whole) number ≡ Some child → MeanTheSame release child new
    → MeanTheSame release whole (with_child whole number new)
child_keeps release (concept_node plan) number (concept_node child) (concept_node new) is same =
    λ concept. ap (λ (set : ℕ → Bool). set concept) (plan_keeps release plan number child new is (fun_ext same))
child_keeps release (concept_node plan) number (group_node child) (group_node new) is same =
    λ concept. ap (λ (set : ℕ → Bool). set concept) (braces_keep release plan number child new is (fun_ext same))
child_keeps release (group_node plan) number (concept_node child) (concept_node new) is same =
    λ pairs. ap (λ (set : List Pair → Bool). set pairs)
    (group_keeps_plan release plan number child new is (fun_ext same))
child_keeps release (group_node plan) number (group_node child) (group_node new) is same =
    λ pairs. ap (λ (set : List Pair → Bool). set pairs) (group_keeps release plan number child new is (fun_ext same))
child_keeps release (concept_node plan) number (concept_node child) (group_node new) is same = absurd same
child_keeps release (concept_node plan) number (group_node child) (concept_node new) is same = absurd same
child_keeps release (group_node plan) number (concept_node child) (group_node new) is same = absurd same
child_keeps release (group_node plan) number (group_node child) (concept_node new) is same = absurd same

-- a node keeps its meaning under a change of child `number` if the child, in which `find` finds `old`, keeps its own
changed_keeps : (release : Release) (whole : Node) (number : ℕ) (old : Node) (find : Node → Option Node)
    (change : Node → Node) (found : Option Node) → slice_get (children whole) number ≡ found
    → ((child : Node) → find child ≡ Some old → MeanTheSame release child (change child))
    → inside find found ≡ Some old → MeanTheSame release whole (with_changed whole number change found)
changed_keeps release whole number old find change None is keeps there = absurd (cc)
changed_keeps release whole number old find change (Some child) is keeps there =
    child_keeps release whole number child (change child) is (keeps child there)

-- a node keeps its meaning over a release if the node at one of its places is replaced by a node that means the same
-- over that release
pub keeps_meaning_at_places : KeepsMeaningAtPlaces
keeps_meaning_at_places release [] whole old new there same =
    let here : whole ≡ old = cc in subst (λ (node : Node). MeanTheSame release node new) (sym here) same
keeps_meaning_at_places release (number ∷ place) whole old new there same =
    changed_keeps release whole number old (node_at place) (put_at place new) (slice_get (children whole) number) refl
    (λ child at_child. keeps_meaning_at_places release place child old new at_child same) there
