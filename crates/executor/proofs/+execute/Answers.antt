-- Answers of the functions that execute a plan. A long answer stands in the file of its kind of node.
mod All
mod Dotted
mod Members
mod Minus
mod Nodes
mod Pairs
mod Some
mod Units
mod Walks
use Rattle.std.proofs.Common.{subst, ℕ, ◌∙◌}
use Rattle.std.proofs.Common.{length, sym, ap, arith, ◌-◌}
use Rattle.set_algebra.specs.Physical.{physical_of}
use Rattle.plan_bounds.proofs.PartLemmas.{minus_are, minus_group_plan_is, pairs_are, pairs_group_plan_is, and_are}
use Rattle.plan_bounds.proofs.PartLemmas.{and_group_plan_is, or_are, or_group_plan_is}
use Rattle.plan_bounds.proofs.PartLemmas.{group_plan_is, values_are}
use Rattle.reading.proofs.CountLemmas.{counted_both, counted_in, counted_thrice}
use Rattle.executor.proofs.NodeWork.{members_are}
use Rattle.executor.proofs.NodeWork.{plan_answers, plan_counts, test_counts, test_outside}
use Rattle.executor.proofs.NodeWork.{test_within, groups_answer, groups_count, walk_is}
use Rattle.executor.proofs.+execute.Answers.All as all
use Rattle.executor.proofs.+execute.Answers.Dotted as dotted
use Rattle.executor.proofs.+execute.Answers.Members as members
use Rattle.executor.proofs.+execute.Answers.Minus as minus
use Rattle.executor.proofs.+execute.Answers.Nodes as nodes
use Rattle.executor.proofs.+execute.Answers.Pairs as pairs
use Rattle.executor.proofs.+execute.Answers.Some as some
use Rattle.executor.proofs.+execute.Answers.Units as units
use Rattle.executor.proofs.+execute.Answers.Walks as walks
use Rattle.executor.proofs.+execute.Goals as goal

-- without a candidate, the empty set is what the plan means among the candidates, and its floor is counted
pub plans::execute_estimated-returns-then-none_left-clause-found :
    goal.plans::execute_estimated-returns-then-none_left-clause-found
plans::execute_estimated-returns-then-none_left-clause-found =
    nodes.execute_estimated-returns-then-none_left-clause-found

-- without a candidate, the floor that is counted is within the bound of the plan
pub plans::execute_estimated-returns-then-none_left-clause-counted :
    goal.plans::execute_estimated-returns-then-none_left-clause-counted
plans::execute_estimated-returns-then-none_left-clause-counted =
    nodes.execute_estimated-returns-then-none_left-clause-counted

-- if memory is refused for the empty set, the floor that is counted is within the bound of the plan
pub plans::execute_estimated-returns-in_err-found-clause-counted :
    goal.plans::execute_estimated-returns-in_err-found-clause-counted
plans::execute_estimated-returns-in_err-found-clause-counted =
    nodes.execute_estimated-returns-in_err-found-clause-counted

-- a set that is prepared for the estimate keeps its items, so it answers the plan
pub plans::execute_estimated-returns-clause-found : goal.plans::execute_estimated-returns-clause-found
plans::execute_estimated-returns-clause-found = nodes.execute_estimated-returns-clause-found

-- the answer to a plan of concepts has at most as many concepts as the size of the plan
pub plans::execute_estimated-returns-clause-size : goal.plans::execute_estimated-returns-clause-size
plans::execute_estimated-returns-clause-size = nodes.execute_estimated-returns-clause-size

-- without a candidate, the empty set is what the plan of groups means among the candidates, and its floor is counted
pub group_plans::execute_groups-returns-then-none_left-clause-found :
    goal.group_plans::execute_groups-returns-then-none_left-clause-found
group_plans::execute_groups-returns-then-none_left-clause-found =
    nodes.execute_groups-returns-then-none_left-clause-found

-- without a candidate, the floor that is counted is within the bound of the plan of groups
pub group_plans::execute_groups-returns-then-none_left-clause-counted :
    goal.group_plans::execute_groups-returns-then-none_left-clause-counted
group_plans::execute_groups-returns-then-none_left-clause-counted =
    nodes.execute_groups-returns-then-none_left-clause-counted

-- if memory is refused for the empty set of groups, the floor that is counted is within the bound of the plan
pub group_plans::execute_groups-returns-in_err-found-clause-counted :
    goal.group_plans::execute_groups-returns-in_err-found-clause-counted
group_plans::execute_groups-returns-in_err-found-clause-counted =
    nodes.execute_groups-returns-in_err-found-clause-counted

-- the answer to a plan of groups has at most as many groups as the size of the plan
pub group_plans::execute_groups-returns-clause-size : goal.group_plans::execute_groups-returns-clause-size
group_plans::execute_groups-returns-clause-size = nodes.execute_groups-returns-clause-size

-- the few candidates that pass the test by their lists are those that the walk means
pub walk_plans::walk_to_few-returns-clause-found : goal.walk_plans::walk_to_few-returns-clause-found
walk_plans::walk_to_few-returns-clause-found = walks.walk_to_few-returns-clause-found

-- the lists that are enough for the few candidates, measuring them, and the lists that test the candidates take each
-- at most a third of all lists, so the visits are within the bound of the walk
pub walk_plans::walk_to_few-returns-clause-counted : goal.walk_plans::walk_to_few-returns-clause-counted
walk_plans::walk_to_few-returns-clause-counted = walks.walk_to_few-returns-clause-counted

-- if memory is refused while the few candidates are tested, the visits are within the bound of the walk
pub walk_plans::walk_to_few-returns-in_err-found-clause-counted :
    goal.walk_plans::walk_to_few-returns-in_err-found-clause-counted
walk_plans::walk_to_few-returns-in_err-found-clause-counted = walks.walk_to_few-returns-in_err-found-clause-counted

-- if memory is refused while the operand is executed for the few concepts, the visits are within the bound of the
-- walk
pub walk_plans::walk_to_few-returns-in_err-from-clause-counted :
    goal.walk_plans::walk_to_few-returns-in_err-from-clause-counted
walk_plans::walk_to_few-returns-in_err-from-clause-counted = walks.walk_to_few-returns-in_err-from-clause-counted

-- if memory is refused while the concepts that are enough are measured, the visits are within the bound of the walk
pub walk_plans::walk_to_few-returns-in_err-stats-clause-counted :
    goal.walk_plans::walk_to_few-returns-in_err-stats-clause-counted
walk_plans::walk_to_few-returns-in_err-stats-clause-counted = walks.walk_to_few-returns-in_err-stats-clause-counted

-- if the candidates are few enough, the operand is not one concept and the lists have room, as `walk_to_few` requires
pub walk_plans::walk_from-walk_to_few-requires : goal.walk_plans::walk_from-walk_to_few-requires
walk_plans::walk_from-walk_to_few-requires = walks.walk_from-walk_to_few-requires

-- if the groups of the candidates are few, executing the plan for these groups finds the candidates that the node
-- means
pub plans::execute_units-returns-then-has_few_groups-clause-found :
    goal.plans::execute_units-returns-then-has_few_groups-clause-found
plans::execute_units-returns-then-has_few_groups-clause-found =
    units.execute_units-returns-then-has_few_groups-clause-found

-- if the plan is executed for all groups, restricting the concepts found to the candidates gives what the node means
pub plans::execute_units-returns-clause-found : goal.plans::execute_units-returns-clause-found
plans::execute_units-returns-clause-found = units.execute_units-returns-clause-found

-- if the groups of the candidates are few, the visits are within the bound of the node that counts groups
pub plans::execute_units-returns-then-has_few_groups-clause-counted :
    goal.plans::execute_units-returns-then-has_few_groups-clause-counted
plans::execute_units-returns-then-has_few_groups-clause-counted =
    units.execute_units-returns-then-has_few_groups-clause-counted

-- if memory is refused while the groups found are counted by concept, the visits are within the bound of the node
-- that counts groups
pub plans::execute_units-returns-in_err-found-clause-counted :
    goal.plans::execute_units-returns-in_err-found-clause-counted
plans::execute_units-returns-in_err-found-clause-counted = units.execute_units-returns-in_err-found-clause-counted

-- without turns there are no parts, so all candidates are what the conjunction means among them
pub joined_plans::execute_in_order-returns-then-is_empty-clause-found :
    goal.joined_plans::execute_in_order-returns-then-is_empty-clause-found
joined_plans::execute_in_order-returns-then-is_empty-clause-found =
    all.execute_in_order-returns-then-is_empty-clause-found

-- after the first part has been executed, the invariant of the conjunction holds at turn 1
pub joined_plans::execute_in_order-loop-turn-init : goal.joined_plans::execute_in_order-loop-turn-init
joined_plans::execute_in_order-loop-turn-init = all.execute_in_order-loop-turn-init

-- a turn that executes a part for what is left keeps the invariant of the conjunction
pub joined_plans::execute_in_order-loop-turn-preserved : goal.joined_plans::execute_in_order-loop-turn-preserved
joined_plans::execute_in_order-loop-turn-preserved = all.execute_in_order-loop-turn-preserved

-- at the end what is left is what all parts mean among the candidates, and their floors are counted
pub joined_plans::execute_in_order-returns-clause-found : goal.joined_plans::execute_in_order-returns-clause-found
joined_plans::execute_in_order-returns-clause-found = all.execute_in_order-returns-clause-found

-- at the end the visits are within the bound of the conjunction
pub joined_plans::execute_in_order-returns-clause-counted : goal.joined_plans::execute_in_order-returns-clause-counted
joined_plans::execute_in_order-returns-clause-counted = all.execute_in_order-returns-clause-counted

-- if memory is refused while the first part is executed, the visits are within the bound of the conjunction
pub joined_plans::execute_in_order-returns-in_err-found-clause-counted :
    goal.joined_plans::execute_in_order-returns-in_err-found-clause-counted
joined_plans::execute_in_order-returns-in_err-found-clause-counted =
    all.execute_in_order-returns-in_err-found-clause-counted

-- if memory is refused while what the first part has found is measured, the visits are within the bound of the
-- conjunction
pub joined_plans::execute_in_order-returns-in_err-stats-clause-counted :
    goal.joined_plans::execute_in_order-returns-in_err-stats-clause-counted
joined_plans::execute_in_order-returns-in_err-stats-clause-counted =
    all.execute_in_order-returns-in_err-stats-clause-counted

-- if memory is refused while a later part is executed, the visits are within the bound of the conjunction
pub joined_plans::execute_in_order-returns-in_err-next-clause-counted :
    goal.joined_plans::execute_in_order-returns-in_err-next-clause-counted
joined_plans::execute_in_order-returns-in_err-next-clause-counted =
    all.execute_in_order-returns-in_err-next-clause-counted

-- if memory is refused while what a later part has found is measured, the visits are within the bound of the
-- conjunction
pub joined_plans::execute_in_order-returns-in_err-stats-2-clause-counted :
    goal.joined_plans::execute_in_order-returns-in_err-stats-2-clause-counted
joined_plans::execute_in_order-returns-in_err-stats-2-clause-counted =
    all.execute_in_order-returns-in_err-stats-2-clause-counted

-- without turns there are no parts, so all candidate groups are what the conjunction means among them
pub group_plans::execute_groups_in_order-returns-then-is_empty-clause-found :
    goal.group_plans::execute_groups_in_order-returns-then-is_empty-clause-found
group_plans::execute_groups_in_order-returns-then-is_empty-clause-found =
    all.execute_groups_in_order-returns-then-is_empty-clause-found

-- after the first part of groups has been executed, the invariant of the conjunction holds at turn 1
pub group_plans::execute_groups_in_order-loop-turn-init : goal.group_plans::execute_groups_in_order-loop-turn-init
group_plans::execute_groups_in_order-loop-turn-init = all.execute_groups_in_order-loop-turn-init

-- a turn that executes a part of groups for what is left keeps the invariant of the conjunction
pub group_plans::execute_groups_in_order-loop-turn-preserved :
    goal.group_plans::execute_groups_in_order-loop-turn-preserved
group_plans::execute_groups_in_order-loop-turn-preserved = all.execute_groups_in_order-loop-turn-preserved

-- at the end what is left is what all parts of groups mean among the candidates, and their floors are counted
pub group_plans::execute_groups_in_order-returns-clause-found :
    goal.group_plans::execute_groups_in_order-returns-clause-found
group_plans::execute_groups_in_order-returns-clause-found = all.execute_groups_in_order-returns-clause-found

-- at the end the visits are within the bound of the conjunction of groups
pub group_plans::execute_groups_in_order-returns-clause-counted :
    goal.group_plans::execute_groups_in_order-returns-clause-counted
group_plans::execute_groups_in_order-returns-clause-counted = all.execute_groups_in_order-returns-clause-counted

-- if memory is refused while the first part of groups is executed, the visits are within the bound of the conjunction
pub group_plans::execute_groups_in_order-returns-in_err-groups-clause-counted :
    goal.group_plans::execute_groups_in_order-returns-in_err-groups-clause-counted
group_plans::execute_groups_in_order-returns-in_err-groups-clause-counted =
    all.execute_groups_in_order-returns-in_err-groups-clause-counted

-- if memory is refused while what the first part of groups has found is measured, the visits are within the bound of
-- the conjunction
pub group_plans::execute_groups_in_order-returns-in_err-stats-clause-counted :
    goal.group_plans::execute_groups_in_order-returns-in_err-stats-clause-counted
group_plans::execute_groups_in_order-returns-in_err-stats-clause-counted =
    all.execute_groups_in_order-returns-in_err-stats-clause-counted

-- if memory is refused while a later part of groups is executed, the visits are within the bound of the conjunction
pub group_plans::execute_groups_in_order-returns-in_err-next-clause-counted :
    goal.group_plans::execute_groups_in_order-returns-in_err-next-clause-counted
group_plans::execute_groups_in_order-returns-in_err-next-clause-counted =
    all.execute_groups_in_order-returns-in_err-next-clause-counted

-- if memory is refused while what a later part of groups has found is measured, the visits are within the bound of the
-- conjunction
pub group_plans::execute_groups_in_order-returns-in_err-stats-2-clause-counted :
    goal.group_plans::execute_groups_in_order-returns-in_err-stats-2-clause-counted
group_plans::execute_groups_in_order-returns-in_err-stats-2-clause-counted =
    all.execute_groups_in_order-returns-in_err-stats-2-clause-counted

-- before the first part, the empty set meets the invariant of the disjunction
pub joined_plans::execute_or-loop-part-init : goal.joined_plans::execute_or-loop-part-init
joined_plans::execute_or-loop-part-init = some.execute_or-loop-part-init

-- a turn that joins what a part has found to what was found so far keeps the invariant of the disjunction
pub joined_plans::execute_or-loop-part-preserved : goal.joined_plans::execute_or-loop-part-preserved
joined_plans::execute_or-loop-part-preserved = some.execute_or-loop-part-preserved

-- if memory is refused while a part is executed, the visits are within the bound of the disjunction
pub joined_plans::execute_or-returns-in_err-next-clause-counted :
    goal.joined_plans::execute_or-returns-in_err-next-clause-counted
joined_plans::execute_or-returns-in_err-next-clause-counted = some.execute_or-returns-in_err-next-clause-counted

-- if memory is refused while what a part has found is joined to what was found so far, the visits are within the
-- bound of the disjunction
pub joined_plans::execute_or-returns-in_err-found-2-clause-counted :
    goal.joined_plans::execute_or-returns-in_err-found-2-clause-counted
joined_plans::execute_or-returns-in_err-found-2-clause-counted = some.execute_or-returns-in_err-found-2-clause-counted

-- at the end the visits are within the bound of the disjunction
pub joined_plans::execute_or-returns-clause-counted : goal.joined_plans::execute_or-returns-clause-counted
joined_plans::execute_or-returns-clause-counted = some.execute_or-returns-clause-counted

-- at the end what was found is what at least one part means among the candidates, and the floors of all parts are
-- counted
pub joined_plans::execute_or-returns-clause-found : goal.joined_plans::execute_or-returns-clause-found
joined_plans::execute_or-returns-clause-found = some.execute_or-returns-clause-found

-- before the first part of groups, the empty set meets the invariant of the disjunction
pub group_plans::execute_group_or-loop-part-init : goal.group_plans::execute_group_or-loop-part-init
group_plans::execute_group_or-loop-part-init = some.execute_group_or-loop-part-init

-- a turn that joins the groups that a part has found to those found so far keeps the invariant of the disjunction
pub group_plans::execute_group_or-loop-part-preserved : goal.group_plans::execute_group_or-loop-part-preserved
group_plans::execute_group_or-loop-part-preserved = some.execute_group_or-loop-part-preserved

-- if memory is refused while a part of groups is executed, the visits are within the bound of the disjunction
pub group_plans::execute_group_or-returns-in_err-next-clause-counted :
    goal.group_plans::execute_group_or-returns-in_err-next-clause-counted
group_plans::execute_group_or-returns-in_err-next-clause-counted =
    some.execute_group_or-returns-in_err-next-clause-counted

-- if memory is refused while the groups that a part has found are joined to those found so far, the visits are within
-- the bound of the disjunction
pub group_plans::execute_group_or-returns-in_err-groups-2-clause-counted :
    goal.group_plans::execute_group_or-returns-in_err-groups-2-clause-counted
group_plans::execute_group_or-returns-in_err-groups-2-clause-counted =
    some.execute_group_or-returns-in_err-groups-2-clause-counted

-- at the end the visits are within the bound of the disjunction of groups
pub group_plans::execute_group_or-returns-clause-counted : goal.group_plans::execute_group_or-returns-clause-counted
group_plans::execute_group_or-returns-clause-counted = some.execute_group_or-returns-clause-counted

-- at the end the groups found are what at least one part means among the candidates, and the floors of all parts are
-- counted
pub group_plans::execute_group_or-returns-clause-found : goal.group_plans::execute_group_or-returns-clause-found
group_plans::execute_group_or-returns-clause-found = some.execute_group_or-returns-clause-found

-- before the first name, the set that the attributes start from meets the invariant
pub dotted_plans::execute_attributes-loop-name-init : goal.dotted_plans::execute_attributes-loop-name-init
dotted_plans::execute_attributes-loop-name-init = dotted.execute_attributes-loop-name-init

-- a turn that goes along one attribute name keeps the invariant of the names
pub dotted_plans::execute_attributes-loop-name-preserved : goal.dotted_plans::execute_attributes-loop-name-preserved
dotted_plans::execute_attributes-loop-name-preserved = dotted.execute_attributes-loop-name-preserved

-- if memory is refused while a name is executed, the visits are within the bound of the values along all names
pub dotted_plans::execute_attributes-returns-in_err-named-clause-counted :
    goal.dotted_plans::execute_attributes-returns-in_err-named-clause-counted
dotted_plans::execute_attributes-returns-in_err-named-clause-counted =
    dotted.execute_attributes-returns-in_err-named-clause-counted

-- if memory is refused while the values along a name are found, the visits are within the bound of the values along
-- all names
pub dotted_plans::execute_attributes-returns-in_err-found-clause-counted :
    goal.dotted_plans::execute_attributes-returns-in_err-found-clause-counted
dotted_plans::execute_attributes-returns-in_err-found-clause-counted =
    dotted.execute_attributes-returns-in_err-found-clause-counted

-- at the end the visits are within the bound of the values along all names
pub dotted_plans::execute_attributes-returns-clause-counted :
    goal.dotted_plans::execute_attributes-returns-clause-counted
dotted_plans::execute_attributes-returns-clause-counted = dotted.execute_attributes-returns-clause-counted

-- at the end what was found is what all names lead to from the start, and the floors of the names are counted
pub dotted_plans::execute_attributes-returns-clause-found : goal.dotted_plans::execute_attributes-returns-clause-found
dotted_plans::execute_attributes-returns-clause-found = dotted.execute_attributes-returns-clause-found

-- if the name before is equal, its set is what the name means, and the floor of the name is counted
pub dotted_plans::named_by-returns-then-eq-clause-found :
    goal.dotted_plans::named_by-returns-then-eq-clause-found
dotted_plans::named_by-returns-then-eq-clause-found =
    dotted.named_by-returns-then-eq-clause-found

-- if the name before is equal, the floor that is counted is within the bound of the name
pub dotted_plans::named_by-returns-then-eq-clause-counted :
    goal.dotted_plans::named_by-returns-then-eq-clause-counted
dotted_plans::named_by-returns-then-eq-clause-counted =
    dotted.named_by-returns-then-eq-clause-counted

-- what the start has found among the sources of rows with the types has all values along these types
pub dotted_plans::execute_from_few-returns-clause-found :
    goal.dotted_plans::execute_from_few-returns-clause-found
dotted_plans::execute_from_few-returns-clause-found =
    dotted.execute_from_few-returns-clause-found

-- the sources are read once to measure them, and what the start has found among them are no more
pub dotted_plans::execute_from_few-returns-clause-counted :
    goal.dotted_plans::execute_from_few-returns-clause-counted
dotted_plans::execute_from_few-returns-clause-counted =
    dotted.execute_from_few-returns-clause-counted

-- if memory is refused while the values are found, the visits are within the same bound
pub dotted_plans::execute_from_few-returns-in_err-found-clause-counted :
    goal.dotted_plans::execute_from_few-returns-in_err-found-clause-counted
dotted_plans::execute_from_few-returns-in_err-found-clause-counted =
    dotted.execute_from_few-returns-in_err-found-clause-counted

-- if the start is executed for all concepts, the values of what it has found are those of what it means
pub dotted_plans::execute_start-returns-in_ok-found-in-None-clause-found :
    goal.dotted_plans::execute_start-returns-in_ok-found-in-None-clause-found
dotted_plans::execute_start-returns-in_ok-found-in-None-clause-found =
    dotted.execute_start-returns-in_ok-found-in-None-clause-found

-- the visits of the names and of the start are within the bound of the plan of values
pub dotted_plans::execute_dotted-returns-in_ok-found-in-Some-clause-counted :
    goal.dotted_plans::execute_dotted-returns-in_ok-found-in-Some-clause-counted
dotted_plans::execute_dotted-returns-in_ok-found-in-Some-clause-counted =
    dotted.execute_dotted-returns-in_ok-found-in-Some-clause-counted

-- if memory is refused while the values along the other names are found, the visits are within the bound of the plan of
-- values
pub dotted_plans::execute_dotted-returns-in_err-driven-in-Some-clause-counted :
    goal.dotted_plans::execute_dotted-returns-in_err-driven-in-Some-clause-counted
dotted_plans::execute_dotted-returns-in_err-driven-in-Some-clause-counted =
    dotted.execute_dotted-returns-in_err-driven-in-Some-clause-counted

-- if memory is refused while the values found are restricted to the candidates, the visits are within the bound of
-- the plan of values
pub dotted_plans::execute_dotted-returns-in_err-found-in-Some-clause-counted :
    goal.dotted_plans::execute_dotted-returns-in_err-found-in-Some-clause-counted
dotted_plans::execute_dotted-returns-in_err-found-in-Some-clause-counted =
    dotted.execute_dotted-returns-in_err-found-in-Some-clause-counted

-- what the names lead to from the start, restricted to the candidates, is what the plan of values means among them
pub dotted_plans::execute_dotted-returns-in_ok-found-in-Some-clause-found :
    goal.dotted_plans::execute_dotted-returns-in_ok-found-in-Some-clause-found
dotted_plans::execute_dotted-returns-in_ok-found-in-Some-clause-found =
    dotted.execute_dotted-returns-in_ok-found-in-Some-clause-found

-- the candidates lie below the bound of the values found, as `restricted` requires
pub dotted_plans::execute_dotted-restricted-requires :
    goal.dotted_plans::execute_dotted-restricted-requires
dotted_plans::execute_dotted-restricted-requires =
    dotted.execute_dotted-restricted-requires

-- without a type, no concept is found for the operand, and its floor is counted
pub plans::execute_operand-returns-then-count-eq0-clause-found :
    goal.plans::execute_operand-returns-then-count-eq0-clause-found
plans::execute_operand-returns-then-count-eq0-clause-found =
    pairs.execute_operand-returns-then-count-eq0-clause-found

-- without a type, the floor that is counted is within the bound of the operand
pub plans::execute_operand-returns-then-count-eq0-clause-counted :
    goal.plans::execute_operand-returns-then-count-eq0-clause-counted
plans::execute_operand-returns-then-count-eq0-clause-counted =
    pairs.execute_operand-returns-then-count-eq0-clause-counted

-- without a type, no concept adds no row
pub plans::execute_operand-returns-then-count-eq0-clause-adds :
    goal.plans::execute_operand-returns-then-count-eq0-clause-adds
plans::execute_operand-returns-then-count-eq0-clause-adds =
    pairs.execute_operand-returns-then-count-eq0-clause-adds

-- if memory is refused for the empty set, the floor that is counted is within the bound of the operand
pub plans::execute_operand-returns-in_err-none-clause-counted :
    goal.plans::execute_operand-returns-in_err-none-clause-counted
plans::execute_operand-returns-in_err-none-clause-counted =
    pairs.execute_operand-returns-in_err-none-clause-counted

-- with a type, the concepts that are found are those that the operand means
pub plans::execute_operand-returns-clause-found :
    goal.plans::execute_operand-returns-clause-found
plans::execute_operand-returns-clause-found = pairs.execute_operand-returns-clause-found

-- the set that the plan has found makes the test that is within it
pub plans::tested_of-returns-in_ok-set-in-Within-clause-tested :
    goal.plans::tested_of-returns-in_ok-set-in-Within-clause-tested
plans::tested_of-returns-in_ok-set-in-Within-clause-tested = pairs.tested_of-returns-in_ok-set-in-Within-clause-tested

-- a test within a plan counts at most the bound of the plan
pub plans::tested_of-returns-in_ok-set-in-Within-clause-counted :
    goal.plans::tested_of-returns-in_ok-set-in-Within-clause-counted
plans::tested_of-returns-in_ok-set-in-Within-clause-counted g t c =
    test_counts c.args.reader.indexes.now (test_within c.in-Within.operand c.in-Within.is c.deref.ensures)
    c.execute_operand.ensures.counted

-- if memory is refused while the plan of a test within it is executed, the visits are within the bound of that plan
pub plans::tested_of-returns-in_err-set-in-Within-clause-counted :
    goal.plans::tested_of-returns-in_err-set-in-Within-clause-counted
plans::tested_of-returns-in_err-set-in-Within-clause-counted g t c =
    test_counts c.args.reader.indexes.now (test_within c.in-Within.operand c.in-Within.is c.deref.ensures)
    c.execute_operand.ensures.counted

-- the set that the plan has found makes the test that is outside it
pub plans::tested_of-returns-in_ok-set-in-Outside-clause-tested :
    goal.plans::tested_of-returns-in_ok-set-in-Outside-clause-tested
plans::tested_of-returns-in_ok-set-in-Outside-clause-tested = pairs.tested_of-returns-in_ok-set-in-Outside-clause-tested

-- a test outside a plan counts at most the bound of the plan
pub plans::tested_of-returns-in_ok-set-in-Outside-clause-counted :
    goal.plans::tested_of-returns-in_ok-set-in-Outside-clause-counted
plans::tested_of-returns-in_ok-set-in-Outside-clause-counted g t c =
    test_counts c.args.reader.indexes.now (test_outside c.in-Outside.operand c.in-Outside.is c.deref-in-Outside.ensures)
    c.execute_operand-in-Outside.ensures.counted

-- if memory is refused while the plan of a test outside it is executed, the visits are within the bound of that plan
pub plans::tested_of-returns-in_err-set-in-Outside-clause-counted :
    goal.plans::tested_of-returns-in_err-set-in-Outside-clause-counted
plans::tested_of-returns-in_err-set-in-Outside-clause-counted g t c =
    test_counts c.args.reader.indexes.now (test_outside c.in-Outside.operand c.in-Outside.is c.deref-in-Outside.ensures)
    c.execute_operand-in-Outside.ensures.counted

-- the components of the reference sets that the operand has found, restricted to the candidates, are what the node
-- means among them
pub plans::members_of-returns-clause-found : goal.plans::members_of-returns-clause-found
plans::members_of-returns-clause-found = members.members_of-returns-clause-found

-- the visits of the operand and of its components are within the bound of the node of members
pub plans::members_of-returns-clause-counted : goal.plans::members_of-returns-clause-counted
plans::members_of-returns-clause-counted g t c =
    counted_both c.execute_within.ensures.counted c.members_found.ensures.counted (omega arith)

-- if memory is refused while the components are found, the visits are within the bound of the node of members
pub plans::members_of-returns-in_err-found-clause-counted : goal.plans::members_of-returns-in_err-found-clause-counted
plans::members_of-returns-in_err-found-clause-counted g t c =
    counted_both c.execute_within.ensures.counted c.members_found.ensures.counted (omega arith)

-- if memory is refused while the operand is executed, the visits are within the bound of the node of members
pub plans::members_of-returns-in_err-from-clause-counted : goal.plans::members_of-returns-in_err-from-clause-counted
plans::members_of-returns-in_err-from-clause-counted g t c = counted_in c.execute_within.ensures.counted (omega arith)

-- the empty set is what the empty plan means among the candidates
pub plans::execute_node-returns-in-Empty-clause-found : goal.plans::execute_node-returns-in-Empty-clause-found
plans::execute_node-returns-in-Empty-clause-found = nodes.execute_node-returns-in-Empty-clause-found

-- all candidates are what a plan of all concepts means among them
pub plans::execute_node-returns-in-All-clause-found : goal.plans::execute_node-returns-in-All-clause-found
plans::execute_node-returns-in-All-clause-found = nodes.execute_node-returns-in-All-clause-found

-- the concept with the identifier, if it is a candidate, is what a plan of one concept means among them
pub plans::execute_node-returns-in-One-clause-found : goal.plans::execute_node-returns-in-One-clause-found
plans::execute_node-returns-in-One-clause-found = nodes.execute_node-returns-in-One-clause-found

-- `walk_from` counts at most the bound of a `Walk` node
pub plans::execute_node-returns-in-Walk-clause-counted : goal.plans::execute_node-returns-in-Walk-clause-counted
plans::execute_node-returns-in-Walk-clause-counted g t c =
    plan_counts c.args.reader.indexes.now (walk_is c.in-Walk.operator c.in-Walk.operand c.in-Walk.is c.deref.ensures)
    c.walk_from.ensures.counted

-- `walk_from` finds what a `Walk` node means among the candidates
pub plans::execute_node-returns-in-Walk-clause-found : goal.plans::execute_node-returns-in-Walk-clause-found
plans::execute_node-returns-in-Walk-clause-found g t c =
    plan_answers g.S.ConceptSet c.args.reader.snapshot.now.release c.args.reader.indexes.now c.args.candidates.now
    c.args.visits.now c.walk_from.new.visits c.walk_from.result
    (walk_is c.in-Walk.operator c.in-Walk.operand c.in-Walk.is c.deref.ensures) c.walk_from.ensures.found

-- `members_of` counts at most the bound of a `Members` node
pub plans::execute_node-returns-in-Members-clause-counted : goal.plans::execute_node-returns-in-Members-clause-counted
plans::execute_node-returns-in-Members-clause-counted g t c =
    plan_counts c.args.reader.indexes.now (members_are c.in-Members.operand c.in-Members.is c.deref-in-Members.ensures)
    c.members_of.ensures.counted

-- `members_of` finds what a `Members` node means among the candidates
pub plans::execute_node-returns-in-Members-clause-found : goal.plans::execute_node-returns-in-Members-clause-found
plans::execute_node-returns-in-Members-clause-found g t c =
    plan_answers g.S.ConceptSet c.args.reader.snapshot.now.release c.args.reader.indexes.now c.args.candidates.now
    c.args.visits.now c.members_of.new.visits c.members_of.result
    (members_are c.in-Members.operand c.in-Members.is c.deref-in-Members.ensures) c.members_of.ensures.found

-- `execute_and` counts at most the bound of an `And` node
pub plans::execute_node-returns-in-And-clause-counted : goal.plans::execute_node-returns-in-And-clause-counted
plans::execute_node-returns-in-And-clause-counted g t c =
    plan_counts c.args.reader.indexes.now (and_are c.in-And.parts c.in-And.is c.deref-in-And.ensures.value)
    c.execute_and.ensures.counted

-- `execute_and` finds what an `And` node means among the candidates
pub plans::execute_node-returns-in-And-clause-found : goal.plans::execute_node-returns-in-And-clause-found
plans::execute_node-returns-in-And-clause-found g t c =
    plan_answers g.S.ConceptSet c.args.reader.snapshot.now.release c.args.reader.indexes.now c.args.candidates.now
    c.args.visits.now c.execute_and.new.visits c.execute_and.result
    (and_are c.in-And.parts c.in-And.is c.deref-in-And.ensures.value) c.execute_and.ensures.found

-- `execute_or` counts at most the bound of an `Or` node
pub plans::execute_node-returns-in-Or-clause-counted : goal.plans::execute_node-returns-in-Or-clause-counted
plans::execute_node-returns-in-Or-clause-counted g t c =
    plan_counts c.args.reader.indexes.now (or_are c.in-Or.parts c.in-Or.is c.deref-in-Or.ensures.value)
    c.execute_or.ensures.counted

-- `execute_or` finds what an `Or` node means among the candidates
pub plans::execute_node-returns-in-Or-clause-found : goal.plans::execute_node-returns-in-Or-clause-found
plans::execute_node-returns-in-Or-clause-found g t c =
    plan_answers g.S.ConceptSet c.args.reader.snapshot.now.release c.args.reader.indexes.now c.args.candidates.now
    c.args.visits.now c.execute_or.new.visits c.execute_or.result
    (or_are c.in-Or.parts c.in-Or.is c.deref-in-Or.ensures.value) c.execute_or.ensures.found

-- `execute_minus` counts at most the bound of a `Minus` node
pub plans::execute_node-returns-in-Minus-clause-counted : goal.plans::execute_node-returns-in-Minus-clause-counted
plans::execute_node-returns-in-Minus-clause-counted g t c =
    plan_counts c.args.reader.indexes.now (minus_are c.in-Minus.first c.in-Minus.second c.in-Minus.is
    c.deref-in-Minus.ensures c.deref-in-Minus-2.ensures) c.execute_minus.ensures.counted

-- `execute_minus` finds what a `Minus` node means among the candidates
pub plans::execute_node-returns-in-Minus-clause-found : goal.plans::execute_node-returns-in-Minus-clause-found
plans::execute_node-returns-in-Minus-clause-found = nodes.execute_node-returns-in-Minus-clause-found

-- `execute_dotted` counts at most the bound of a `Values` node
pub plans::execute_node-returns-in-Values-clause-counted : goal.plans::execute_node-returns-in-Values-clause-counted
plans::execute_node-returns-in-Values-clause-counted g t c =
    plan_counts c.args.reader.indexes.now (values_are c.in-Values.start c.in-Values.names c.in-Values.is
    c.deref-in-Values.ensures c.deref-in-Values-2.ensures.value) c.execute_dotted.ensures.counted

-- `execute_dotted` finds what a `Values` node means among the candidates
pub plans::execute_node-returns-in-Values-clause-found : goal.plans::execute_node-returns-in-Values-clause-found
plans::execute_node-returns-in-Values-clause-found = nodes.execute_node-returns-in-Values-clause-found

-- `pairs_within` counts at most the bound of a leaf of concepts
pub plans::execute_node-returns-in-Pairs-clause-counted : goal.plans::execute_node-returns-in-Pairs-clause-counted
plans::execute_node-returns-in-Pairs-clause-counted g t c =
    plan_counts c.args.reader.indexes.now (pairs_are c.in-Pairs.types c.in-Pairs.is c.deref-in-Pairs.ensures)
    c.pairs_within.ensures.counted

-- `pairs_within` finds what a leaf of concepts means among the candidates
pub plans::execute_node-returns-in-Pairs-clause-found : goal.plans::execute_node-returns-in-Pairs-clause-found
plans::execute_node-returns-in-Pairs-clause-found g t c =
    plan_answers g.S.ConceptSet c.args.reader.snapshot.now.release c.args.reader.indexes.now c.args.candidates.now
    c.args.visits.now c.pairs_within.new.visits c.pairs_within.result
    (pairs_are c.in-Pairs.types c.in-Pairs.is c.deref-in-Pairs.ensures) c.pairs_within.ensures.found

-- `execute_units` counts at most the bound of a `Units` node
pub plans::execute_node-returns-in-Units-clause-counted : goal.plans::execute_node-returns-in-Units-clause-counted
plans::execute_node-returns-in-Units-clause-counted g t c =
    plan_counts c.args.reader.indexes.now (group_plan_is c.in-Units.units c.in-Units.is c.deref-in-Units.ensures)
    c.execute_units.ensures.counted

-- `execute_units` finds what a `Units` node means among the candidates
pub plans::execute_node-returns-in-Units-clause-found : goal.plans::execute_node-returns-in-Units-clause-found
plans::execute_node-returns-in-Units-clause-found g t c =
    plan_answers g.S.ConceptSet c.args.reader.snapshot.now.release c.args.reader.indexes.now c.args.candidates.now
    c.args.visits.now c.execute_units.new.visits c.execute_units.result
    (group_plan_is c.in-Units.units c.in-Units.is c.deref-in-Units.ensures) c.execute_units.ensures.found

-- the empty set is what the plan of no group means among the candidates
pub group_plans::execute_group_node-returns-in-Nothing-clause-found :
    goal.group_plans::execute_group_node-returns-in-Nothing-clause-found
group_plans::execute_group_node-returns-in-Nothing-clause-found =
    nodes.execute_group_node-returns-in-Nothing-clause-found

-- all candidate groups are what the plan of every group means among them
pub group_plans::execute_group_node-returns-in-Every-clause-found :
    goal.group_plans::execute_group_node-returns-in-Every-clause-found
group_plans::execute_group_node-returns-in-Every-clause-found = nodes.execute_group_node-returns-in-Every-clause-found

-- `execute_group_and` counts at most the bound of an `And` node of groups
pub group_plans::execute_group_node-returns-in-And-clause-counted :
    goal.group_plans::execute_group_node-returns-in-And-clause-counted
group_plans::execute_group_node-returns-in-And-clause-counted g t c =
    groups_count c.args.reader.indexes.now (and_group_plan_is c.in-And.parts c.in-And.is c.deref.ensures.value)
    c.execute_group_and.ensures.counted

-- `execute_group_and` finds what an `And` node of groups means among the candidates
pub group_plans::execute_group_node-returns-in-And-clause-found :
    goal.group_plans::execute_group_node-returns-in-And-clause-found
group_plans::execute_group_node-returns-in-And-clause-found g t c =
    groups_answer g.S.ConceptSet c.args.reader.snapshot.now.release c.args.reader.indexes.now c.args.candidates.now
    c.args.visits.now c.execute_group_and.new.visits c.execute_group_and.result
    (and_group_plan_is c.in-And.parts c.in-And.is c.deref.ensures.value) c.execute_group_and.ensures.found

-- `execute_group_or` counts at most the bound of an `Or` node of groups
pub group_plans::execute_group_node-returns-in-Or-clause-counted :
    goal.group_plans::execute_group_node-returns-in-Or-clause-counted
group_plans::execute_group_node-returns-in-Or-clause-counted g t c =
    groups_count c.args.reader.indexes.now (or_group_plan_is c.in-Or.parts c.in-Or.is c.deref-in-Or.ensures.value)
    c.execute_group_or.ensures.counted

-- `execute_group_or` finds what an `Or` node of groups means among the candidates
pub group_plans::execute_group_node-returns-in-Or-clause-found :
    goal.group_plans::execute_group_node-returns-in-Or-clause-found
group_plans::execute_group_node-returns-in-Or-clause-found g t c =
    groups_answer g.S.ConceptSet c.args.reader.snapshot.now.release c.args.reader.indexes.now c.args.candidates.now
    c.args.visits.now c.execute_group_or.new.visits c.execute_group_or.result
    (or_group_plan_is c.in-Or.parts c.in-Or.is c.deref-in-Or.ensures.value) c.execute_group_or.ensures.found

-- `execute_group_minus` counts at most the bound of a `Minus` node of groups
pub group_plans::execute_group_node-returns-in-Minus-clause-counted :
    goal.group_plans::execute_group_node-returns-in-Minus-clause-counted
group_plans::execute_group_node-returns-in-Minus-clause-counted g t c =
    groups_count c.args.reader.indexes.now (minus_group_plan_is c.in-Minus.first c.in-Minus.second c.in-Minus.is
    c.deref-in-Minus.ensures c.deref-in-Minus-2.ensures) c.execute_group_minus.ensures.counted

-- `execute_group_minus` finds what a `Minus` node of groups means among the candidates
pub group_plans::execute_group_node-returns-in-Minus-clause-found :
    goal.group_plans::execute_group_node-returns-in-Minus-clause-found
group_plans::execute_group_node-returns-in-Minus-clause-found = nodes.execute_group_node-returns-in-Minus-clause-found

-- `groups_with_pairs` counts at most the bound of a leaf of groups
pub group_plans::execute_group_node-returns-in-Pairs-clause-counted :
    goal.group_plans::execute_group_node-returns-in-Pairs-clause-counted
group_plans::execute_group_node-returns-in-Pairs-clause-counted g t c =
    groups_count c.args.reader.indexes.now (pairs_group_plan_is c.in-Pairs.types c.in-Pairs.is c.deref-in-Pairs.ensures)
    c.groups_with_pairs.ensures.counted

-- `groups_with_pairs` finds what a leaf of groups means among the candidates
pub group_plans::execute_group_node-returns-in-Pairs-clause-found :
    goal.group_plans::execute_group_node-returns-in-Pairs-clause-found
group_plans::execute_group_node-returns-in-Pairs-clause-found g t c =
    groups_answer g.S.ConceptSet c.args.reader.snapshot.now.release c.args.reader.indexes.now c.args.candidates.now
    c.args.visits.now c.groups_with_pairs.new.visits c.groups_with_pairs.result
    (pairs_group_plan_is c.in-Pairs.types c.in-Pairs.is c.deref-in-Pairs.ensures) c.groups_with_pairs.ensures.found

-- what the first part has found and the second has not is what the difference means among the candidates
pub plans::execute_minus-returns-clause-found : goal.plans::execute_minus-returns-clause-found
plans::execute_minus-returns-clause-found = minus.execute_minus-returns-clause-found

-- the visits of both parts and of the difference itself are within the bound of the difference
pub plans::execute_minus-returns-clause-counted :
    goal.plans::execute_minus-returns-clause-counted
plans::execute_minus-returns-clause-counted = minus.execute_minus-returns-clause-counted

-- if memory is refused while what the second part has found is taken away, the visits are within the bound of the
-- difference
pub plans::execute_minus-returns-in_err-found-clause-counted :
    goal.plans::execute_minus-returns-in_err-found-clause-counted
plans::execute_minus-returns-in_err-found-clause-counted = minus.execute_minus-returns-in_err-found-clause-counted

-- if memory is refused while the second part is executed, the visits are within the bound of the difference
pub plans::execute_minus-returns-in_err-right-clause-counted :
    goal.plans::execute_minus-returns-in_err-right-clause-counted
plans::execute_minus-returns-in_err-right-clause-counted g t c =
    counted_thrice c.execute_within.ensures.counted c.second_part.ensures.counted c.execute_within-2.ensures.counted
    (omega arith)

-- the groups that the first part has found and the second has not are what the difference means among the candidates
pub group_plans::execute_group_minus-returns-clause-found : goal.group_plans::execute_group_minus-returns-clause-found
group_plans::execute_group_minus-returns-clause-found = minus.execute_group_minus-returns-clause-found

-- the visits of both parts of groups and of the difference itself are within the bound of the difference
pub group_plans::execute_group_minus-returns-clause-counted :
    goal.group_plans::execute_group_minus-returns-clause-counted
group_plans::execute_group_minus-returns-clause-counted = minus.execute_group_minus-returns-clause-counted

-- if memory is refused while the groups that the second part has found are taken away, the visits are within the
-- bound of the difference
pub group_plans::execute_group_minus-returns-in_err-groups-clause-counted :
    goal.group_plans::execute_group_minus-returns-in_err-groups-clause-counted
group_plans::execute_group_minus-returns-in_err-groups-clause-counted =
    minus.execute_group_minus-returns-in_err-groups-clause-counted

-- if memory is refused while the second part of groups is executed, the visits are within the bound of the difference
pub group_plans::execute_group_minus-returns-in_err-right-clause-counted :
    goal.group_plans::execute_group_minus-returns-in_err-right-clause-counted
group_plans::execute_group_minus-returns-in_err-right-clause-counted g t c =
    counted_thrice c.execute_groups.ensures.counted c.second_group_part.ensures.counted
    c.execute_groups-2.ensures.counted
    (omega arith)

-- the candidates with a number of pairs in the cardinality are what the leaf of concepts means among them
pub plans::pairs_within-returns-clause-found : goal.plans::pairs_within-returns-clause-found
plans::pairs_within-returns-clause-found = pairs.pairs_within-returns-clause-found

-- the visits of the types, of the test and of the leaf itself are within the bound of the leaf of concepts
pub plans::pairs_within-returns-clause-counted : goal.plans::pairs_within-returns-clause-counted
plans::pairs_within-returns-clause-counted = pairs.pairs_within-returns-clause-counted

-- if memory is refused while the concepts with passing pairs are found, the visits are within the bound of the leaf
-- of concepts
pub plans::pairs_within-returns-in_err-found-clause-counted :
    goal.plans::pairs_within-returns-in_err-found-clause-counted
plans::pairs_within-returns-in_err-found-clause-counted = pairs.pairs_within-returns-in_err-found-clause-counted

-- the set of types is bounded by the number of concepts, as `with_pairs_within` requires
pub plans::pairs_within-with_pairs_within-requires-clause-bound :
    goal.plans::pairs_within-with_pairs_within-requires-clause-bound
plans::pairs_within-with_pairs_within-requires-clause-bound g t c =
    c.in_ok-typed.ensures.found.bound ∙ ap length (sym c.args.reader.index.concepts)

-- the set of the test is bounded by the number of concepts, as `with_pairs_within` requires
pub plans::pairs_within-with_pairs_within-requires-clause-tested :
    goal.plans::pairs_within-with_pairs_within-requires-clause-tested
plans::pairs_within-with_pairs_within-requires-clause-tested g t c = c.in_ok-tested.ensures.tested.bound

-- the candidate groups with a number of pairs in the cardinality are what the leaf of groups means among them
pub group_plans::groups_with_pairs-returns-clause-found : goal.group_plans::groups_with_pairs-returns-clause-found
group_plans::groups_with_pairs-returns-clause-found = pairs.groups_with_pairs-returns-clause-found

-- the visits of the types, of the test and of the leaf itself are within the bound of the leaf of groups
pub group_plans::groups_with_pairs-returns-clause-counted : goal.group_plans::groups_with_pairs-returns-clause-counted
group_plans::groups_with_pairs-returns-clause-counted = pairs.groups_with_pairs-returns-clause-counted

-- if memory is refused while the groups with passing pairs are found, the visits are within the bound of the leaf of
-- groups
pub group_plans::groups_with_pairs-returns-in_err-found-clause-counted :
    goal.group_plans::groups_with_pairs-returns-in_err-found-clause-counted
group_plans::groups_with_pairs-returns-in_err-found-clause-counted =
    pairs.groups_with_pairs-returns-in_err-found-clause-counted

-- the set of types is bounded by the number of concepts, as `groups_with_pairs_within` requires
pub group_plans::groups_with_pairs-groups_with_pairs_within-requires-clause-bound :
    goal.group_plans::groups_with_pairs-groups_with_pairs_within-requires-clause-bound
group_plans::groups_with_pairs-groups_with_pairs_within-requires-clause-bound g t c =
    c.in_ok-typed.ensures.found.bound ∙ ap length (sym c.args.reader.index.concepts)

-- the set of the test is bounded by the number of concepts, as `groups_with_pairs_within` requires
pub group_plans::groups_with_pairs-groups_with_pairs_within-requires-clause-tested :
    goal.group_plans::groups_with_pairs-groups_with_pairs_within-requires-clause-tested
group_plans::groups_with_pairs-groups_with_pairs_within-requires-clause-tested g t c =
    c.in_ok-tested.ensures.tested.bound

-- the rows of the concept that the plan names are the rows of what the node finds
pub plans::execute_node-returns-in-One-clause-adds : goal.plans::execute_node-returns-in-One-clause-adds
plans::execute_node-returns-in-One-clause-adds = nodes.execute_node-returns-in-One-clause-adds

-- what the first part has found are candidates, as `second_part` requires
pub plans::execute_minus-second_part-requires-clause-among :
    goal.plans::execute_minus-second_part-requires-clause-among
plans::execute_minus-second_part-requires-clause-among = minus.execute_minus-second_part-requires-clause-among

-- the groups that the first part has found are candidates, as `second_group_part` requires
pub group_plans::execute_group_minus-second_group_part-requires-clause-among :
    goal.group_plans::execute_group_minus-second_group_part-requires-clause-among
group_plans::execute_group_minus-second_group_part-requires-clause-among =
    minus.execute_group_minus-second_group_part-requires-clause-among

-- the bound of the leaf of concepts has room for what its choice reads, as `with_pairs_within` requires
pub plans::pairs_within-with_pairs_within-requires-clause-room :
    goal.plans::pairs_within-with_pairs_within-requires-clause-room
plans::pairs_within-with_pairs_within-requires-clause-room = pairs.pairs_within-with_pairs_within-requires-clause-room

-- the bound of the leaf of groups has room for what its choice reads, as `groups_with_pairs_within` requires
pub group_plans::groups_with_pairs-groups_with_pairs_within-requires-clause-room :
    goal.group_plans::groups_with_pairs-groups_with_pairs_within-requires-clause-room
group_plans::groups_with_pairs-groups_with_pairs_within-requires-clause-room =
    pairs.groups_with_pairs-groups_with_pairs_within-requires-clause-room

-- what the walk leads to from its operand, restricted to the candidates, is what the walk means among them
pub walk_plans::walk_from-returns-clause-found : goal.walk_plans::walk_from-returns-clause-found
walk_plans::walk_from-returns-clause-found = walks.walk_from-returns-clause-found
