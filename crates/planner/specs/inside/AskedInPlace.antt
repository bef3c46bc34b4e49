-- A physical plan after its leaves took requested choices from a list. Each leaf uses up the first
-- choice of the list, and takes it if it offers it; the next leaf gets the others.
use Rattle.std.specs.Prelude.{List, drop}
use Rattle.set_algebra.specs.declared.choice.Choice.{Choice}
use Rattle.set_algebra.specs.Physical.{Physical, physical_empty, physical_all, physical_one, physical_walk}
use Rattle.set_algebra.specs.Physical.{physical_members, physical_and}
use Rattle.set_algebra.specs.Physical.{physical_or, physical_minus, physical_values, physical_pairs, physical_groups}
use Rattle.set_algebra.specs.Physical.{Physicals, no_physicals, physical_then, PhysicalGroups, physical_nothing}
use Rattle.set_algebra.specs.Physical.{physical_every}
use Rattle.set_algebra.specs.Physical.{physical_groups_and, physical_groups_or, physical_groups_minus}
use Rattle.set_algebra.specs.Physical.{physical_groups_pairs}
use Rattle.set_algebra.specs.Physical.{PhysicalGroupsList, no_physical_groups, physical_groups_then}
use Rattle.set_algebra.specs.Physical.{PhysicalTest, physical_within, physical_outside, physical_number}
use Rattle.plan_bounds.specs.Counts.{is_within}
use Rattle.planner.specs.Asked.{asked_or, first_of}

-- a plan after its leaves took their choices, and the choices that no leaf took
pub record PlanAndRest (Sort : Type 0) : Type 0 where
  -- the plan after its leaves took their choices
  pub plan : Sort
  -- the choices that no leaf took
  pub rest : List Choice

abbrev mutual
  -- the plan of concepts after its leaves took choices from `asked`, and the choices that no leaf
  -- took
  pub with_asked : List Choice → Physical → PlanAndRest Physical
  with_asked asked physical_empty = record { plan = physical_empty; rest = asked }
  with_asked asked physical_all = record { plan = physical_all; rest = asked }
  with_asked asked (physical_one number) = record { plan = physical_one number; rest = asked }
  with_asked asked (physical_walk operator operand) =
      let own = with_asked asked operand in
      record { plan = physical_walk operator own.plan; rest = own.rest }
  with_asked asked (physical_members operand) =
      let own = with_asked asked operand in
      record { plan = physical_members own.plan; rest = own.rest }
  with_asked asked (physical_and parts) =
      let own = all_with_asked asked parts in
      record { plan = physical_and own.plan; rest = own.rest }
  with_asked asked (physical_or parts) =
      let own = all_with_asked asked parts in
      record { plan = physical_or own.plan; rest = own.rest }
  with_asked asked (physical_minus first second) =
      let left = with_asked asked first in
      let right = with_asked left.rest second in
      record { plan = physical_minus left.plan right.plan; rest = right.rest }
  with_asked asked (physical_values start names) =
      let from = with_asked asked start in
      let along = all_with_asked from.rest names in
      record { plan = physical_values from.plan along.plan; rest = along.rest }
  with_asked asked (physical_pairs back count types test choice) =
      let inner = with_asked (drop 1 asked) types in
      let last = test_with_asked inner.rest test in
      record {
        plan = physical_pairs back count inner.plan last.plan
            (asked_or (is_within test) (first_of asked) choice);
        rest = last.rest;
      }
  with_asked asked (physical_groups count units) =
      let own = group_with_asked asked units in
      record { plan = physical_groups count own.plan; rest = own.rest }

  -- the plans of concepts of a list after their leaves took choices from `asked`, and the choices
  -- that no leaf took
  pub all_with_asked : List Choice → Physicals → PlanAndRest Physicals
  all_with_asked asked no_physicals = record { plan = no_physicals; rest = asked }
  all_with_asked asked (physical_then first rest) =
      let one = with_asked asked first in
      let more = all_with_asked one.rest rest in
      record { plan = physical_then one.plan more.plan; rest = more.rest }

  -- the plan of groups after its leaves took choices from `asked`, and the choices that no leaf
  -- took
  pub group_with_asked : List Choice → PhysicalGroups → PlanAndRest PhysicalGroups
  group_with_asked asked physical_nothing = record { plan = physical_nothing; rest = asked }
  group_with_asked asked physical_every = record { plan = physical_every; rest = asked }
  group_with_asked asked (physical_groups_and parts) =
      let own = groups_with_asked asked parts in
      record { plan = physical_groups_and own.plan; rest = own.rest }
  group_with_asked asked (physical_groups_or parts) =
      let own = groups_with_asked asked parts in
      record { plan = physical_groups_or own.plan; rest = own.rest }
  group_with_asked asked (physical_groups_minus first second) =
      let left = group_with_asked asked first in
      let right = group_with_asked left.rest second in
      record { plan = physical_groups_minus left.plan right.plan; rest = right.rest }
  group_with_asked asked (physical_groups_pairs count types test choice) =
      let inner = with_asked (drop 1 asked) types in
      let last = test_with_asked inner.rest test in
      record {
        plan = physical_groups_pairs count inner.plan last.plan
            (asked_or (is_within test) (first_of asked) choice);
        rest = last.rest;
      }

  -- the plans of groups of a list after their leaves took choices from `asked`, and the choices
  -- that no leaf took
  pub groups_with_asked : List Choice → PhysicalGroupsList → PlanAndRest PhysicalGroupsList
  groups_with_asked asked no_physical_groups = record { plan = no_physical_groups; rest = asked }
  groups_with_asked asked (physical_groups_then first rest) =
      let one = group_with_asked asked first in
      let more = groups_with_asked one.rest rest in
      record { plan = physical_groups_then one.plan more.plan; rest = more.rest }

  -- the test after the leaves of its plan took choices from `asked`, and the choices that no leaf
  -- took
  pub test_with_asked : List Choice → PhysicalTest → PlanAndRest PhysicalTest
  test_with_asked asked (physical_within operand) =
      let own = with_asked asked operand in
      record { plan = physical_within own.plan; rest = own.rest }
  test_with_asked asked (physical_outside operand) =
      let own = with_asked asked operand in
      record { plan = physical_outside own.plan; rest = own.rest }
  test_with_asked asked (physical_number compare number) =
      record { plan = physical_number compare number; rest = asked }
