-- What is known of the name of a dotted attribute, and of an estimate before a plan is executed.
use Rattle.std.specs.Prelude.{ℕ, ◌≡◌, ◌==◌, ◌&&◌, List, None, length}
use Rattle.release_model.specs.Release.{Release}
use Rattle.set_algebra.specs.Meaning.{means}
use Rattle.constraint_tree.specs.Walks.{has_concept}
use Rattle.set_algebra.specs.Plan.{Plan, empty_plan, all_plan, one_plan, walk_plan, members_plan, and_plan, or_plan}
use Rattle.set_algebra.specs.Plan.{minus_plan, values_plan, pairs_plan, groups_plan}
use Rattle.candidates.specs.RowEstimates.{Adds, Estimate}
use Rattle.candidates.specs.Numbers.{numbers_in}

-- a set with `items` and `bound` is the set of the numbers of the concepts that `plan` means
pub record HasNamed (release : Release) (plan : Plan) (items : List ℕ) (bound : ℕ) : Type 0 where
  -- the items are the numbers of the concepts that the plan means
  pub items_are : items ≡ numbers_in release (means release plan)
  -- the bound is the number of concepts
  pub bound_is : bound ≡ length release.concepts

-- how `estimate_named` changes an estimate before a plan is executed: for a plan of one concept,
-- that concept's rows are added; for a walk or an OR nothing changes; for any other plan the number
-- of rows becomes unknown
abbrev pub AddsNamed : Release → Plan → Estimate → Estimate → Type 0
AddsNamed release (one_plan id) early late = Adds
    (numbers_in release (λ concept. has_concept release concept && (concept == id))) early late
AddsNamed release (walk_plan operator operand) early late = late ≡ early
AddsNamed release (or_plan parts) early late = late ≡ early
AddsNamed release empty_plan early late = late ≡ record early { rows = None }
AddsNamed release all_plan early late = late ≡ record early { rows = None }
AddsNamed release (members_plan operand) early late = late ≡ record early { rows = None }
AddsNamed release (and_plan parts) early late = late ≡ record early { rows = None }
AddsNamed release (minus_plan first second) early late = late ≡ record early { rows = None }
AddsNamed release (values_plan start names) early late = late ≡ record early { rows = None }
AddsNamed release (pairs_plan back count types test) early late =
    late ≡ record early { rows = None }
AddsNamed release (groups_plan count units) early late = late ≡ record early { rows = None }
