-- Which concepts a hierarchy operator finds for a set of concepts (Expression Constraint Language,
-- "Simple Expression Constraints"). A set is given as the test whether a concept is in it.
use Rattle.std.specs.Prelude.{ℕ, ◌↔◌, ◌==◌, ◌&&◌, ◌||◌, Bool, not, IsTrue, Contains}
use Rattle.std.specs.List.{list_any}
use Rattle.release_model.specs.Release.{Release}
use Rattle.hierarchy.specs.Hierarchy.{Reaches, reaches}
use Rattle.constraint_tree.specs.declared.operator.Operator.{Operator}
use Rattle.constraint_tree.specs.declared.operator.Operator.TheVariants.{Descendants, DescendantsOrSelf, Children}
use Rattle.constraint_tree.specs.declared.operator.Operator.TheVariants.{ChildrenOrSelf, Ancestors, AncestorsOrSelf}
use Rattle.constraint_tree.specs.declared.operator.Operator.TheVariants.{Parents, ParentsOrSelf, Top, Bottom}

-- whether `concept` is in force in the release
abbrev pub has_concept : Release → ℕ → Bool
has_concept release concept = list_any (λ found. found == concept) release.concepts

-- whether there is an is-a row from `child` to `parent`
abbrev pub is_child : Release → ℕ → ℕ → Bool
is_child release child parent = list_any (λ row. (row.0 == child) && (row.1 == parent)) release.isa

-- whether at least one concept in force is in the set and passes `test`
abbrev pub some_member : Release → (ℕ → Bool) → (ℕ → Bool) → Bool
some_member release set test = list_any (λ member. set member && test member) release.concepts

-- whether a chain of is-a rows leads from `concept` up to a member of the set
abbrev pub is_below : Release → (ℕ → Bool) → ℕ → Bool
is_below release set concept =
    some_member release set (λ member. reaches release.isa concept member)

-- whether a chain of is-a rows leads from a member of the set up to `concept`
abbrev pub is_above : Release → (ℕ → Bool) → ℕ → Bool
is_above release set concept =
    some_member release set (λ member. reaches release.isa member concept)

-- whether `concept` is a child of a member of the set
abbrev pub is_just_below : Release → (ℕ → Bool) → ℕ → Bool
is_just_below release set concept =
    some_member release set (λ member. is_child release concept member)

-- whether `concept` is a parent of a member of the set
abbrev pub is_just_above : Release → (ℕ → Bool) → ℕ → Bool
is_just_above release set concept =
    some_member release set (λ member. is_child release member concept)

-- whether the hierarchy operator finds `concept` for the set. `!!>` finds the members that are
-- below no member, and `!!<` those that are above no member, however many is-a rows lie between
-- (this project's choice)
abbrev pub walks : Release → Operator → (ℕ → Bool) → ℕ → Bool
walks release Descendants set concept = is_below release set concept
walks release DescendantsOrSelf set concept = set concept || is_below release set concept
walks release Children set concept = is_just_below release set concept
walks release ChildrenOrSelf set concept = set concept || is_just_below release set concept
walks release Ancestors set concept = is_above release set concept
walks release AncestorsOrSelf set concept = set concept || is_above release set concept
walks release Parents set concept = is_just_above release set concept
walks release ParentsOrSelf set concept = set concept || is_just_above release set concept
walks release Top set concept = set concept && not (is_below release set concept)
walks release Bottom set concept = set concept && not (is_above release set concept)

-- `has_concept` holds exactly for the concepts of the release
abbrev pub TellsInForce : Type 0
TellsInForce = (release : Release) (concept : ℕ)
    → IsTrue (has_concept release concept) ↔ Contains release.concepts concept

-- `is_below` holds exactly for the concepts from which a chain of is-a rows leads up to a member of
-- the set that is in force
abbrev pub TellsBelow : Type 0
TellsBelow =
    (release : Release) (set : ℕ → Bool) (concept : ℕ) →
    IsTrue (is_below release set concept)
    ↔ ((member : ℕ) × Contains release.concepts member × IsTrue (set member)
    × Reaches release.isa concept member)

-- `is_above` holds exactly for the concepts to which a chain of is-a rows leads up from a member of
-- the set that is in force
abbrev pub TellsAbove : Type 0
TellsAbove =
    (release : Release) (set : ℕ → Bool) (concept : ℕ) →
    IsTrue (is_above release set concept)
    ↔ ((member : ℕ) × Contains release.concepts member × IsTrue (set member)
    × Reaches release.isa member concept)

-- `is_child` holds of two concepts exactly if the release has the is-a row from the first to the
-- second
abbrev pub TellsChild : Type 0
TellsChild = (release : Release) (child parent : ℕ)
    → IsTrue (is_child release child parent) ↔ Contains release.isa (child, parent)
