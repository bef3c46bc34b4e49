-- The contents of a loaded release, and the fault of a hierarchy with a cycle.
use Rattle.std.specs.Prelude.{◌↔◌, ◌<◌, Contains, ℕ, ◌≡◌, ◌≢◌, List, find, Option, None, Some, Result, Ok, Err}
use Rattle.std.specs.List.Sorted.{IsStrictlyIncreasing}
use Rattle.hierarchy.specs.Hierarchy.{Reaches, reaches}
use Rattle.release_model.specs.Release.{Release}
use Rattle.row_lists.specs.declared.fault.LoadFault.{LoadFault}
use Rattle.row_lists.specs.declared.fault.LoadFault.TheVariants.{Cycle, Memory}

-- the contents of a snapshot: a release, its inactive concepts, the preferred language, and the
-- counts of files and of rows that were passed over
pub record Contents : Type 0 where
  -- the rows in force
  pub release : Release
  -- the identifiers of the concepts whose chosen row is inactive, in rising order
  pub inactive : List ℕ
  -- the code of the preferred language
  pub language : List ℕ
  -- how many files are Snapshot files of some kind by their names
  pub files : ℕ
  -- how many rows are in none of the release's lists
  pub passed : ℕ

-- the first of `concepts` that is its own descendant by the is-a rows `isa`, if there is one
abbrev pub first_cyclic : List ℕ → List (ℕ × ℕ) → Option ℕ
first_cyclic concepts isa = find (λ concept. reaches isa concept concept) concepts

-- the least concept of a release that is its own descendant by is-a rows, if there is one
abbrev pub least_cyclic : Release → Option ℕ
least_cyclic release = first_cyclic release.concepts release.isa

-- the contents, or the fault `Cycle` if there is a concept that is its own descendant
abbrev pub unless_cyclic : Contents → Option ℕ → Result Contents LoadFault
unless_cyclic contents None = Ok contents
unless_cyclic contents (Some concept) = Err (Cycle concept)

-- a fault that a load may return if its result should be `loaded`: that fault, or want of memory
abbrev pub IsFaultOf : LoadFault → Result Contents LoadFault → Type 0
IsFaultOf fault loaded = fault ≢ Memory → loaded ≡ Err fault

-- if the concepts of a release are in rising order, `least_cyclic` is the least concept with a
-- chain of is-a rows back to itself, and it is none exactly if no concept has such a chain
abbrev pub NamesLeastCyclic : Type 0
NamesLeastCyclic =
    (release : Release) → IsStrictlyIncreasing release.concepts
    → ((concept : ℕ) → (least_cyclic release ≡ Some concept) ↔
    (Contains release.concepts concept × Reaches release.isa concept concept
    × ((lesser : ℕ) → Contains release.concepts lesser → lesser < concept
    → ¬ Reaches release.isa lesser lesser)))
    × ((least_cyclic release ≡ None) ↔
    ((concept : ℕ) → Contains release.concepts concept → ¬ Reaches release.isa concept concept))
