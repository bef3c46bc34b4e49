-- The fault of a release whose hierarchy has a cycle, by the numbers of concepts.
use Rattle.std.specs.Prelude.{ℕ, ◌≡◌, ◌<◌, List, length, slice_index}
use Rattle.hierarchy.specs.Hierarchy.{Reaches}
use Rattle.row_lists.specs.declared.fault.LoadFault.{LoadFault}
use Rattle.row_lists.specs.declared.fault.LoadFault.TheVariants.{Cycle, Memory}

-- the fault is `Cycle` with the identifier of the least concept that is its own descendant by
-- `rows`, which are pairs of numbers; or it is want of memory
abbrev pub IsLeastCycle : LoadFault → List ℕ → List (ℕ × ℕ) → Type 0
IsLeastCycle (Cycle id) concepts rows =
    (concept : ℕ) × (concept < length concepts) × (slice_index concepts concept ≡ id)
    × Reaches rows concept concept
    × ((lesser : ℕ) → lesser < concept → ¬ Reaches rows lesser lesser)
IsLeastCycle Memory concepts rows = Unit {0}
IsLeastCycle other concepts rows = ⊥
