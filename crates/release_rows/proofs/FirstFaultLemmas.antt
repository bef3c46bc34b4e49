-- The first fault of a list of places, in the words of a reader.
use Rattle.std.proofs.Common.{◌≡◌, List, [], ◌∷◌, ◌++◌, Option, None, Some, refl, arith, inl, inr, ◌⊎◌, append_assoc}
use Rattle.std.proofs.Common.{append-nil}
use Rattle.release_rows.specs.Faults.{NamesFirstFault, fault_at, first_fault}
use Rattle.release_rows.specs.Files.{Place}
use Rattle.row_lists.specs.declared.fault.LoadFault.{LoadFault}
use Rattle.release_rows.specs.declared.limits.Limits.{Limits}
use Rattle.release_rows.proofs.WentLemmas.{first_fault-append}

option_cases : {X : Type 0} (o : Option X) → (o ≡ None) ⊎ ((x : X) × (o ≡ Some x))
option_cases None = inl refl
option_cases (Some x) = inr (x, refl)

-- the fault that `first_fault` finds stands at a place, and it finds none before that place
found_at : (limits : Limits) (seen places : List Place) (fault : LoadFault)
    → first_fault limits seen places ≡ Some fault
    → (before : List Place) × (place : Place) × (later : List Place)
    × (places ≡ before ++ place ∷ later) × (fault_at limits (seen ++ before) place ≡ Some fault)
    × (first_fault limits seen before ≡ None)
found_at limits seen [] fault found = (cc)
found_at limits seen (first ∷ rest) fault found = elim (option_cases (fault_at limits seen first)) [
  | inl none ↦
      let tail = found_at limits (seen ++ first ∷ []) rest fault (grind (arith, none)) in (
        first ∷ tail.0,
        tail.1,
        tail.2,
        grind (arith, tail.3),
        grind (arith, append_assoc, tail.4),
        grind
            (arith, none, tail.5),
      )
  | inr (other, is) ↦ ([], first, rest, refl, grind (arith, append-nil), refl)
]

-- `first_fault` finds the first fault of any list of places, and finds none exactly if no place has one
pub names_first_fault : NamesFirstFault
names_first_fault limits places = grind (arith, first_fault-append, found_at, option_cases)
