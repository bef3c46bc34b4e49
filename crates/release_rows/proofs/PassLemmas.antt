-- Reading places without a fault, apart from conflicts, and what follows for their first fault.
use Rattle.std.proofs.Common.{arith, ◌≡◌, ◌∙◌, List, [], ◌∷◌, ◌++◌, Option, None, append-nil, ap, refl, sym}
use Rattle.std.proofs.Common.{option_and_then, option_to_list}
use Rattle.std.proofs.lemmas.Bool.Decides.{nat_tests}
use Rattle.std.proofs.lemmas.Grind.{common_steps}
use Rattle.std.proofs.lemmas.List.Elements.{filter_map-append}
use Rattle.release_rows.specs.Faults.{crowd_after, fault_here, first_fault, first_of}
use Rattle.release_rows.specs.Files.{Place, RowAt, row_at, rows_of}
use Rattle.release_rows.specs.inside.FirstPass.{first_conflict}
use Rattle.row_lists.specs.declared.fault.LoadFault.{LoadFault}
use Rattle.release_rows.specs.declared.limits.Limits.{Limits}

-- the fault at `place` after the rows `earlier`, apart from conflicts
abbrev pub plain_at : Limits → List RowAt → Place → Option LoadFault
plain_at limits earlier place =
    first_of (fault_here limits place) (option_and_then (crowd_after limits earlier) (row_at place))

-- no place has a fault other than a conflict, if the rows of the first list come before the places
pub data IsPlain (limits : Limits) : List RowAt → List Place → Type 0 where
  plain_end : (earlier : List RowAt) → IsPlain limits earlier []
  plain_next : (earlier : List RowAt) (place : Place) (places : List Place) → plain_at limits earlier place ≡ None
      → IsPlain limits (earlier ++ option_to_list (row_at place)) places → IsPlain limits earlier (place ∷ places)

-- one more place adds its row, if it has one, to the rows of places
pub rows_of-push : (places : List Place) (place : Place)
    → rows_of (places ++ place ∷ []) ≡ rows_of places ++ option_to_list (row_at place)
rows_of-push places place = grind (arith, common_steps, nat_tests, filter_map-append)

-- if places have no fault apart from conflicts, their first fault is the first conflict of their rows
pub first_fault-plain : (limits : Limits) (front places : List Place) (earlier : List RowAt) → earlier ≡ rows_of front
    → IsPlain limits earlier places
    → first_fault limits front places ≡ first_conflict earlier (rows_of places)
first_fault-plain limits front [] earlier same plain = refl
first_fault-plain limits front (place ∷ places) earlier same (plain_next before at others clean rest) =
    grind (
      arith,
      common_steps,
      rows_of-push,
      append-nil,
      (first_fault-plain limits (front ++ place ∷ []) places (earlier ++ option_to_list (row_at place))
          (ap (λ (rows : List RowAt). rows ++ option_to_list (row_at place)) same ∙ sym (rows_of-push front place))
          rest),
    )
