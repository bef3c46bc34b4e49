-- The result of reading the files of a release: lists made of the chosen rows, and the number of
-- rows.
use Rattle.std.specs.Prelude.{◌≡◌, ◌≤◌, ℕ, List, [], length, map, None, Some}
use Rattle.release_rows.specs.Chosen.{chosen}
use Rattle.release_rows.specs.Faults.{first_fault}
use Rattle.release_rows.specs.Files.{Place, rows_of, text_of_row}
use Rattle.release_rows.specs.Limits.{row_total}
use Rattle.row_lists.specs.ListsRead.{unmarked}
use Rattle.row_lists.specs.ReleaseLists.{ReleaseLists, listed_of}
use Rattle.row_lists.specs.declared.fault.LoadFault.{LoadFault}
use Rattle.release_rows.specs.declared.limits.Limits.{Limits}

-- the places have no fault and `count` rows, and `listed` are the lists made of the chosen rows
pub record IsReadFrom (limits : Limits) (places : List Place) (count : ℕ) (listed : ReleaseLists) :
    Type 0 where
  -- no place has a fault
  pub clean : first_fault limits [] places ≡ None
  -- `count` is the number of rows
  pub count_is : count ≡ length (rows_of places)
  -- there are no more rows than the limits allow
  pub few : count ≤ row_total limits
  -- the lists are those of the chosen rows, if the marks on their items are ignored
  pub lists : unmarked listed ≡ unmarked (listed_of (map text_of_row (chosen (rows_of places))))

-- `fault` is the first fault of the places under `limits`
abbrev pub HasFirstFault : Limits → List Place → LoadFault → Type 0
HasFirstFault limits places fault = first_fault limits [] places ≡ Some fault
