-- The contract of a load: what loading the files of a source gives, and what it does with the source.
use Rattle.std.specs.Prelude.{ℕ, ◌≡◌, ◌≢◌, ◌⊎◌, ◌+◌, ◌≤◌, true, false, List, max}
use Rattle.std.specs.Prelude.{IfErr, IfSome, Option, Result, Ok, Err}
use Rattle.std.specs.Result.{result_map_both}
use Rattle.release_files.specs.Source.{FileText, History}
use Rattle.row_lists.specs.declared.fault.LoadFault.{LoadFault}
use Rattle.row_lists.specs.declared.fault.LoadFault.TheVariants.{Memory}
use Rattle.held_release.specs.Contents.{Contents}
use Rattle.release_rows.specs.Limits.{limits_in_force}
use Rattle.release_rows.specs.Pieces.{AreInOrder, FailsToList, IsUnlisted, listed}
use Rattle.release_rows.specs.DeviceFaults.{FailsAtOneOf, RaisesOnlyAtDevice, is_device}
use Rattle.release_rows.specs.declared.limits.Limits.{Limits}
use Rattle.snapshot.specs.Load.{load_of}

-- the result that loading the `known` files within `limits` may have, in the byte order of their
-- names: their release, or their first fault; or memory was refused, or the device failed
abbrev pub IsLoadOf : List FileText → Limits → List ℕ → List (List ℕ) → Result Contents LoadFault
    → Type 0
IsLoadOf known limits language names (Ok contents) =
    AreInOrder known names × (load_of limits language (listed known names) ≡ Ok contents)
IsLoadOf known limits language names (Err fault) =
    fault ≢ Memory → is_device fault ≡ false
    → AreInOrder known names × (load_of limits language (listed known names) ≡ Err fault)

-- the source has counted a failure if the load failed because of the device, and none otherwise;
-- `old` and `new` are its history before and after
pub record CountsDevice (old new : History) (names : List (List ℕ))
    (loaded : Result Contents LoadFault) : Type 0 where
  -- if the load failed because of the device, the source failed to list the files or to read one of
  -- them
  pub failed : IfErr loaded (λ fault. is_device fault ≡ true
      → FailsToList old new names fault ⊎ FailsAtOneOf names old new fault)
  -- the source has counted no other failure
  pub failure_is_device : RaisesOnlyAtDevice loaded old new

-- the files of a source were loaded within `limits`, with names in `language` preferred; `told` are
-- the files if the source tells them, and `old` and `new` are its history before and after. Either
-- it listed the names in byte order, or the listing failed and there are no names
pub record IsLoadedFrom (told : Option (List FileText)) (old new : History) (limits : Limits)
    (language : List ℕ) (names : List (List ℕ)) (result : Result Contents LoadFault)
    : Type 0 where
  -- if the source tells its files, the result is one that loading them may have
  pub loaded : IfSome told (λ known. IsLoadOf known limits language names result)
  -- the names are those of the files in byte order, or the listing failed
  pub named : IfSome told (λ known. AreInOrder known names ⊎ IsUnlisted result names new)
  -- the source has counted one failure if the device failed, otherwise none
  pub device : CountsDevice old new names result
  -- no file was read further than one byte beyond the limit
  pub bounded : new.most ≤ max old.most ((limits_in_force limits).bytes + 1)

-- the result of a load, with what `tells` tells of the release in place of the release
abbrev pub told_of : {X Y : Type 0} → (X → Y) → Result X LoadFault → Result Y LoadFault
told_of tells result = result_map_both tells (λ fault. fault) result
