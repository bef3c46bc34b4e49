-- The faults that are left once all rows were read without a fault.
use Rattle.std.proofs.Common.{ℕ, Bool, ◌≡◌, ◌≢◌, List, Option, None, Some, Result, Ok, Err, arith, false, refl}
use Rattle.release_files.specs.Source.{History}
use Rattle.row_lists.specs.ReleaseLists.{ReleaseLists}
use Rattle.row_lists.specs.declared.fault.LoadFault.{LoadFault}
use Rattle.row_lists.specs.declared.fault.LoadFault.TheVariants.{Cycle, Memory, NoConceptFile}
use Rattle.held_release.specs.Contents.{Contents, IsFaultOf, least_cyclic, unless_cyclic}
use Rattle.held_release.specs.Finished.{contents_from, finished, release_from}
use Rattle.release_rows.specs.DeviceFaults.{FailsAtRead, RaisesOnlyAtDevice, file_of, is_device}

-- the fault is no failure of the device, names no file, and is not `NoConceptFile`
pub record IsOfNoFile (fault : LoadFault) : Type 0 where
  -- the fault is not one of the device
  pub own : is_device fault ≡ false
  -- the fault names no file that failed
  pub kind : (reads : ℕ → Bool) → FailsAtRead reads fault
  -- the fault names no file
  pub named : file_of fault ≡ None
  -- the fault is not that there is no Concept file
  pub found : fault ≢ NoConceptFile

cycle-own : (fault : LoadFault) (contents : Contents) (cyclic : Option ℕ)
    → IsFaultOf fault (unless_cyclic contents cyclic) → IsOfNoFile fault
cycle-own Memory contents cyclic said =
    record { own = refl; kind = λ reads. tt; named = refl; found = λ same. cc }
cycle-own (Cycle concept) contents cyclic said =
    record { own = refl; kind = λ reads. tt; named = refl; found = λ same. cc }
cycle-own fault contents None said = absurd (grind arith)
cycle-own fault contents (Some concept) said = absurd (grind arith)

-- a fault of `finished`, which makes a release of the lists that were read, names no file (`IsOfNoFile`)
pub finished-own : (language : List ℕ) (files count : ℕ) (listed : ReleaseLists) (fault : LoadFault)
    → IsFaultOf fault (finished language files count listed) → IsOfNoFile fault
finished-own language files count listed fault said =
    cycle-own fault (contents_from language files count listed) (least_cyclic (release_from listed)) said

-- `RaisesOnlyAtDevice` holds of any result if the count of failures stays the same
pub raised_by_none : {T : Type 0} (old new : History) (result : Result T LoadFault)
    → new.failures ≡ old.failures → RaisesOnlyAtDevice result old new
raised_by_none old new (Ok done) same = same
raised_by_none old new (Err fault) same = λ other. same
