-- The contract of a load from the outcomes of its steps: the listing of the files, the reading of them, and what is
-- made of the release.
use Rattle.std.proofs.Common.{arith, ℕ, ◌≡◌, ◌+◌, ◌≤◌, ◌⊎◌, inl, inr, true, false, List, Option, None, Some}
use Rattle.std.proofs.Common.{Result, Ok, Err, IfErr, IfOk, refl, sym, ap, subst, ◌∙◌}
use Rattle.std.specs.Prelude.{IfSome}
use Rattle.std.proofs.lemmas.Bool.{true≢false}
use Rattle.release_files.specs.Source.{FileText, History}
use Rattle.row_lists.specs.declared.fault.LoadFault.{LoadFault}
use Rattle.row_lists.specs.declared.fault.LoadFault.TheVariants.{Memory}
use Rattle.held_release.specs.Contents.{Contents, IsFaultOf}
use Rattle.release_rows.specs.Limits.{limits_in_force}
use Rattle.release_rows.specs.Pieces.{AreInOrder, IsUnlisted, ListsNames, listed}
use Rattle.release_rows.specs.DeviceFaults.{FailsOnlyAt, RaisesOnlyAtDevice, ReadsWithin, is_device}
use Rattle.release_rows.specs.declared.limits.Limits.{Limits}
use Rattle.release_rows.proofs.TakingLemmas.{at_told, fails_since, if_told}
use Rattle.snapshot.specs.Load.{load_of}
use Rattle.snapshot.specs.Loading.{IsLoadOf, IsLoadedFrom, told_of}

-- if the names were listed in order, a release of the named files is a result that the load may have
whole : (told : Option (List FileText)) (limits : Limits) (language : List ℕ) (names : List (List ℕ))
    (contents : Contents) → IfSome told (λ known. AreInOrder known names)
    → IfSome told (λ known. load_of limits language (listed known names) ≡ Ok contents)
    → IfSome told (λ known. IsLoadOf known limits language names (Ok contents))
whole None limits language names contents order loads = tt
whole (Some known) limits language names contents order loads = (order, loads)

-- if the names were listed in order, a fault of the named files is a result that the load may have
faulty : (told : Option (List FileText)) (limits : Limits) (language : List ℕ) (names : List (List ℕ))
    (fault : LoadFault) → IfSome told (λ known. AreInOrder known names)
    → IfSome told (λ known. is_device fault ≡ false
    → IsFaultOf fault (load_of limits language (listed known names)))
    → IfSome told (λ known. IsLoadOf known limits language names (Err fault))
faulty None limits language names fault order said = tt
faulty (Some known) limits language names fault order said = λ other own. (order, said own other)

-- if the names were listed in order, they are those of the files, or the listing failed
in_order : (told : Option (List FileText)) (names : List (List ℕ)) (now : History)
    (loaded : Result Contents LoadFault) → IfSome told (λ known. AreInOrder known names)
    → IfSome told (λ known. AreInOrder known names ⊎ IsUnlisted loaded names now)
in_order None names now loaded order = tt
in_order (Some known) names now loaded order = inl order

-- a load meets its contract if its source listed the names, which took it from the history `old` to `middle`, and the
-- files of these names were read
pub loads_listed : (told : Option (List FileText)) (old middle new : History) (limits : Limits) (language : List ℕ)
    (names : List (List ℕ)) (loaded : Result Contents LoadFault)
    → IfSome told (λ known. AreInOrder known names) → middle.failures ≡ old.failures → middle.most ≤ old.most
    → IfSome told (λ known. IfOk loaded (λ contents. load_of limits language (listed known names) ≡ Ok contents))
    → IfSome told (λ known. IfErr loaded (λ fault. is_device fault ≡ false
    → IsFaultOf fault (load_of limits language (listed known names))))
    → FailsOnlyAt names loaded middle new → RaisesOnlyAtDevice loaded middle new
    → ReadsWithin ((limits_in_force limits).bytes + 1) middle new
    → IsLoadedFrom told old new limits language names loaded
loads_listed told old middle new limits language names (Ok contents) order same less loads said failed raised within =
    record {
      loaded = whole told limits language names contents order loads;
      named = in_order told names new (Ok contents) order;
      device = record { failed = tt; failure_is_device = raised ∙ same };
      bounded = let read = within.0 in omega arith;
    }
loads_listed told old middle new limits language names (Err fault) order same less loads said failed raised within =
    record {
      loaded = faulty told limits language names fault order said;
      named = in_order told names new (Err fault) order;
      device = record {
        failed = λ device. inr (fails_since names names old middle new fault refl same (failed device));
        failure_is_device = λ own. raised own ∙ same;
      };
      bounded = let read = within.0 in omega arith;
    }

-- a load meets its contract if its source did not list the names
pub loads_unlisted : (told : Option (List FileText)) (old new : History) (limits : Limits) (language : List ℕ)
    (names : List (List ℕ)) (fault : LoadFault) → ListsNames {T = Unit {0}} told (Err fault) names old new
    → new.most ≤ old.most → IsLoadedFrom told old new limits language names (Err fault)
loads_unlisted told old new limits language names fault (inl fails) less =
    let at_device : is_device fault ≡ true = ap is_device fails.at_no_file in record {
      loaded = if_told _ told (λ known is other own. absurd (true≢false (sym at_device ∙ own)));
      named = if_told _ told (λ known is. inr (fails.no_names, fails.unlisted, inl fails.at_no_file));
      device = record {
        failed = λ device. inl fails;
        failure_is_device = λ own. absurd (true≢false (sym at_device ∙ own));
      };
      bounded = omega arith;
    }
loads_unlisted told old new limits language names fault (inr (memory, none, unlisted, same)) less =
    let not_device : is_device fault ≡ false = ap is_device memory in record {
      loaded = if_told _ told (λ known is other own. absurd (other memory));
      named = if_told _ told (λ known is. inr (none, unlisted, inr memory));
      device = record {
        failed = λ device. absurd (true≢false (sym device ∙ not_device));
        failure_is_device = λ own. same;
      };
      bounded = omega arith;
    }

-- a load that meets its contract still does if the same release is handed on, or memory is refused in its place
pub loads_on : (told : Option (List FileText)) (old new : History) (limits : Limits) (language : List ℕ)
    (names : List (List ℕ)) (contents : Contents) (loaded : Result Contents LoadFault)
    → IsLoadedFrom told old new limits language names (Ok contents)
    → IfOk loaded (λ one. one ≡ contents) → IfErr loaded (λ fault. fault ≡ Memory)
    → IsLoadedFrom told old new limits language names loaded
loads_on told old new limits language names contents (Ok one) loads same memory =
    subst (λ one. IsLoadedFrom told old new limits language names (Ok one)) (sym same) loads
loads_on told old new limits language names contents (Err fault) loads same memory =
    let not_device : is_device fault ≡ false = ap is_device memory in record {
      loaded = if_told _ told (λ known is other own. absurd (other memory));
      named = if_told _ told (λ known is. ordered (at_told _ told known is loads.named));
      device = record {
        failed = λ device. absurd (true≢false (sym device ∙ not_device));
        failure_is_device = λ own. loads.device.failure_is_device;
      };
      bounded = loads.bounded;
    }
  where
    ordered : {known : List FileText} → AreInOrder known names ⊎ ⊥
        → AreInOrder known names ⊎ IsUnlisted {X = Contents} (Err fault) names new
    ordered (inl order) = inl order
    ordered (inr none) = absurd none

-- the result of a load tells itself
pub told_same : {X : Type 0} (loaded : Result X LoadFault) → told_of (λ release. release) loaded ≡ loaded
told_same (Ok release) = refl
told_same (Err fault) = refl
