use Rattle.std.proofs.Common.{ℕ, List, Option, Result, subst, sym}
use Rattle.release_files.specs.Source.{FileText, History}
use Rattle.held_release.specs.Contents.{Contents}
use Rattle.row_lists.specs.declared.fault.LoadFault.{LoadFault}
use Rattle.release_rows.specs.declared.limits.Limits.{Limits}
use Rattle.snapshot.specs.Loading.{IsLoadedFrom, told_of}
use Rattle.snapshot.proofs.LoadingLemmas.{told_same}
use Rattle.query_tool.proofs.serving.EngineQueryEngine.load_from.Goals as goal

-- a load of an engine, whose contents are what it stands for, is a load of its contents
loads_contents : (told : Option (List FileText)) (old new : History) (limits : Limits) (language : List ℕ)
    (names : List (List ℕ)) (loaded : Result Contents LoadFault)
    → IsLoadedFrom told old new limits language names loaded
    → IsLoadedFrom told old new limits language names (told_of (λ release. release) loaded)
loads_contents told old new limits language names loaded =
    subst (IsLoadedFrom told old new limits language names) (sym (told_same loaded))

-- the contents of the engine are what it stands for
pub returns : goal.returns
returns g c = loads_contents _ _ _ _ _ _ c.load_from.result c.load_from.ensures.loads
