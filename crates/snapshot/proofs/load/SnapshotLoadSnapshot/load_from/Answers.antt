use Rattle.std.proofs.Common.{◌≡◌, Global, List, Ok, String, map, string_bytes, subst}
use Rattle.std.proofs.Common.{IfErr, IfOk}
use Rattle.std.specs.Prelude.{IfSome, Option, false}
use Rattle.release_files.specs.Source.{FileText}
use Rattle.release_rows.specs.DeviceFaults.{FailsOnlyAt, is_device}
use Rattle.held_release.specs.Contents.{IsFaultOf}
use Rattle.snapshot.specs.Load.{load_of}
use Rattle.release_rows.specs.Pieces.{listed}
use Rattle.snapshot.proofs.LoadingLemmas.{loads_listed, loads_unlisted}
use Rattle.snapshot.proofs.load.SnapshotLoadSnapshot.load_from.Goals as goal

-- the names were listed, and the files of these names were loaded
pub returns-in-Ok-clause-loads : goal.returns-in-Ok-clause-loads
returns-in-Ok-clause-loads g c =
    let told : Option (List FileText) = g.S.FileSource.files c.args.source.now in
    let load : Option (List FileText) → List (String Global) → Type 0 = λ known names. IfSome known (λ files.
    IfOk c.load_named.result (λ snapshot. load_of c.args.limits c.args.lang.now
    (listed files (map string_bytes names)) ≡ Ok snapshot)) in
    let fault : Option (List FileText) → List (String Global) → Type 0 = λ known names. IfSome known (λ files.
    IfErr c.load_named.result (λ fault. is_device fault ≡ false → IsFaultOf fault
    (load_of c.args.limits c.args.lang.now (listed files (map string_bytes names))))) in
    let device : List (String Global) → Type 0 = λ names. FailsOnlyAt (map string_bytes names) c.load_named.result
    (g.S.FileSource.history c.list_names.new.source) (g.S.FileSource.history c.load_named.new.source) in
    loads_listed told (g.S.FileSource.history c.args.source.now) (g.S.FileSource.history c.list_names.new.source)
    (g.S.FileSource.history c.load_named.new.source) c.args.limits c.args.lang.now
    (map string_bytes c.list_names.new.names.items) c.load_named.result c.in-Ok.ensures.listed.0
    c.in-Ok.ensures.listed.1 c.in-Ok.ensures.taken
    (subst (load told) c.as_slice.ensures.value
    (subst (λ known. load known c.as_slice.result.now) c.in-Ok.ensures.files c.load_named.ensures.ok))
    (subst (fault told) c.as_slice.ensures.value
    (subst (λ known. fault known c.as_slice.result.now) c.in-Ok.ensures.files c.load_named.ensures.err))
    (subst device c.as_slice.ensures.value c.load_named.ensures.device)
    c.load_named.ensures.failure_is_device c.load_named.ensures.bounded

-- the names could not be listed
pub returns-in-Err-clause-loads : goal.returns-in-Err-clause-loads
returns-in-Err-clause-loads g c = loads_unlisted (g.S.FileSource.files c.args.source.now)
    (g.S.FileSource.history c.args.source.now) (g.S.FileSource.history c.list_names.new.source) c.args.limits
    c.args.lang.now (map string_bytes c.list_names.new.names.items) c.in-Err.fault c.in-Err.ensures.listed
    c.in-Err.ensures.taken
