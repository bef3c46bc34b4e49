use Rattle.std.proofs.Common.{◌≡◌, ◌∙◌, Ok, ap, codes, map}
use Rattle.std.proofs.lemmas.Result.{IfOk-weaker, IfErr-weaker}
use Rattle.release_files.specs.Source.{file_text}
use Rattle.held_release.specs.Contents.{IsFaultOf}
use Rattle.snapshot.specs.Load.{load_of}
use Rattle.release_rows.specs.declared.limits.Limits.{Limits}
use Rattle.sample_release.specs.SampleContents.{sample_contents}
use Rattle.query_service.proofs.ServeLemmas.{same_contents, same_fault}
use Rattle.query_service.proofs.service.sample_engine.Goals as goal

-- the engine holds the built-in release
pub returns-clause-ok : goal.returns-clause-ok
returns-clause-ok g c =
    let files = map file_text c.sample_files.result in
    let loaded = load_of c.standard.result (codes "en") files in
    let contents = g.Q.QueryEngine.contents in
    IfOk-weaker c.load.result (λ engine. loaded ≡ Ok (contents engine)) (λ engine. contents engine ≡ sample_contents)
    (λ engine. same_contents loaded sample_contents (contents engine)
    (ap (λ (limits : Limits). load_of limits (codes "en") files) c.standard.ensures ∙ c.sample_files.ensures.release))
    c.load.ensures.ok

-- each fault is one of the built-in release
pub returns-clause-err : goal.returns-clause-err
returns-clause-err g c =
    let files = map file_text c.sample_files.result in
    let loaded = load_of c.standard.result (codes "en") files in
    IfErr-weaker c.load.result (λ fault. IsFaultOf fault loaded) (λ fault. IsFaultOf fault (Ok sample_contents))
    (λ fault. same_fault loaded sample_contents fault
    (ap (λ (limits : Limits). load_of limits (codes "en") files) c.standard.ensures ∙ c.sample_files.ensures.release))
    c.load.ensures.err
