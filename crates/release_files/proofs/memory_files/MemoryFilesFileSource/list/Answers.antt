-- The names that the source lists are those of the files.
use Rattle.std.proofs.Common.{ℕ, List, map, sym, ap, ◌∙◌}
use Rattle.std.proofs.lemmas.Simd.{map-map}
use Rattle.release_files.specs.Source.{FileText, file_text}
use Rattle.release_files.specs.MemorySource.{MemorySource}
use Rattle.release_files.proofs.memory_files.MemoryFilesFileSource.list.Goals as goal

-- the listed names are those of the files, in order
pub returns-in-Ok-clause-names : goal.returns-in-Ok-clause-names
returns-in-Ok-clause-names c =
    let names : MemorySource → List (List ℕ) = λ source. map (λ (file : FileText). file.name) source.files in
    c.in-Ok.ensures
    ∙ sym (map-map (λ file. file.name) file_text c.self-2.inside.files.now)
    ∙ ap names c.self-2.view_is
    ∙ ap (map (λ (file : FileText). file.name)) c.count_call.ensures.call.files
    ∙ ap names c.self.view_is
