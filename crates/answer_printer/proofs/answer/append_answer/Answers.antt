use Rattle.std.proofs.Common.{◌≡◌, ◌++◌, ◌∙◌, List, ℕ, ap, append_assoc, map, refl}
use Rattle.std.proofs.lemmas.Result.{on_ok_weaker}
use Rattle.std.specs.Prelude.{slice_index}
use Rattle.std.specs.List.{flat_map}
use Rattle.held_release.specs.Name.{name_of}
use Rattle.held_release.specs.Line.{concept_line}
use Rattle.answer_printer.specs.AnswerText.{answer_head, shown_names}
use Rattle.answer_printer.proofs.AnswerLemmas.{lines_answer, shown_are_concepts}
use Rattle.answer_printer.proofs.answer.append_answer.Goals as goal

-- the shown concepts are below the count of concepts, so their room can be computed
pub room_of-requires : goal.room_of-requires
room_of-requires g c =
    shown_are_concepts _ _ c.args.form.offset c.args.form.first _ c.args.shown.now c.requires.shown
    (g.met.S.ConceptSet.rising c.args.set.now) c.requires.set

-- the shown concepts are below the count of concepts, so their lines can be appended
pub append_lines-requires : goal.append_lines-requires
append_lines-requires g c =
    shown_are_concepts _ _ c.args.form.offset c.args.form.first _ c.args.shown.now c.requires.shown
    (g.met.S.ConceptSet.rising c.args.set.now) c.requires.set

-- the head and the lines of the shown concepts are the answer
pub returns-clause-ok : goal.returns-clause-ok
returns-clause-ok g c =
    let release = c.args.snapshot.now.release in
    let name = name_of release c.args.snapshot.now.language in
    let given = c.args.output.now.items in
    let head = answer_head c.count.result in
    let lines = flat_map (concept_line (shown_names c.args.form.names name))
    (map (slice_index release.concepts) c.args.shown.now) in
    let begun : c.append_head.new.output.items ≡ given ++ head =
    c.in_ok-append_head.ensures.ok ∙ ap (λ (bytes : List ℕ). bytes ++ head) c.in_ok-reserve.ensures.items in
    let whole = lines_answer c.args.form name release.concepts (g.S.ConceptSet.items_of c.args.set.now) c.args.shown.now
    head c.count.result refl c.count.ensures c.requires.shown in
    on_ok_weaker c.append_lines.result
    (λ appended.
    appended
    ∙ ap (λ (bytes : List ℕ). bytes ++ lines) begun
    ∙ append_assoc given head lines
    ∙ ap (λ (text : List ℕ). given ++ text) whole) c.append_lines.ensures.ok
