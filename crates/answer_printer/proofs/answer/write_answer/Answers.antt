use Rattle.std.proofs.Common.{◌∙◌, List, ℕ, subst}
use Rattle.streams.specs.Waiting.{Puts}
use Rattle.held_release.specs.Name.{name_of}
use Rattle.answer_printer.proofs.AnswerLemmas.{lines_answer, shown_are_concepts}
use Rattle.answer_printer.proofs.answer.write_answer.Goals as goal

-- the shown concepts are below the count of concepts
pub put_answer-requires-clause-concepts : goal.put_answer-requires-clause-concepts
put_answer-requires-clause-concepts g c =
    let items = g.S.ConceptSet.items_of c.args.set.now in
    shown_are_concepts _ _ c.args.form.offset c.args.form.first items c.as_slice-2.result.now
    (c.as_slice-2.ensures.value ∙ c.in-Ok.ensures) (g.met.S.ConceptSet.rising c.args.set.now) c.requires.set

-- if the lines are put, the answer in the form is put
pub returns-in-Ok-put_answer-clause-ok : goal.returns-in-Ok-put_answer-clause-ok
returns-in-Ok-put_answer-clause-ok g c =
    let release = c.args.snapshot.now.release in
    let whole = lines_answer c.args.form (name_of release c.args.snapshot.now.language) release.concepts
    (g.S.ConceptSet.items_of c.args.set.now) c.as_slice-2.result.now c.as_slice.result.now c.count.result
    (c.as_slice.ensures.value ∙ c.in-Ok-head_line.ensures) c.count.ensures
    (c.as_slice-2.ensures.value ∙ c.in-Ok.ensures) in
    subst (λ (text : List ℕ). Puts (g.W.AnswerOutput.written c.args.output.now)
    (g.W.AnswerOutput.written c.put_answer.new.output) c.args.buffer.now text c.put_answer.new.buffer)
    whole c.in-Ok-put_answer.ensures.ok

-- if the output failed, a front of the answer was written
pub returns-clause-fault : goal.returns-clause-fault
returns-clause-fault g c =
    let release = c.args.snapshot.now.release in
    let whole = lines_answer c.args.form (name_of release c.args.snapshot.now.language) release.concepts
    (g.S.ConceptSet.items_of c.args.set.now) c.as_slice-2.result.now c.as_slice.result.now c.count.result
    (c.as_slice.ensures.value ∙ c.in-Ok-head_line.ensures) c.count.ensures
    (c.as_slice-2.ensures.value ∙ c.in-Ok.ensures) in
    (_, whole, c.in-Err-put_answer.ensures.err)
