use Rattle.std.proofs.Common.{◌∙◌, arith, drop, take}
use Rattle.answer_printer.proofs.AnswerLemmas.{most_shown}
use Rattle.answer_printer.proofs.form.AnswerForm.shown.Goals as goal

-- the list has the shown items, also if no number of them is asked for
pub returns : goal.returns
returns g c =
    let form = c.args.self.now in
    let items = g.S.ConceptSet.items_of c.args.set.now in
    most_shown form.offset form.first items c.in_ok-shown.shown.items
    (c.in_ok-shown.ensures ∙ (λ i. take (c.unwrap_or-most.ensures i) (drop form.offset items)))
    (omega arith)
