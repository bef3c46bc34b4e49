use Rattle.std.proofs.Common.{subst}
use Rattle.std.specs.List.Sorted.{IsStrictlyIncreasing}
use Rattle.std.proofs.lemmas.List.Kept.{IsStrictlyIncreasing-filter}
use Rattle.std.proofs.lemmas.Result.{on_ok_weaker}
use Rattle.constraint_tree.specs.Denotation.{denotation, denotes}
use Rattle.held_release.specs.Contents.{Contents}
use Rattle.query_tool.proofs.LimitLemmas.{counted_answers, found_answers, same_counted}
use Rattle.query_tool.proofs.PromiseLemmas.{limited_answer_said, same_said}
use Rattle.query_tool.proofs.engine.Engine.answer_within.Goals as goal

-- the printed text answers the line under the limit, with the visits counted
pub returns-clause-ok : goal.returns-clause-ok
returns-clause-ok c =
    let early = c.args.visits.now.count in
    let late = c.found_within.new.visits.count in
    let counted = found_answers _ c.args.limit c.args.form c.self.inside.snapshot c.self.inside.indexes
    c.self.invariant.1 c.args.line.now early late c.in_ok-found.found c.in_ok-found.ensures.found in
    on_ok_weaker c.print_and_drop.result
    (λ printed. (_, same_counted c.args.limit c.args.form c.args.line.now early late _ c.self.view_is counted, printed))
    c.print_and_drop.ensures.ok

-- the printed text answers the line under the limit in the words of the promise
pub returns-clause-promised : goal.returns-clause-promised
returns-clause-promised c =
    let early = c.args.visits.now.count in
    let late = c.found_within.new.visits.count in
    let own = c.self.inside.snapshot in
    let counted = found_answers _ c.args.limit c.args.form own c.self.inside.indexes c.self.invariant.1
    c.args.line.now early late c.in_ok-found.found c.in_ok-found.ensures.found in
    let said = limited_answer_said c.args.limit c.args.form own c.self.invariant.0 c.args.line.now _
    (counted_answers c.args.limit c.args.form own c.args.line.now early late _ counted) in
    on_ok_weaker c.print_and_drop.result
    (λ printed. (_, same_said c.args.limit c.args.form c.args.line.now _ c.self.view_is said, printed))
    c.print_and_drop.ensures.ok

-- the concepts that a constraint denotes rise, because those of the release do
pub returns-clause-rising : goal.returns-clause-rising
returns-clause-rising c = λ tree.
    subst (λ (contents : Contents). IsStrictlyIncreasing (denotation contents.release tree)) c.self.view_is
    (IsStrictlyIncreasing-filter (denotes c.self.inside.snapshot.release tree)
    c.self.inside.snapshot.release.concepts c.self.invariant.0)

-- the concepts that a constraint denotes rise, also if memory was refused
pub returns-in_err-found-clause-rising : goal.returns-in_err-found-clause-rising
returns-in_err-found-clause-rising c = λ tree.
    subst (λ (contents : Contents). IsStrictlyIncreasing (denotation contents.release tree)) c.self.view_is
    (IsStrictlyIncreasing-filter (denotes c.self.inside.snapshot.release tree)
    c.self.inside.snapshot.release.concepts c.self.invariant.0)
