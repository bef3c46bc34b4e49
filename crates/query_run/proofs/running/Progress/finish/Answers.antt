use Rattle.std.proofs.Common.{◌≡◌, ℕ, ◌∷◌, ◌++◌, [], Bool, true, false, eqb, List, length, sym, ap, ◌∙◌, subst}
use Rattle.std.proofs.Common.{append-nil, arith}
use Rattle.std.proofs.lemmas.Bool.{eqb-true, eqb-false}
use Rattle.std.proofs.lemmas.List.{nil_from_length}
use Rattle.query_run.specs.Lines.{AreWritten, query_lines, HasNoFeed}
use Rattle.query_run.specs.Fault.{LeavesWritten}
use Rattle.query_run.proofs.LineLemmas.{query_lines-nil, query_lines_pending}
use Rattle.query_run.proofs.FaultLemmas.{answers_none}
use Rattle.query_run.proofs.running.Progress.finish.Goals as goal

-- no pending bytes are no query line
no_line : (line : List ℕ) (count : ℕ) (empty : Bool) → count ≡ length line → empty ≡ eqb count 0 → empty ≡ true
    → query_lines line ≡ []
no_line line count empty counted is holds =
    ap query_lines (nil_from_length line (sym counted ∙ eqb-true count 0 (sym is ∙ holds))) ∙ query_lines-nil

-- pending bytes that are not empty are one query line
one_line : (line : List ℕ) (count : ℕ) (empty : Bool) → count ≡ length line → empty ≡ eqb count 0 → empty ≡ false
    → HasNoFeed line → query_lines line ≡ (line ++ []) ∷ []
one_line line count empty counted is holds clear =
    let some : count ≡ 0 → ⊥ = eqb-false count 0 (sym is ∙ holds) in
    query_lines_pending line clear (omega arith) ∙ ap (λ (text : List ℕ). text ∷ []) (sym (append-nil line))

-- without pending bytes no line is added to the count
pub returns-then-is_empty-clause-count : goal.returns-then-is_empty-clause-count
returns-then-is_empty-clause-count g c =
    let pending = c.args.self.now.pending in
    let none = no_line pending.items _ c.is_empty.result pending.ok.0 c.is_empty.ensures c.if-is_empty.true in
    omega (arith, ap length none)

-- without pending bytes no answer is written
pub returns-then-is_empty-clause-answer : goal.returns-then-is_empty-clause-answer
returns-then-is_empty-clause-answer g c =
    let pending = c.args.self.now.pending in
    let none = no_line pending.items _ c.is_empty.result pending.ok.0 c.is_empty.ensures c.if-is_empty.true in
    let written = g.W.AnswerOutput.written c.args.output.now in
    subst (λ (lines : List (List ℕ)). AreWritten (g.A.AnswerLine.answers c.args.answerer.now) lines written written)
    (sym none) (answers_none (g.A.AnswerLine.answers c.args.answerer.now) written)

-- with pending bytes one line is added to the count
pub returns-in-Ok-clause-count : goal.returns-in-Ok-clause-count
returns-in-Ok-clause-count g c =
    let pending = c.args.self.now.pending in
    let one = one_line pending.items _ c.is_empty.result pending.ok.0 c.is_empty.ensures c.if-is_empty.false
    c.requires.unended in
    omega (arith, ap length one, c.in-Ok.ensures.answered)

-- the answer to the pending bytes is written
pub returns-in-Ok-clause-answer : goal.returns-in-Ok-clause-answer
returns-in-Ok-clause-answer g c =
    let pending = c.args.self.now.pending in
    let one = one_line pending.items _ c.is_empty.result pending.ok.0 c.is_empty.ensures c.if-is_empty.false
    c.requires.unended in
    let old = g.W.AnswerOutput.written c.args.output.now in
    let new = g.W.AnswerOutput.written c.answer_line.new.output in
    subst (λ (lines : List (List ℕ)). AreWritten (g.A.AnswerLine.answers c.args.answerer.now) lines old new) (sym one)
    c.in-Ok.ensures.answer

-- a fault of the answer to the pending bytes leaves what the run's fault says
pub returns-in-Err-clause-fault : goal.returns-in-Err-clause-fault
returns-in-Err-clause-fault g c =
    let pending = c.args.self.now.pending in
    let one = one_line pending.items _ c.is_empty.result pending.ok.0 c.is_empty.ensures c.if-is_empty.false
    c.requires.unended in
    let old = g.W.AnswerOutput.written c.args.output.now in
    let new = g.W.AnswerOutput.written c.answer_line.new.output in (
      c.in-Err.ensures.fault.0,
      subst (λ (lines : List (List ℕ)). LeavesWritten
          (g.A.AnswerLine.answers c.args.answerer.now) lines 0 c.in-Err.fault old new) (sym one)
          c.in-Err.ensures.fault.1,
    )
