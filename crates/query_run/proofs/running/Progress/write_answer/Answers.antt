use Rattle.std.proofs.Common.{◌≡◌, ◌++◌, List, ℕ, arith, subst}
use Rattle.std.proofs.lemmas.Grind.{common_steps}
use Rattle.std.specs.Io.KnownBytes.{Appends}
use Rattle.streams.specs.Waiting.{WritesFront}
use Rattle.streams.proofs.WaitingLemmas.{Puts-lost, Puts-written}
use Rattle.query_run.proofs.running.Progress.write_answer.Goals as goal

-- the output failed at what waited of the answer, so a front of the answer is written
pub returns-in-Err-flush-clause-fault : goal.returns-in-Err-flush-clause-fault
returns-in-Err-flush-clause-fault g c =
    let (text, is, put) = c.in-Ok.ensures.ok in
    let line : c.as_slice.result.now ≡ c.args.self.now.pending.items ++ c.args.line.now =
    grind (arith, common_steps) in (
      text,
      subst (λ (bytes : List ℕ). g.A.AnswerLine.answers c.args.answerer.now bytes text) line is,
      subst (λ (waited : List ℕ). WritesFront (g.W.AnswerOutput.written c.args.output.now)
          (g.W.AnswerOutput.written c.flush.new.output) (waited ++ text))
          c.requires.waiting
          (Puts-lost _ _ _ c.args.self.now.waiting text c.answer_line.new.output_buffer put c.in-Err-flush.ensures.err),
    )

-- the written part of the answer and what waited of it are the whole answer
pub returns-in-Ok-flush-clause-answer : goal.returns-in-Ok-flush-clause-answer
returns-in-Ok-flush-clause-answer g c =
    let (text, is, put) = c.in-Ok.ensures.ok in
    let line : c.as_slice.result.now ≡ c.args.self.now.pending.items ++ c.args.line.now =
    grind (arith, common_steps) in (
      text,
      subst (λ (bytes : List ℕ). g.A.AnswerLine.answers c.args.answerer.now bytes text) line is,
      subst (λ (waited : List ℕ). Appends (g.W.AnswerOutput.written c.args.output.now)
          (g.W.AnswerOutput.written c.flush.new.output) (waited ++ text))
          c.requires.waiting
          (Puts-written _ _ _ c.args.self.now.waiting text c.answer_line.new.output_buffer put
          c.in-Ok-flush.ensures.ok),
    )
