-- Lemmas on the written answers to some lines, if more lines come before or after them.
use Rattle.std.proofs.Common.{◌≡◌, ℕ, ◌+◌, ◌<◌, Bool, false, Result, Ok, Err, OnOk, List, [], ◌∷◌, ◌++◌, length, take}
use Rattle.std.proofs.Common.{Option, refl, sym, ap, ◌∙◌, subst, append-nil, append_assoc, length-append, arith}
use Rattle.std.specs.Prelude.{is_err}
use Rattle.std.proofs.lemmas.Bool.{false≢true}
use Rattle.std.specs.Io.KnownBytes.{Appends}
use Rattle.std.proofs.KnownBytes.{Appends-nil, Appends-trans}
use Rattle.std.proofs.Math.Seq.{take-append-add}
use Rattle.std.proofs.lemmas.List.{take-append-le, get_or_append_left, get_or-append-add}
use Rattle.streams.specs.Waiting.{LeavesAnswer, is_write}
use Rattle.streams.specs.declared.fault.AnswerFault.{AnswerFault}
use Rattle.streams.specs.declared.fault.AnswerFault.TheVariants as answer
use Rattle.query_run.specs.Lines.{Answers, AreAnswers, AreWritten}
use Rattle.query_run.specs.Fault.{WritesFirst, WritesPart, LeavesWritten, IsAnswerFault, HaveFailed, CountsTurns}
use Rattle.query_run.specs.Fault.{AnswersEnded, run_fault_of, whole_answers}
use Rattle.query_run.specs.declared.running.RunFault.{RunFault}
use Rattle.query_run.specs.declared.running.RunFault.TheVariants.{Read, Write, Memory, Turns}

-- if `result` is no error, then what `OnOk result P` promises holds
pub on_ok_here : {T E : Type 0} {P : Type 0} (result : Result T E) → is_err result ≡ false → OnOk result P → P
on_ok_here (Ok done) not_failed holds = holds
on_ok_here (Err fault) not_failed holds = absurd (false≢true (sym not_failed))

module _ (answers : Answers) where
  -- if nothing is written, the answers to no lines are written
  pub answers_none : (written : Option (List ℕ)) → AreWritten answers [] written written
  answers_none written = ([], refl, Appends-nil written)

  -- if `text` answers `line` and is appended to the output, then the answers to the one line `line` are written
  pub answers_one : (before after : Option (List ℕ)) (line text : List ℕ) → answers line text
      → Appends before after text → AreWritten answers (line ∷ []) before after
  answers_one before after line text is wrote = (text, (text, [], is, refl, sym (append-nil text)), wrote)

  -- if `text` answers `lines` and `others` answers `more`, then `text ++ others` answers `lines ++ more`
  answers_append : (lines more : List (List ℕ)) (text others : List ℕ) → AreAnswers answers lines text
      → AreAnswers answers more others → AreAnswers answers (lines ++ more) (text ++ others)
  answers_append [] more text others none are =
      subst (λ (bytes : List ℕ). AreAnswers answers more (bytes ++ others)) (sym none) are
  answers_append (line ∷ lines) more text others (first, rest, is, are, joined) follow = (
    first,
    rest ++ others,
    is,
    answers_append lines more rest others are follow,
    ap (λ (bytes : List ℕ). bytes ++ others) joined ∙ append_assoc first rest others,
  )

  -- if the answers to `lines` and then those to `more` are written, then those to `lines ++ more` are written
  pub answers_then : (before mid after : Option (List ℕ)) (lines more : List (List ℕ))
      → AreWritten answers lines before mid → AreWritten answers more mid after
      → AreWritten answers (lines ++ more) before after
  answers_then before mid after lines more (text, are, wrote) (others, follow, wrote_more) = (
    text ++ others,
    answers_append lines more text others are follow,
    Appends-trans before mid after text others wrote wrote_more,
  )

  module _ (done lines : List (List ℕ)) (count : ℕ) (before mid after : Option (List ℕ)) where
    -- if the answers to `done` are written, and then the first `count` answers to `lines`, then the first `length
    -- done + count` answers to `done ++ lines` are written
    first_after : AreWritten answers done before mid → WritesFirst answers lines count mid after
        → WritesFirst answers (done ++ lines) (length done + count) before after
    first_after first writes = (
      omega (arith, length-append done lines, writes.0),
      subst (λ (found : List (List ℕ)). AreWritten answers found before after) (sym (take-append-add done lines count))
          (answers_then before mid after done (take count lines) first writes.1),
    )

    -- if the answers to `done` are written, and then `count` answers to `lines` and a proper prefix of the next, then
    -- the same holds for `done ++ lines` after `length done + count` answers
    part_after : AreWritten answers done before mid → WritesPart answers lines count mid after
        → WritesPart answers (done ++ lines) (length done + count) before after
    part_after (text, are, wrote) (whole, next, place, within, wholes, is, less, writes) = (
      text ++ whole,
      next,
      place,
      omega (arith, length-append done lines),
      subst (λ (found : List (List ℕ)). AreAnswers answers found (text ++ whole))
          (sym (take-append-add done lines count)) (answers_append done (take count lines) text whole are wholes),
      subst (λ (line : List ℕ). answers line next) (sym (get_or-append-add done lines count [])) is,
      less,
      subst (Appends before after) (sym (append_assoc text whole (take place next)))
          (Appends-trans before mid after text (whole ++ take place next) wrote writes),
    )

    -- if the answers to `done` are written, and a fault leaves `count` complete answers to `lines`, then it leaves
    -- `length done + count` complete answers to `done ++ lines`
    pub LeavesWritten_after : (fault : RunFault) → AreWritten answers done before mid
        → LeavesWritten answers lines count fault mid after
        → LeavesWritten answers (done ++ lines) (length done + count) fault before after
    LeavesWritten_after (Read answered) first writes = first_after first writes
    LeavesWritten_after (Write answered) first writes = part_after first writes
    LeavesWritten_after (Memory answered) first writes = first_after first writes
    LeavesWritten_after (Turns answered) first writes = first_after first writes

  module _ (lines more : List (List ℕ)) (count : ℕ) (before after : Option (List ℕ)) where
    -- if the first `count` answers to `lines` are written, the first `count` answers to `lines ++ more` are written
    first_of_more : WritesFirst answers lines count before after
        → WritesFirst answers (lines ++ more) count before after
    first_of_more (within, writes) = (
      omega (arith, length-append lines more),
      subst (λ (found : List (List ℕ)). AreWritten answers found before after)
          (sym (take-append-le count lines more within)) writes,
    )

    -- if `count` answers to `lines` and a proper prefix of the next are written, the same holds for `lines ++ more`
    part_of_more : WritesPart answers lines count before after → WritesPart answers (lines ++ more) count before after
    part_of_more (whole, next, place, within, wholes, is, less, writes) = (
      whole,
      next,
      place,
      omega (arith, length-append lines more),
      subst (λ (found : List (List ℕ)). AreAnswers answers found whole)
          (sym (take-append-le count lines more (omega arith))) wholes,
      subst (λ (line : List ℕ). answers line next) (sym (get_or_append_left lines more [] count within)) is,
      less,
      writes,
    )

    -- what a fault leaves of the answers to `lines` is also what it leaves of the answers to `lines ++ more`
    pub LeavesWritten-more : (fault : RunFault) → LeavesWritten answers lines count fault before after
        → LeavesWritten answers (lines ++ more) count fault before after
    LeavesWritten-more (Read answered) writes = first_of_more writes
    LeavesWritten-more (Write answered) writes = part_of_more writes
    LeavesWritten-more (Memory answered) writes = first_of_more writes
    LeavesWritten-more (Turns answered) writes = first_of_more writes

  -- if nothing is written, the first 0 answers to one line are written
  pub one_unwritten : (written : Option (List ℕ)) (line : List ℕ) → WritesFirst answers (line ∷ []) 0 written written
  one_unwritten written line = (omega arith, answers_none written)

  -- a proper prefix of the answer to one line is what `WritesPart` says after 0 complete answers
  pub one_part : (before after : Option (List ℕ)) (line text : List ℕ) (place : ℕ) → answers line text
      → place < length text → Appends before after (take place text)
      → WritesPart answers (line ∷ []) 0 before after
  one_part before after line text place is less wrote = ([], text, place, omega arith, refl, is, less, wrote)

  -- what an answer's fault leaves of the answer to one line is what the run's fault leaves of it
  pub leaves_one : (before after : Option (List ℕ)) (line waits : List ℕ) (fault : AnswerFault) (count : ℕ)
      → LeavesAnswer (answers line) fault before after [] waits
      → LeavesWritten answers (line ∷ []) 0 (run_fault_of fault count) before after
  leaves_one before after line waits answer.Memory count (same, none) =
      subst (λ (written : Option (List ℕ)). WritesFirst answers (line ∷ []) 0 before written) (sym same)
      (one_unwritten before line)
  leaves_one before after line waits answer.Write count (text, is, (place, less, wrote)) =
      one_part before after line text place is less wrote

-- if `failed` says whether the answer's fault is `Write`, then the run's fault for it is one that an answer can meet
pub is_answer_fault : (fault : AnswerFault) (count : ℕ) (failed : Bool) → failed ≡ is_write fault
    → IsAnswerFault (run_fault_of fault count) count failed
is_answer_fault answer.Memory count failed is = (refl, is)
is_answer_fault answer.Write count failed is = (refl, is)

-- the number in a fault that an answer met is the number of complete answers
pub AnswerFault-count : (fault : RunFault) (count : ℕ) (failed : Bool) → IsAnswerFault fault count failed
    → whole_answers fault ≡ count
AnswerFault-count (Read answered) count failed is = absurd is
AnswerFault-count (Write answered) count failed is = is.0
AnswerFault-count (Memory answered) count failed is = is.0
AnswerFault-count (Turns answered) count failed is = absurd is

-- if an answer met the fault and the input has not failed, then the streams that have failed are those that the fault
-- names
pub AnswerFault-failed : (fault : RunFault) (count : ℕ) (input output : Bool) → input ≡ false
    → IsAnswerFault fault count output → HaveFailed fault input output
AnswerFault-failed (Read answered) count input output not_failed is = absurd is
AnswerFault-failed (Write answered) count input output not_failed is = (not_failed, is.1)
AnswerFault-failed (Memory answered) count input output not_failed is = (not_failed, is.1)
AnswerFault-failed (Turns answered) count input output not_failed is = absurd is

-- if an answer met the fault, it is not `Turns`, so it says nothing of the count of reads
pub AnswerFault-turns : (fault : RunFault) (count : ℕ) (failed : Bool) (before after : ℕ)
    → IsAnswerFault fault count failed → CountsTurns fault before after
AnswerFault-turns (Read answered) count failed before after is = absurd is
AnswerFault-turns (Write answered) count failed before after is = tt
AnswerFault-turns (Memory answered) count failed before after is = tt
AnswerFault-turns (Turns answered) count failed before after is = absurd is

-- if an answer met the fault, it is neither `Read` nor `Turns`, so not each ended line need be answered
pub AnswerFault-ended : (fault : RunFault) (count : ℕ) (failed : Bool) (read : List ℕ)
    → IsAnswerFault fault count failed → AnswersEnded fault read
AnswerFault-ended (Read answered) count failed read is = absurd is
AnswerFault-ended (Write answered) count failed read is = tt
AnswerFault-ended (Memory answered) count failed read is = tt
AnswerFault-ended (Turns answered) count failed read is = absurd is
