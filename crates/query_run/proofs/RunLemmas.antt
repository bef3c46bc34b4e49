-- Lemmas on what a run has read and written, after each read and at its end.
use Rattle.std.proofs.Common.{◌≡◌, ℕ, ◌+◌, Bool, List, ◌++◌, length, take, Option, Result, Ok, Err, IfOk, IfErr, IfSome}
use Rattle.std.proofs.Common.{OnOk, sym, ap, ◌∙◌, subst, length-append, add-zero, arith}
use Rattle.std.specs.Io.KnownBytes.{Consumes, IsAtEnd}
use Rattle.std.proofs.KnownBytes.{Consumes-whole}
use Rattle.std.proofs.lemmas.List.{take_at}
use Rattle.query_run.specs.Lines.{Answers, AreWritten, line_feed_count, query_lines, IsCutInto}
use Rattle.query_run.specs.Fault.{AnswersEnded, IsAnswerFault, LeavesWritten, WritesFirst, whole_answers}
use Rattle.query_run.specs.declared.running.RunFault.{RunFault}
use Rattle.query_run.proofs.LineLemmas.{query_lines_cut}
use Rattle.query_run.proofs.FaultLemmas.{answers_then, LeavesWritten_after, AnswerFault-count, AnswerFault-ended}

-- a run stopped at `fault`: the bytes that it has read, and what it has written of the answers to their lines
abbrev pub HasStopped : Answers → Option (List ℕ) → Option (List ℕ) → Option (List ℕ) → Option (List ℕ) → RunFault
    → Type 0
HasStopped answers input_old input_new output_old output_new fault =
    (read : List ℕ)
    × Consumes input_old input_new read
    × LeavesWritten answers (query_lines read) (whole_answers fault) fault output_old output_new
    × AnswersEnded fault read

module _ (answers : Answers) (read : List ℕ) (lines : List (List ℕ)) (pending : List ℕ)
    (cut : IsCutInto read lines pending) (answered : ℕ) (count : answered ≡ length lines)
    (output_old mid : Option (List ℕ)) (wrote : AreWritten answers lines output_old mid) where
  -- if the input read is cut into `lines` and `pending`, and the answers to `lines` are written, then the answers to
  -- the first `answered` query lines are written
  pub WritesFirst_cut : WritesFirst answers (query_lines read) answered output_old mid
  WritesFirst_cut =
      let all = query_lines_cut read lines pending cut in
      let front : take answered (query_lines read) ≡ lines = ap (take answered) all
      ∙ take_at lines (query_lines pending) answered (sym count) in (
        omega (arith, ap length all, length-append lines (query_lines pending)),
        subst (λ (found : List (List ℕ)). AreWritten answers found output_old mid) (sym front) wrote,
      )

  -- the number of answered lines is the number of line feeds in the bytes read
  pub feeds_cut : answered ≡ line_feed_count read
  feeds_cut = count ∙ cut.feeds

  -- if the answer to a line among `more`, the lines after `lines`, meets a fault, then the run has stopped at this
  -- fault, and the answers to `lines` stay written
  pub HasStopped_in : (fault : RunFault) (more : List (List ℕ)) (further : ℕ) (failed : Bool) (bytes : List ℕ)
      (input_old input_new output_new : Option (List ℕ))
      → Consumes input_old input_new bytes → query_lines bytes ≡ lines ++ more
      → IsAnswerFault fault (answered + further) failed
      → LeavesWritten answers more further fault mid output_new
      → HasStopped answers input_old input_new output_old output_new fault
  HasStopped_in fault more further failed bytes input_old input_new output_new consumed all is leaves =
      let number : length lines + further ≡ whole_answers fault =
      omega (arith, AnswerFault-count fault (answered + further) failed is, count) in (
        bytes,
        consumed,
        subst (λ (found : List (List ℕ)). LeavesWritten answers found (whole_answers fault) fault output_old output_new)
            (sym all)
            (subst (λ (n : ℕ). LeavesWritten answers (lines ++ more) n fault output_old output_new) number
            (LeavesWritten_after answers lines more further output_old mid output_new fault wrote leaves)),
        AnswerFault-ended fault (answered + further) failed bytes is,
      )

  module _ (input_old input_new output_new : Option (List ℕ)) (consumed : Consumes input_old input_new read) where
    -- at the end of the input, the number of answers is the number of the input's query lines
    pub finish_count : (result : Result ℕ RunFault) → IsAtEnd input_new
        → IfOk result (λ count. count ≡ answered + length (query_lines pending))
        → IfOk result (λ count. IfSome input_old (λ bytes. count ≡ length (query_lines bytes)))
    finish_count (Ok total) at_end is =
        let all = query_lines_cut read lines pending cut in
        Consumes-whole input_old input_new read (λ (bytes : List ℕ). total ≡ length (query_lines bytes)) consumed at_end
        (omega (arith, ap length all, length-append lines (query_lines pending), count))
    finish_count (Err fault) at_end is = is

    -- at the end of the input, the answers to all its query lines are written
    pub finish_answers : (result : Result ℕ RunFault) → IsAtEnd input_new
        → OnOk result (AreWritten answers (query_lines pending) mid output_new)
        → OnOk result (IfSome input_old (λ bytes. AreWritten answers (query_lines bytes) output_old output_new))
    finish_answers (Ok total) at_end is =
        let all = query_lines_cut read lines pending cut in
        Consumes-whole input_old input_new read
        (λ (bytes : List ℕ). AreWritten answers (query_lines bytes) output_old output_new) consumed at_end
        (subst (λ (found : List (List ℕ)). AreWritten answers found output_old output_new) (sym all)
        (answers_then answers output_old mid output_new lines (query_lines pending) wrote is))
    finish_answers (Err fault) at_end is = is

    -- if the last answer meets a fault, the run has stopped at it, with the answers before it written
    pub finish_fault : (result : Result ℕ RunFault) (failed : Bool)
        → IfErr result (λ fault. IsAnswerFault fault answered failed
        × LeavesWritten answers (query_lines pending) 0 fault mid output_new)
        → IfErr result (HasStopped answers input_old input_new output_old output_new)
    finish_fault (Ok total) failed is = is
    finish_fault (Err fault) failed is =
        HasStopped_in fault (query_lines pending) 0 failed read input_old input_new output_new consumed
        (query_lines_cut read lines pending cut)
        (subst (λ (n : ℕ). IsAnswerFault fault n failed) (sym (add-zero answered)) is.0) is.1
