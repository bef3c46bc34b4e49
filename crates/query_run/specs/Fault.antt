-- What a run has read and written when it ends at a fault.
use Rattle.std.specs.Prelude.{◌≡◌, ◌⊎◌, ℕ, ◌+◌, ◌-◌, ◌^◌, ◌<◌, ◌≤◌, Bool, true, false, List, [], ◌++◌, length, take}
use Rattle.std.specs.Prelude.{slice_index_or, Option, ⊤}
use Rattle.std.specs.Io.KnownBytes.{Appends, Consumes}
use Rattle.query_run.specs.Lines.{Answers, AreAnswers, AreWritten, line_feed_count, query_lines}
use Rattle.query_run.specs.declared.running.RunFault.{RunFault}
use Rattle.query_run.specs.declared.running.RunFault.TheVariants.{Read, Write, Memory, Turns}
use Rattle.streams.specs.declared.fault.AnswerFault.{AnswerFault}
use Rattle.streams.specs.declared.fault.AnswerFault.TheVariants as answer

-- the number of a fault of a run
abbrev pub run_fault_number : RunFault → ℕ
run_fault_number (Read count) = 1
run_fault_number (Write count) = 2
run_fault_number (Memory count) = 3
run_fault_number (Turns count) = 4

-- how many answers were written completely before the fault
abbrev pub whole_answers : RunFault → ℕ
whole_answers (Read count) = count
whole_answers (Write count) = count
whole_answers (Memory count) = count
whole_answers (Turns count) = count

-- the answers to the first `count` lines were written, and nothing else
abbrev pub WritesFirst : Answers → List (List ℕ) → ℕ → Option (List ℕ) → Option (List ℕ) → Type 0
WritesFirst answers lines count before after =
    (count ≤ length lines) × AreWritten answers (take count lines) before after

-- the answers to the first `count` lines were written, and then a proper prefix of the next answer
abbrev pub WritesPart : Answers → List (List ℕ) → ℕ → Option (List ℕ) → Option (List ℕ) → Type 0
WritesPart answers lines count before after =
    (whole : List ℕ) × (next : List ℕ) × (place : ℕ)
    × (count < length lines)
    × AreAnswers answers (take count lines) whole
    × answers (slice_index_or lines count []) next
    × (place < length next)
    × Appends before after (whole ++ take place next)

-- how much of the answers to `lines` was written when the fault came: `count` complete ones, and
-- after `Write` a proper prefix of the next
abbrev pub LeavesWritten : Answers → List (List ℕ) → ℕ → RunFault → Option (List ℕ)
    → Option (List ℕ) → Type 0
LeavesWritten answers lines count (Read answered) before after =
    WritesFirst answers lines count before after
LeavesWritten answers lines count (Write answered) before after =
    WritesPart answers lines count before after
LeavesWritten answers lines count (Memory answered) before after =
    WritesFirst answers lines count before after
LeavesWritten answers lines count (Turns answered) before after =
    WritesFirst answers lines count before after

-- at `Read` and `Turns`, each line that has ended was answered: there are as many answers as line
-- feeds in `read`
abbrev pub AnswersEnded : RunFault → List ℕ → Type 0
AnswersEnded (Read count) read = count ≡ line_feed_count read
AnswersEnded (Write count) read = ⊤
AnswersEnded (Memory count) read = ⊤
AnswersEnded (Turns count) read = count ≡ line_feed_count read

-- whether input and output have failed: at `Read` only the input, at `Write` only the output, at
-- other faults neither
abbrev pub HaveFailed : RunFault → Bool → Bool → Type 0
HaveFailed (Read count) input output = (input ≡ true) × (output ≡ false)
HaveFailed (Write count) input output = (input ≡ false) × (output ≡ true)
HaveFailed (Memory count) input output = (input ≡ false) × (output ≡ false)
HaveFailed (Turns count) input output = (input ≡ false) × (output ≡ false)

-- at `Turns`, the input was read 2^40 times, unless its count of reads has reached the greatest
-- number of 64 bits
abbrev pub CountsTurns : RunFault → ℕ → ℕ → Type 0
CountsTurns (Read count) before after = ⊤
CountsTurns (Write count) before after = ⊤
CountsTurns (Memory count) before after = ⊤
CountsTurns (Turns count) before after = (after ≡ before + 2 ^ 40) ⊎ (after ≡ 2 ^ 64 - 1)

-- a fault that the next answer can meet after `count` complete answers, if `output` says whether
-- the output failed
abbrev pub IsAnswerFault : RunFault → ℕ → Bool → Type 0
IsAnswerFault (Read answered) count output = ⊥
IsAnswerFault (Write answered) count output = (answered ≡ count) × (output ≡ true)
IsAnswerFault (Memory answered) count output = (answered ≡ count) × (output ≡ false)
IsAnswerFault (Turns answered) count output = ⊥

-- the fault of a run whose next answer fails, after `count` complete answers
abbrev pub run_fault_of : AnswerFault → ℕ → RunFault
run_fault_of answer.Memory count = Memory count
run_fault_of answer.Write count = Write count

-- a run ended at a fault: it read the bytes `read`, and of the answers to their lines it wrote what
-- `LeavesWritten` says
abbrev pub EndsAt : RunFault → Answers → Option (List ℕ) → Option (List ℕ) → Option (List ℕ)
    → Option (List ℕ) → Type 0
EndsAt fault answers given left before after =
    (read : List ℕ)
    × Consumes given left read
    × LeavesWritten answers (query_lines read) (whole_answers fault) fault before after
    × AnswersEnded fault read
