-- What the program writes if the words of the command line are not a request.
use Rattle.std.specs.Prelude.{ℕ, ◌≡◌, ◌<◌, true, false, List, length, string_bytes, take}
use Rattle.std.specs.Io.KnownBytes.{Appends}
use Rattle.query_service.specs.Serve.{fault_text}
use Rattle.query_service.specs.Streams.{IsTold, Outputs}
use Rattle.query_run.specs.declared.running.RunFault.TheVariants.{Write, Memory as no_memory}
use Rattle.query_service.specs.declared.service.Status.{Status}
use Rattle.query_service.specs.declared.service.Status.TheVariants.{Done, DeviceFault, WordsFault, MemoryRefused}
use Rattle.streams.specs.declared.output.AnswerOutput.{Ghosts as Output}
use Rattle.command_line.specs.declared.words.WordFault.{WordFault}
use Rattle.command_line.specs.declared.words.WordFault.TheVariants.{Usage, Help, Memory}

-- the help or version text that the words ask for was written, and nothing was reported
pub record IsCallAnswered {W E : Type 0} (w : Output W) (text : List ℕ)
    (before after : Outputs W E) : Type 0 where
  -- the whole text was written
  pub written : Appends (w.written before.output) (w.written after.output) text
  -- the output has not failed
  pub not_failed : w.has_failed after.output ≡ false
  -- nothing was written to the errors
  pub told : after.errors ≡ before.errors

-- the output failed: a proper prefix of the text was written, and the fault was reported
pub record IsCallCut {W E : Type 0} (w : Output W) (e : Output E) (text : List ℕ)
    (before after : Outputs W E) : Type 0 where
  -- a proper prefix of the text was written
  pub written : (place : ℕ) × (place < length text)
      × Appends (w.written before.output) (w.written after.output) (take place text)
  -- the output has failed
  pub failed : w.has_failed after.output ≡ true
  -- the line of the fault was reported
  pub told : IsTold e before.errors after.errors (fault_text (Write 0))

-- a text was reported, and nothing was written to the output
pub record IsToldAlone {W E : Type 0} (e : Output E) (text : List ℕ) (before after : Outputs W E) :
    Type 0 where
  -- the output is untouched
  pub written : after.output ≡ before.output
  -- the text was reported
  pub told : IsTold e before.errors after.errors text

-- what each status means if the words are not a request: the help or version text was written, or
-- its output failed; wrong words, or memory refused, were reported
abbrev pub TellsWordFault : {W E : Type 0} → Output W → Output E → WordFault → Status → Outputs W E
    → Outputs W E → Type 0
TellsWordFault w e (Help text) Done before after = IsCallAnswered w (string_bytes text) before after
TellsWordFault w e (Help text) DeviceFault before after =
    IsCallCut w e (string_bytes text) before after
TellsWordFault w e (Usage text) WordsFault before after =
    IsToldAlone e (string_bytes text) before after
TellsWordFault w e Memory MemoryRefused before after =
    IsToldAlone e (fault_text (no_memory 0)) before after
TellsWordFault w e fault status before after = ⊥
