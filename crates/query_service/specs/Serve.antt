-- How the program ends: its exit status, and for each status what was read, written and reported.
use Rattle.std.specs.Prelude.{ℕ, ◌≡◌, ◌⊎◌, ◌<◌, false, List, [], codes, length, take}
use Rattle.std.specs.Prelude.{IfSome, Option, Result, Ok, Err}
use Rattle.std.specs.Io.KnownBytes.{Appends, IsAtEnd}
use Rattle.held_release.specs.Contents.{Contents}
use Rattle.snapshot.specs.Loading.{IsLoadedFrom}
use Rattle.release_files.specs.Source.{FileText, History}
use Rattle.release_rows.specs.Limits.{standard_limits}
use Rattle.row_lists.specs.declared.fault.LoadFault.{LoadFault}
use Rattle.row_lists.specs.declared.fault.LoadFault.TheVariants as load
use Rattle.answer_printer.specs.LoadRefusal.{load_refusal}
use Rattle.answer_printer.specs.ReportText.{report_text}
use Rattle.query_run.specs.Fault.{CountsTurns, EndsAt, HaveFailed}
use Rattle.query_run.specs.Lines.{Answers, AreWritten, query_lines}
use Rattle.query_service.specs.ModeAnswer.{answers_in}
use Rattle.query_service.specs.Report.{report_of}
use Rattle.sample_release.specs.SampleContents.{sample_contents}
use Rattle.query_service.specs.Streams.{IsTold, Streams}
use Rattle.query_run.specs.declared.running.RunFault.{RunFault}
use Rattle.query_run.specs.declared.running.RunFault.TheVariants.{Read, Write, Memory, Turns}
use Rattle.query_service.specs.declared.service.Status.{Status}
use Rattle.query_service.specs.declared.service.Status.TheVariants.{Done, DeviceFault, WordsFault, ReleaseRefused}
use Rattle.query_service.specs.declared.service.Status.TheVariants.{MemoryRefused}
use Rattle.streams.specs.declared.output.AnswerOutput.{Ghosts as Output}
use Rattle.streams.specs.declared.input.QueryInput.{Ghosts as Input}
use Rattle.command_line.specs.declared.words.Mode.{Mode}
use Rattle.command_line.specs.declared.words.Mode.TheVariants.{Sample, Check}

-- the exit status of the program
abbrev pub status_code : Status → ℕ
status_code Done = 0
status_code DeviceFault = 1
status_code WordsFault = 2
status_code ReleaseRefused = 3
status_code MemoryRefused = 4

-- the status for the fault of a run
abbrev pub status_of : RunFault → Status
status_of (Read count) = DeviceFault
status_of (Write count) = DeviceFault
status_of (Memory count) = MemoryRefused
status_of (Turns count) = DeviceFault

-- the line that reports the fault of a run
abbrev pub fault_text : RunFault → List ℕ
fault_text (Read count) = codes "FAULT read\n"
fault_text (Write count) = codes "FAULT write\n"
fault_text (Memory count) = codes "FAULT memory\n"
fault_text (Turns count) = codes "FAULT turns\n"

-- the status for the fault of a load
abbrev pub refusal_status_of : LoadFault → Status
refusal_status_of load.Memory = MemoryRefused
refusal_status_of (load.Device place) = DeviceFault
refusal_status_of fault = ReleaseRefused

-- the line that reports that memory was refused before a release was loaded
abbrev pub memory_text : List ℕ
memory_text = codes "REFUSED memory\n"

-- what the program has to do: a mode, the result of loading the release, and the names of its files
pub record Task : Type 0 where
  -- what is done with the release
  pub mode : Mode
  -- the release that was loaded, or the fault of the load
  pub loaded : Result Contents LoadFault
  -- the names of the files, in the order in which they were loaded
  pub names : List (List ℕ)

-- the task has loaded the release that the mode asks for: the built-in one, or that of the source's
-- files, with names in `language` preferred
abbrev pub IsAskedFor : Option (List FileText) → History → History → List ℕ → Mode → Task → Type 0
IsAskedFor told old new language Sample task = task.loaded ≡ Ok sample_contents
IsAskedFor told old new language mode task =
    IsLoadedFrom told old new standard_limits language task.names task.loaded

-- the task is that of a mode, over the files of a source, with names in `language` preferred
pub record IsTask (told : Option (List FileText)) (old new : History) (language : List ℕ)
    (mode : Mode) (task : Task)
    : Type 0 where
  -- the task has the mode
  pub mode_is : task.mode ≡ mode
  -- the task has loaded the release that the mode asks for
  pub loaded : IsAskedFor told old new language mode task

-- the task of answering queries over the built-in release
abbrev pub sample_task : Task
sample_task = record { mode = Sample; loaded = Ok sample_contents; names = [] }

-- all query lines of the input were answered, by the relation `answers`
pub record IsAnswered {R W E : Type 0} (r : Input R) (w : Output W) (answers : Answers)
    (before after : Streams R W E)
    : Type 0 where
  -- the input was read to its end
  pub read : IsAtEnd (r.remaining after.input)
  -- the answers to all query lines of the input were written, if the input tells its bytes
  pub written : IfSome (r.remaining before.input) (λ bytes.
      AreWritten answers (query_lines bytes) (w.written before.output) (w.written after.output))

-- the row counts of the release were written, and nothing was read
pub record IsReported {R W E : Type 0} (w : Output W) (contents : Contents)
    (before after : Streams R W E)
    : Type 0 where
  -- the input is untouched
  pub read : after.input ≡ before.input
  -- the whole report was written
  pub written : Appends (w.written before.output) (w.written after.output)
      (report_text (report_of contents))

-- a mode was served over a release: `check` wrote the row counts, and any other mode answered all
-- lines
abbrev pub IsServed : {R W E : Type 0} → Input R → Output W → Mode → Contents → Streams R W E
    → Streams R W E → Type 0
IsServed r w Check contents before after = IsReported w contents before after
IsServed r w mode contents before after = IsAnswered r w (answers_in mode contents) before after

-- the output failed while the row counts were written: a proper prefix was written, and nothing was
-- read
pub record IsReportCut {R W E : Type 0} (w : Output W) (fault : RunFault) (contents : Contents)
    (before after : Streams R W E) : Type 0 where
  -- the fault is `Write`, after 0 answers
  pub is_write : fault ≡ Write 0
  -- the input is untouched
  pub read : after.input ≡ before.input
  -- a proper prefix of the report was written
  pub written : (place : ℕ) × (place < length (report_text (report_of contents)))
      × Appends (w.written before.output) (w.written after.output)
      (take place (report_text (report_of contents)))

-- what a mode read and wrote before the fault
abbrev pub IsCut : {R W E : Type 0} → Input R → Output W → Mode → RunFault → Contents
    → Streams R W E → Streams R W E
    → Type 0
IsCut r w Check fault contents before after = IsReportCut w fault contents before after
IsCut r w mode fault contents before after =
    EndsAt fault (answers_in mode contents) (r.remaining before.input) (r.remaining after.input)
    (w.written before.output) (w.written after.output)

-- status 0: all was done, no stream failed, and nothing was reported
pub record IsDone {R W E : Type 0} (r : Input R) (w : Output W) (mode : Mode) (contents : Contents)
    (before after : Streams R W E) : Type 0 where
  -- the mode was served
  pub served : IsServed r w mode contents before after
  -- neither the input nor the output has failed
  pub not_failed : (r.has_failed after.input ≡ false) × (w.has_failed after.output ≡ false)
  -- nothing was written to the errors
  pub told : after.errors ≡ before.errors

-- status 1, or 4 if memory was refused: the release was loaded, but a fault came. It says what was
-- read and written before the fault, which stream failed, and which line reports the fault
pub record IsStopped {R W E : Type 0} (r : Input R) (w : Output W) (e : Output E) (mode : Mode)
    (contents : Contents)
    (status : Status) (before after : Streams R W E) : Type 0 where
  -- the fault of the run
  pub fault : RunFault
  -- the status is that of the fault
  pub ends : status_of fault ≡ status
  -- what was read and written before the fault
  pub served : IsCut r w mode fault contents before after
  -- the streams that failed are those that the fault names
  pub failed : HaveFailed fault (r.has_failed after.input) (w.has_failed after.output)
  -- at `Turns` the input was read 2^40 times
  pub turns : CountsTurns fault (r.read_count before.input) (r.read_count after.input)
  -- the line of the fault was reported
  pub told : IsTold e before.errors after.errors (fault_text fault)

-- status 3, or 1 if the device failed: no release was loaded. Nothing was read or written, and the
-- fault of the load was reported
pub record IsRefused {R W E : Type 0} (e : Output E) (task : Task) (status : Status)
    (before after : Streams R W E)
    : Type 0 where
  -- the fault of the load
  pub fault : LoadFault
  -- the status is that of the fault
  pub ends : refusal_status_of fault ≡ status
  -- the result of the load is this fault
  pub loaded : task.loaded ≡ Err fault
  -- the input is untouched
  pub read : after.input ≡ before.input
  -- the output is untouched
  pub written : after.output ≡ before.output
  -- the line of the fault was reported
  pub told : IsTold e before.errors after.errors (load_refusal task.names fault)

-- status 4 before anything was served: nothing was read or written, and the line for refused memory
-- was reported
pub record IsStarved {R W E : Type 0} (e : Output E) (before after : Streams R W E) : Type 0 where
  -- the input is untouched
  pub read : after.input ≡ before.input
  -- the output is untouched
  pub written : after.output ≡ before.output
  -- the line `REFUSED memory` was reported
  pub told : IsTold e before.errors after.errors memory_text

-- what each status means once a release was loaded
abbrev pub ServesWith : {R W E : Type 0} → Input R → Output W → Output E → Mode → Contents → Status
    → Streams R W E → Streams R W E → Type 0
ServesWith r w e mode contents Done before after = IsDone r w mode contents before after
ServesWith r w e mode contents DeviceFault before after =
    IsStopped r w e mode contents DeviceFault before after
ServesWith r w e mode contents WordsFault before after = ⊥
ServesWith r w e mode contents ReleaseRefused before after = ⊥
ServesWith r w e mode contents MemoryRefused before after =
    IsStopped r w e mode contents MemoryRefused before after

-- a release was loaded, and the mode was served over it until the status
pub record IsLoadedAndServed {R W E : Type 0} (r : Input R) (w : Output W) (e : Output E)
    (task : Task)
    (status : Status) (before after : Streams R W E) : Type 0 where
  -- the loaded release
  pub contents : Contents
  -- the result of the load is this release
  pub loaded : task.loaded ≡ Ok contents
  -- the release was served, and the status means this
  pub ended : ServesWith r w e task.mode contents status before after

-- what each status means if nothing was served
abbrev pub RefusesWith : {R W E : Type 0} → Output E → Task → Status → Streams R W E → Streams R W E
    → Type 0
RefusesWith e task Done before after = ⊥
RefusesWith e task DeviceFault before after = IsRefused e task DeviceFault before after
RefusesWith e task WordsFault before after = ⊥
RefusesWith e task ReleaseRefused before after = IsRefused e task ReleaseRefused before after
RefusesWith e task MemoryRefused before after = IsStarved e before after

-- a task ends with a status: either its release was loaded and served, or nothing was served
abbrev pub EndsWith : {R W E : Type 0} → Input R → Output W → Output E → Task → Status
    → Streams R W E → Streams R W E → Type 0
EndsWith r w e task status before after =
    IsLoadedAndServed r w e task status before after ⊎ RefusesWith e task status before after

-- what each status means if the fault of a load had to be reported; `names` are the names of the
-- files
abbrev pub TellsLoadFault : {E : Type 0} → Output E → List (List ℕ) → LoadFault → Status → E → E
    → Type 0
TellsLoadFault e names fault Done before after = ⊥
TellsLoadFault e names fault DeviceFault before after =
    (refusal_status_of fault ≡ DeviceFault) × IsTold e before after (load_refusal names fault)
TellsLoadFault e names fault WordsFault before after = ⊥
TellsLoadFault e names fault ReleaseRefused before after =
    (refusal_status_of fault ≡ ReleaseRefused) × IsTold e before after (load_refusal names fault)
TellsLoadFault e names fault MemoryRefused before after = IsTold e before after memory_text
