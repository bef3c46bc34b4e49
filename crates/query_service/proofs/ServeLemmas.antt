-- From the faults that a request met to its status and its streams.
use Rattle.std.proofs.Common.{ℕ, ◌≡◌, ◌≢◌, ◌<◌, inl, inr, false, true, List, [], length, take}
use Rattle.std.proofs.Common.{Option, Result, Ok, Err, refl, sym, ap, subst, ◌∙◌}
use Rattle.std.specs.Prelude.{IfErr}
use Rattle.std.specs.Result.{IsErrAnd}
use Rattle.std.specs.Io.KnownBytes.{Appends}
use Rattle.held_release.specs.Contents.{Contents, IsFaultOf}
use Rattle.held_release.specs.declared.report.Report.{Report}
use Rattle.snapshot.specs.Loading.{IsLoadedFrom, told_of}
use Rattle.snapshot.proofs.LoadingLemmas.{loads_on}
use Rattle.release_files.specs.Source.{FileText, History}
use Rattle.release_rows.specs.Limits.{standard_limits}
use Rattle.row_lists.specs.declared.fault.LoadFault.{LoadFault}
use Rattle.row_lists.specs.declared.fault.LoadFault.TheVariants as load
use Rattle.release_rows.specs.declared.limits.Limits.{Limits}
use Rattle.answer_printer.specs.ReportText.{report_text}
use Rattle.query_run.specs.Fault.{CountsTurns, EndsAt, HaveFailed}
use Rattle.query_service.specs.ModeAnswer.{answers_in}
use Rattle.query_service.specs.Report.{report_of}
use Rattle.sample_release.specs.SampleContents.{sample_contents}
use Rattle.query_service.specs.Serve.{EndsWith, IsAnswered, IsAskedFor, IsCut, IsServed}
use Rattle.query_service.specs.Serve.{IsReportCut, IsStopped, IsTask, ServesWith, Task, TellsLoadFault}
use Rattle.query_service.specs.Serve.{fault_text, refusal_status_of, sample_task, status_of}
use Rattle.query_service.specs.Streams.{IsTold, Streams, streams}
use Rattle.query_run.specs.declared.running.RunFault.{RunFault}
use Rattle.query_run.specs.declared.running.RunFault.TheVariants.{Read, Write, Memory, Turns}
use Rattle.query_service.specs.declared.service.Status.{Status}
use Rattle.query_service.specs.declared.service.Status.TheVariants.{Done, DeviceFault, WordsFault, ReleaseRefused}
use Rattle.query_service.specs.declared.service.Status.TheVariants.{MemoryRefused}
use Rattle.streams.specs.declared.output.AnswerOutput.{Ghosts as Output}
use Rattle.streams.specs.declared.input.QueryInput.{Ghosts as Input}
use Rattle.command_line.specs.declared.words.Mode.{Mode}
use Rattle.command_line.specs.declared.words.Mode.TheVariants.{Sample, Check}

-- if a fault came while a release was served, its line was reported, and the status is the fault's, then the status
-- means what `ServesWith` says
pub stops_with : {R W E : Type 0} (r : Input R) (w : Output W) (e : Output E) (mode : Mode) (contents : Contents)
    (fault : RunFault) (status : Status) (before after : Streams R W E)
    → status ≡ status_of fault → IsCut r w mode fault contents before after
    → HaveFailed fault (r.has_failed after.input) (w.has_failed after.output)
    → CountsTurns fault (r.read_count before.input) (r.read_count after.input)
    → IsTold e before.errors after.errors (fault_text fault) → ServesWith r w e mode contents status before after
stops_with r w e mode contents fault status before after is cut failed turns told =
    subst (λ (s : Status). ServesWith r w e mode contents s before after) (sym is)
    (by fault (record { fault = fault; ends = refl; served = cut; failed = failed; turns = turns; told = told }))
  where
    by : (fault : RunFault) → IsStopped r w e mode contents (status_of fault) before after
        → ServesWith r w e mode contents (status_of fault) before after
    by (Read count) stopped = stopped
    by (Write count) stopped = stopped
    by (Memory count) stopped = stopped
    by (Turns count) stopped = stopped

-- if the load failed with `fault`, the fault was reported, and nothing was read or written, then the task ends with
-- the fault's status
pub refuses_with : {R W E : Type 0} (r : Input R) (w : Output W) (e : Output E) (task : Task) (fault : LoadFault)
    (status : Status) (input : R) (output : W) (before after : E)
    → task.loaded ≡ Err fault → TellsLoadFault e task.names fault status before after
    → EndsWith r w e task status (streams input output before) (streams input output after)
refuses_with r w e task fault Done input output before after is told = absurd told
refuses_with r w e task fault DeviceFault input output before after is told =
    inr (record { fault = fault; ends = told.0; loaded = is; read = refl; written = refl; told = told.1 })
refuses_with r w e task fault WordsFault input output before after is told = absurd told
refuses_with r w e task fault ReleaseRefused input output before after is told =
    inr (record { fault = fault; ends = told.0; loaded = is; read = refl; written = refl; told = told.1 })
refuses_with r w e task fault MemoryRefused input output before after is told =
    inr (record { read = refl; written = refl; told = told })

-- a mode other than `Sample` asks for the release of the source's files
pub asked_of_files : {told : Option (List FileText)} {old new : History} {language : List ℕ} (task : Task)
    (mode : Mode) → mode ≢ Sample → IsLoadedFrom told old new standard_limits language task.names task.loaded
    → IsAskedFor told old new language mode task
asked_of_files task Sample other loaded = absurd (other refl)
asked_of_files task mode other loaded = loaded

-- a mode other than `Check` is served if all lines are answered
pub served_in : {R W E : Type 0} (r : Input R) (w : Output W) (mode : Mode) (contents : Contents)
    (before after : Streams R W E) → mode ≢ Check
    → IsAnswered r w (answers_in mode contents) before after → IsServed r w mode contents before after
served_in r w Check contents before after other answered = absurd (other refl)
served_in r w mode contents before after other answered = answered

-- in a mode other than `Check`, what a run has read and written at a fault is what `IsCut` says
pub cut_in : {R W E : Type 0} (r : Input R) (w : Output W) (mode : Mode) (fault : RunFault) (contents : Contents)
    (before after : Streams R W E) → mode ≢ Check
    → EndsAt fault (answers_in mode contents) (r.remaining before.input) (r.remaining after.input)
    (w.written before.output) (w.written after.output)
    → IsCut r w mode fault contents before after
cut_in r w Check fault contents before after other ends = absurd (other refl)
cut_in r w mode fault contents before after other ends = ends

-- a load has only one release as its result
pub same_contents : (loaded : Result Contents LoadFault) (own contents : Contents) → loaded ≡ Ok own
    → loaded ≡ Ok contents → contents ≡ own
same_contents loaded own contents is loads = let same : Ok contents ≡ Ok own = sym loads ∙ is in (cc)

-- if the result of a load is the release `own`, a fault of the result is a fault of this release
pub same_fault : (loaded : Result Contents LoadFault) (own : Contents) (fault : LoadFault) → loaded ≡ Ok own
    → IsFaultOf fault loaded → IsFaultOf fault (Ok own)
same_fault loaded own fault is said other = sym is ∙ said other

-- if the built-in release was loaded and served with a status, the task ends with this status
pub ends_sample : {R W E : Type 0} (r : Input R) (w : Output W) (e : Output E) (contents : Contents) (status : Status)
    (before after : Streams R W E)
    → contents ≡ sample_contents → ServesWith r w e Sample contents status before after
    → EndsWith r w e sample_task status before after
ends_sample r w e contents status before after same served = inl (record {
  contents = contents;
  loaded = ap Ok (sym same);
  ended = served;
})

-- loading the built-in release has no fault other than `Memory`
only_memory : (fault : LoadFault) → IsFaultOf fault (Ok sample_contents) → (fault ≡ load.Memory → ⊥) → ⊥
only_memory fault said other = let clash : Ok sample_contents ≡ Err fault = said other in (cc)

-- if loading the built-in release failed, then memory was refused, and the task ends with the status for this
pub refuses_sample : {R W E : Type 0} (r : Input R) (w : Output W) (e : Output E) (fault : LoadFault)
    (status : Status) (input : R) (output : W) (before after : E)
    → IsFaultOf fault (Ok sample_contents) → TellsLoadFault e [] fault status before after
    → EndsWith r w e sample_task status (streams input output before) (streams input output after)
refuses_sample r w e fault Done input output before after said told = absurd told
refuses_sample r w e fault DeviceFault input output before after said told =
    absurd (only_memory fault said (λ memory.
    let clash : MemoryRefused ≡ DeviceFault = ap refusal_status_of (sym memory) ∙ told.0 in (cc)))
refuses_sample r w e fault WordsFault input output before after said told = absurd told
refuses_sample r w e fault ReleaseRefused input output before after said told =
    absurd (only_memory fault said (λ memory.
    let clash : MemoryRefused ≡ ReleaseRefused = ap refusal_status_of (sym memory) ∙ told.0 in (cc)))
refuses_sample r w e fault MemoryRefused input output before after said told =
    inr (record { read = refl; written = refl; told = told })

-- a load within limits that are the standard ones is a load within the standard limits
pub within_standard : (told : Option (List FileText)) (old new : History) (limits : Limits) (language : List ℕ)
    (names : List (List ℕ)) (loaded : Result Contents LoadFault) → limits ≡ standard_limits
    → IsLoadedFrom told old new limits language names loaded
    → IsLoadedFrom told old new standard_limits language names loaded
within_standard told old new limits language names loaded is =
    subst (λ (one : Limits). IsLoadedFrom told old new one language names loaded) is

-- a report that a load told is that of the release that was loaded
pub report_loaded : (told : Option (List FileText)) (old new : History) (limits : Limits) (language : List ℕ)
    (names : List (List ℕ)) (loaded : Result Contents LoadFault) (report : Report)
    → Ok report ≡ told_of report_of loaded → limits ≡ standard_limits
    → IsLoadedFrom told old new limits language names loaded
    → (contents : Contents) × (report ≡ report_of contents)
    × IsLoadedFrom told old new standard_limits language names (Ok contents)
report_loaded told old new limits language names (Ok contents) report tells is loads =
    let same : Ok report ≡ Ok (report_of contents) = tells in
    (contents, cc, within_standard told old new limits language names (Ok contents) is loads)
report_loaded told old new limits language names (Err fault) report tells is loads =
    absurd (let clash : Ok report ≡ Err fault = tells in (cc))

-- a fault that a load told in place of a report is that of the load
pub fault_loaded : (told : Option (List FileText)) (old new : History) (limits : Limits) (language : List ℕ)
    (names : List (List ℕ)) (loaded : Result Contents LoadFault) (fault : LoadFault)
    → Err fault ≡ told_of report_of loaded → limits ≡ standard_limits
    → IsLoadedFrom told old new limits language names loaded
    → IsLoadedFrom told old new standard_limits language names (Err fault)
fault_loaded told old new limits language names (Ok contents) fault tells is loads =
    absurd (let clash : Err fault ≡ Ok (report_of contents) = tells in (cc))
fault_loaded told old new limits language names (Err other) fault tells is loads =
    let same : Err other ≡ Err fault = cc in
    subst (IsLoadedFrom told old new standard_limits language names) same
    (within_standard told old new limits language names (Err other) is loads)

-- if memory for the text of the report of a loaded release was refused, that is a fault which the load may have
pub text_refused : {X : Type 0} (told : Option (List FileText)) (old new : History) (language : List ℕ)
    (names : List (List ℕ)) (contents : Contents) (text : Result X LoadFault)
    → IsErrAnd text (λ fault. fault ≡ load.Memory)
    → IsLoadedFrom told old new standard_limits language names (Ok contents)
    → IfErr text (λ fault. IsLoadedFrom told old new standard_limits language names (Err fault))
text_refused told old new language names contents (Ok text) memory loads = tt
text_refused told old new language names contents (Err fault) memory loads =
    loads_on told old new standard_limits language names contents (Err fault) loads tt memory

-- a task for a mode and a language is also a task for an equal mode and an equal language
pub asked_as : (told : Option (List FileText)) (old new : History) (lent language : List ℕ) (mode asked : Mode)
    (task : Task) → asked ≡ mode → lent ≡ language
    → IsTask told old new lent mode task → IsTask told old new language asked task
asked_as told old new lent language mode asked task is same task_is =
    subst (λ (m : Mode). IsTask told old new language m task) (sym is)
    (subst (λ (code : List ℕ). IsTask told old new code mode task) same task_is)

-- if the whole report was written, the task ends with status `Done`
pub ends_reported : {R W E : Type 0} (r : Input R) (w : Output W) (e : Output E) (task : Task) (contents : Contents)
    (text : List ℕ) (input : R) (before after : W) (errors : E)
    → task.mode ≡ Check → task.loaded ≡ Ok contents → text ≡ report_text (report_of contents)
    → Appends (w.written before) (w.written after) text → r.has_failed input ≡ false → w.has_failed after ≡ false
    → EndsWith r w e task Done (streams input before errors) (streams input after errors)
ends_reported r w e task contents text input before after errors mode loads is wrote reads writes = inl (record {
  contents = contents;
  loaded = loads;
  ended = record {
    served = subst (λ (m : Mode). IsServed r w m contents (streams input before errors) (streams input after errors))
        (sym mode)
        (record {
          read = refl;
          written = subst (λ (t : List ℕ). Appends (w.written before) (w.written after) t) is wrote;
        });
    not_failed = (reads, writes);
    told = refl;
  };
})

-- if a proper prefix of the report was written, the task ends with status `DeviceFault`
pub ends_cut : {R W E : Type 0} (r : Input R) (w : Output W) (e : Output E) (task : Task) (contents : Contents)
    (text : List ℕ) (input : R) (before after : W) (errors told : E) (status : Status)
    → task.mode ≡ Check → task.loaded ≡ Ok contents → text ≡ report_text (report_of contents) → status ≡ DeviceFault
    → (place : ℕ) × (place < length text) × Appends (w.written before) (w.written after) (take place text)
    → r.has_failed input ≡ false → w.has_failed after ≡ true → IsTold e errors told (fault_text (Write 0))
    → EndsWith r w e task status (streams input before errors) (streams input after told)
ends_cut r w e task contents text input before after errors told status mode loads is ends wrote reads fails line =
    let opened = streams input before errors in
    let closed = streams input after told in
    let cut : IsReportCut w (Write 0) contents opened closed =
    record {
      is_write = refl;
      read = refl;
      written = subst (λ (t : List ℕ).
          (place : ℕ) × (place < length t) × Appends (w.written before) (w.written after) (take place t)) is wrote;
    } in
    inl (record {
      contents = contents;
      loaded = loads;
      ended = stops_with r w e task.mode contents (Write 0) status opened closed ends
          (subst (λ (m : Mode). IsCut r w m (Write 0) contents opened closed) (sym mode) cut) (reads, fails) tt line;
    })
