-- The promise of the engine, for auditors: this file and the definitions that it names say all of
-- it.
--
-- For every accepted release and every list of query lines, whatever plans were chosen, what is
-- written is, line by line, a count and then, in rising order and once each, exactly the active
-- concepts that the constraint denotes over the release's active inferred rows, with their names;
-- or, for a text outside the grammar, its one refusal line and no concept.
--
-- `IsDescription` and `IsSessionAnswer` (`SessionAnswer.antt` of query_service) say what is written
-- for `describe` and `session`, over the same contents.
use Rattle.std.specs.Prelude.{ℕ, ◌≡◌, ◌⊎◌, ◌↔◌, ◌++◌, IsPermutation, IsTrue, List, Contains, Some, Ok, bytes_eq, map}
use Rattle.std.specs.Cmp.Lexicographic.{slice_cmp}
use Rattle.std.specs.List.{IsDistinct}
use Rattle.std.specs.Ordering.{nat_cmp}
use Rattle.std.specs.List.Sorted.{IsSorted, IsStrictlyIncreasing}
use Rattle.ecl_lexer.specs.declared.fault.QueryFault.{QueryFault}
use Rattle.constraint_tree.specs.Denotation.{denotes}
use Rattle.constraint_tree.specs.Refusal.{IsConstraint, IsRefusalOf}
use Rattle.constraint_tree.specs.Tree.{Tree}
use Rattle.release_files.specs.Source.{FileText, History}
use Rattle.held_release.specs.Contents.{Contents}
use Rattle.snapshot.specs.Load.{load_of}
use Rattle.release_rows.specs.Limits.{standard_limits}
use Rattle.held_release.specs.Name.{name_of}
use Rattle.postings.specs.Indexed.{Indexed, IsIndexOf}
use Rattle.answer_printer.specs.AnswerText.{answer_in, answer_text, refusal_text}
use Rattle.answer_printer.specs.PlanText.{plan_text}
use Rattle.answer_printer.specs.declared.form.AnswerForm.{AnswerForm}
use Rattle.query_run.specs.Lines.{AreAnswers, query_lines}
use Rattle.query_service.specs.Explanation.{Explains}
use Rattle.query_service.specs.LimitedAnswer.{least_plan, told_bound, unless_above}
use Rattle.query_service.specs.ModeAnswer.{form_of}
use Rattle.query_service.specs.Serve.{EndsWith, IsTask, Task}
use Rattle.query_service.specs.Streams.{Streams}
use Rattle.query_service.specs.declared.service.Status.TheVariants.{Done}
use Rattle.streams.specs.declared.output.AnswerOutput.{Ghosts as Output}
use Rattle.streams.specs.declared.input.QueryInput.{Ghosts as Input}
use Rattle.command_line.specs.declared.words.Mode.TheVariants.{Query, QueryWith}
use Rattle.command_line.specs.declared.words.QueryOptions.{QueryOptions}

-- no two files have the same name
abbrev pub HaveOwnNames : List FileText → Type 0
HaveOwnNames files = IsDistinct bytes_eq (map (λ (file : FileText). file.name) files)

-- `contents` are those of the release in `files`, which are accepted in the byte order of their
-- names: its active concepts and its active inferred rows
pub record IsReleaseOf (files : List FileText) (language : List ℕ) (contents : Contents) : Type 0
  where
    -- the files in the byte order of their names
    pub ordered : List FileText
    -- it is a permutation of `files`
    pub same : IsPermutation files ordered
    -- the names rise in byte order
    pub rising : IsSorted (slice_cmp nat_cmp) (map (λ (file : FileText). file.name) ordered)
    -- loading them gives the contents
    pub accepted : load_of standard_limits language ordered ≡ Ok contents

-- `text` lists a constraint: a count and, in rising order and once each, exactly the active
-- concepts that the constraint denotes
pub record Lists (contents : Contents) (tree : Tree) (text : List ℕ) : Type 0 where
  -- the concepts in the text
  pub concepts : List ℕ
  -- they rise strictly, so each is listed once
  pub rising : IsStrictlyIncreasing concepts
  -- they are exactly the active concepts that the constraint denotes
  pub exactly : (concept : ℕ)
      → Contains concepts concept ↔ (Contains contents.release.concepts concept
      × IsTrue (denotes contents.release tree concept))
  -- the text is their count and their lines, with names
  pub written : text ≡ answer_text (name_of contents.release contents.language) concepts

-- `text` answers a query line: it lists the line's constraint, or if the line is outside the
-- grammar, it is the line's one refusal
abbrev pub Answers : Contents → List ℕ → List ℕ → Type 0
Answers contents line text =
    ((tree : Tree) × IsConstraint line tree × Lists contents tree text)
    ⊎ ((fault : QueryFault) × IsRefusalOf line fault × (text ≡ refusal_text fault))

-- if a query request without options ends with status 0, then the bytes added to the output are the
-- answers to all query lines of the input. Premises: the source tells its files, no two of which
-- have the same name, and input and output tell their bytes
abbrev pub KeepsThePromise : {R W E : Type 0} → Input R → Output W → Output E → Type 0
KeepsThePromise {R} {W} {E} r w e =
    (before after : Streams R W E) (files : List FileText) (language bytes there : List ℕ)
    (old new : History) (task : Task)
    → HaveOwnNames files → IsTask (Some files) old new language Query task
    → EndsWith r w e task Done before after
    → r.remaining before.input ≡ Some bytes → w.written before.output ≡ Some there
    → (contents : Contents) × IsReleaseOf files language contents
    × (text : List ℕ) × AreAnswers (Answers contents) (query_lines bytes) text
    × (w.written after.output ≡ Some (there ++ text))

-- `text` answers a constraint under a limit on visits, in a form. Over indexes of the release, the
-- executed plan is the one that explains the constraint, and the explanation states its bound after
-- `PLAN`. If this bound is above the limit, `text` states the bound alone; otherwise it has the
-- count of all concepts, and the lines that the form asks for
pub record ListsWithin (limit : ℕ) (form : AnswerForm) (contents : Contents) (tree : Tree)
    (text : List ℕ)
    : Type 0 where
  -- indexes
  pub indexed : Indexed
  -- they are indexes of the release
  pub of_release : IsIndexOf indexed contents.release
  -- the plan whose bound is compared explains the constraint
  pub explained : Explains contents tree (plan_text indexed (least_plan indexed tree))
  -- the concepts of the answer
  pub concepts : List ℕ
  -- they rise strictly, so each is listed once
  pub rising : IsStrictlyIncreasing concepts
  -- they are exactly the active concepts that the constraint denotes
  pub exactly : (concept : ℕ)
      → Contains concepts concept
      ↔ (Contains contents.release.concepts concept
      × IsTrue (denotes contents.release tree concept))
  -- the text is their answer in the form, or states the bound if the bound is above the limit
  pub written : text
      ≡ unless_above limit (told_bound indexed tree)
      (answer_in form (name_of contents.release contents.language) concepts)

-- `text` answers a query line under a limit, in a form: it lists the line's constraint within the
-- limit, or if the line is outside the grammar, it is the line's refusal, under any limit
abbrev pub AnswersUnder : ℕ → AnswerForm → Contents → List ℕ → List ℕ → Type 0
AnswersUnder limit form contents line text =
    ((tree : Tree) × IsConstraint line tree × ListsWithin limit form contents tree text)
    ⊎ ((fault : QueryFault) × IsRefusalOf line fault × (text ≡ refusal_text fault))

-- if a query request with options ends with status 0, then the bytes added to the output are the
-- answers to all query lines of the input under these options. Premises: the source tells its
-- files, no two of which have the same name, and input and output tell their bytes
abbrev pub KeepsTheLimitedPromise : {R W E : Type 0} → Input R → Output W → Output E → Type 0
KeepsTheLimitedPromise {R} {W} {E} r w e =
    (before after : Streams R W E) (files : List FileText) (language bytes there : List ℕ)
    (old new : History)
    (task : Task) (options : QueryOptions)
    → HaveOwnNames files → IsTask (Some files) old new language (QueryWith options) task
    → EndsWith r w e task Done before after
    → r.remaining before.input ≡ Some bytes → w.written before.output ≡ Some there
    → (contents : Contents) × IsReleaseOf files language contents
    × (text : List ℕ) × AreAnswers (AnswersUnder options.limit (form_of options) contents)
    (query_lines bytes) text
    × (w.written after.output ≡ Some (there ++ text))
