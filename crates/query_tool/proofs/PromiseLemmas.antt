-- The answers that the program writes over accepted files are those of the promise.
use Rattle.std.proofs.Common.{arith, ℕ, ◌≡◌, ◌∙◌, ◌↔◌, ◌++◌, ◌∷◌, [], ◌&&◌, inl, inr, Bool, true, cond, refl, List}
use Rattle.std.proofs.Common.{length, map, Option, None, Some, Result, Ok, Err, ap, sym, subst}
use Rattle.std.specs.List.{IsDistinct, list_any}
use Rattle.std.specs.Cmp.Lexicographic.{slice_cmp}
use Rattle.std.specs.Ordering.{nat_cmp}
use Rattle.std.proofs.lemmas.Slice.Eq.{bytes_eq-Decides}
use Rattle.std.proofs.lemmas.List.Sorted.{IsPermutation-map}
use Rattle.std.specs.Prelude.{IfSome, IsPermutation, IsTrue, Contains, bytes_eq, false, filter, unwrap_or}
use Rattle.std.specs.List.{AllByRecursion}
use Rattle.std.proofs.lemmas.Bool.{and_parts}
use Rattle.std.proofs.lemmas.Bool.Decides.{nat_tests}
use Rattle.std.proofs.lemmas.Grind.{common_steps}
use Rattle.std.proofs.lemmas.List.Kept.{IsStrictlyIncreasing-filter}
use Rattle.std.specs.Io.KnownBytes.{Appends}
use Rattle.std.specs.List.Sorted.{IsSorted, IsStrictlyIncreasing}
use Rattle.number_lists.specs.Members.{has}
use Rattle.number_lists.proofs.MemberLemmas.{contains_had, had_contained}
use Rattle.constraint_tree.specs.Denotation.{denotation, denotes}
use Rattle.release_files.specs.Source.{FileText, History, bytes_of}
use Rattle.held_release.specs.Contents.{Contents}
use Rattle.snapshot.specs.Load.{contents_of, load_of, loaded_from, unless_faulty}
use Rattle.release_rows.specs.Files.{text_of_row, has_kind, is_concept_file, places_from, rows_of}
use Rattle.release_rows.specs.Faults.{first_fault}
use Rattle.rf2_rows.specs.declared.row.ConceptRow.{ConceptRow}
use Rattle.release_rows.specs.Chosen.{chosen}
use Rattle.row_lists.specs.InForce.{concept_rows}
use Rattle.number_lists.specs.RisingOrder.{KeepsRising}
use Rattle.release_rows.specs.Limits.{limits_in_force, standard_limits}
use Rattle.release_rows.specs.Pieces.{AreInOrder, listed, text_named}
use Rattle.row_lists.specs.declared.fault.LoadFault.{LoadFault}
use Rattle.row_lists.specs.declared.fault.LoadFault.TheVariants.{NoConceptFile}
use Rattle.command_line.specs.declared.words.Mode.{Mode}
use Rattle.command_line.specs.declared.words.Mode.TheVariants.{Query, QueryWith}
use Rattle.query_run.specs.Lines.{AreAnswers, AreWritten, query_lines}
use Rattle.query_service.specs.Answer.{IsAnswer}
use Rattle.snapshot.specs.Loading.{IsLoadOf, IsLoadedFrom}
use Rattle.query_service.specs.Serve.{EndsWith, IsAnswered, IsAskedFor, IsServed, IsTask, Task}
use Rattle.query_service.specs.ModeAnswer.{form_of}
use Rattle.query_service.specs.Streams.{Streams}
use Rattle.query_service.specs.declared.service.Status.TheVariants.{Done}
use Rattle.query_service.proofs.WrittenLemmas.{AreAnswers-weaker}
use Rattle.query_service.specs.LimitedAnswer.{IsAnswerWithin}
use Rattle.answer_printer.specs.declared.form.AnswerForm.{AnswerForm}
use Rattle.query_tool.specs.Promise.{Answers, AnswersUnder, HaveOwnNames, IsReleaseOf, KeepsTheLimitedPromise}
use Rattle.query_tool.specs.Promise.{KeepsThePromise}
use Rattle.streams.specs.declared.output.AnswerOutput.{Ghosts as Output}
use Rattle.streams.specs.declared.input.QueryInput.{Ghosts as Input}

-- if the check for a fault gives `Ok own`, there was no fault, and `own` are the loaded contents
loaded_whole : (contents own : Contents) (fault : Option LoadFault) → unless_faulty contents fault ≡ Ok own
    → own ≡ contents
loaded_whole contents own fault loads = grind (arith, common_steps, nat_tests)

-- if loading gives `Ok own`, the fault for a missing concept file was not raised
unless_unnamed : (named : Bool) (loaded : Result Contents LoadFault) (own : Contents)
    → cond named loaded (Err NoConceptFile) ≡ Ok own → loaded ≡ Ok own
unless_unnamed named loaded own loads = grind (arith, common_steps, nat_tests)

-- the concepts of a release that the standard limits accept rise strictly
concepts_rise : KeepsRising → (language : List ℕ) (files : List FileText) (contents : Contents)
    → load_of standard_limits language files ≡ Ok contents
    → IsStrictlyIncreasing contents.release.concepts
concepts_rise rises language files contents loads =
    let places = places_from 0 files in
    let limits = limits_in_force standard_limits in
    let kinds = length (filter has_kind files) in
    let loaded = unless_unnamed (list_any is_concept_file files) (loaded_from limits language kinds places) contents
    loads in
    let whole = loaded_whole (contents_of language kinds places) contents (first_fault limits [] places) loaded in
    subst (λ (own : Contents). IsStrictlyIncreasing own.release.concepts) (sym whole)
    (rises (map (λ (row : ConceptRow). row.id) (filter (λ (row : ConceptRow). row.active)
    (concept_rows (map text_of_row (chosen (rows_of places))))))).0

-- a filtered list has a number exactly if the list has it and it passes `test`
has_kept : (test : ℕ → Bool) (numbers : List ℕ) (number : ℕ)
    → has (filter test numbers) number ≡ (has numbers number && test number)
has_kept test [] number = refl
has_kept test (first ∷ numbers) number = grind (arith, common_steps, nat_tests, (has_kept test numbers number))

-- if two tests are true, their conjunction is true
true_both : (one other : Bool) → one ≡ true → other ≡ true → (one && other) ≡ true
true_both one other is is_other = grind arith

-- `filter test numbers` contains a number exactly if `numbers` contain it and `test` is true for it
kept : (test : ℕ → Bool) (numbers : List ℕ) (number : ℕ)
    → Contains (filter test numbers) number ↔ (Contains numbers number × IsTrue (test number))
kept test numbers number = (
  λ there.
      let both = and_parts (has numbers number) (test number) (sym (has_kept test numbers number)
      ∙ had_contained (filter test numbers) number there) in
      (contains_had numbers number both.0, both.1),
  λ both. contains_had (filter test numbers) number
      (has_kept test numbers number
      ∙ true_both (has numbers number) (test number) (had_contained numbers number both.0) both.1),
)

-- if the concepts of a release rise, an answer to a line is one as `Answers` of the promise says
answer_said : (contents : Contents) → IsStrictlyIncreasing contents.release.concepts → (line text : List ℕ)
    → IsAnswer contents line text
    → Answers contents line text
answer_said contents rise line text (inl (tree, is, same)) = inl (
  tree,
  is,
  record {
    concepts = denotation contents.release tree;
    rising = IsStrictlyIncreasing-filter (denotes contents.release tree) contents.release.concepts rise;
    exactly = kept (denotes contents.release tree) contents.release.concepts;
    written = same;
  },
)
answer_said contents rise line text (inr refused) = inr refused

-- if the concepts of a release rise, an answer to a line under a limit, in a form, is one as `AnswersUnder` of the
-- promise says
pub limited_answer_said : (limit : ℕ) (form : AnswerForm) (contents : Contents)
    → IsStrictlyIncreasing contents.release.concepts → (line text : List ℕ)
    → IsAnswerWithin limit form contents line text → AnswersUnder limit form contents line text
limited_answer_said limit form contents rise line text (inl (tree, is, answers)) = inl (
  tree,
  is,
  record {
    indexed = answers.indexed;
    of_release = answers.of_release;
    explained = answers.explained;
    concepts = denotation contents.release tree;
    rising = IsStrictlyIncreasing-filter (denotes contents.release tree) contents.release.concepts rise;
    exactly = kept (denotes contents.release tree) contents.release.concepts;
    written = answers.written;
  },
)
limited_answer_said limit form contents rise line text (inr refused) = inr refused

-- an answer as `AnswersUnder` says over the contents `own` is one over equal contents
pub same_said : {own contents : Contents} (limit : ℕ) (form : AnswerForm) (line text : List ℕ) → own ≡ contents
    → AnswersUnder limit form own line text → AnswersUnder limit form contents line text
same_said limit form line text same said =
    subst (λ (contents : Contents). AnswersUnder limit form contents line text) same said

-- if an output had the bytes `there` and `text` was appended, it has `there ++ text`
appended : (there : List ℕ) (after : Option (List ℕ)) (text : List ℕ) → Appends (Some there) after text
    → after ≡ Some (there ++ text)
appended there None text none = absurd none
appended there (Some bytes) text same = ap Some same

-- if no name in a list is the name of `file`, then looking up the names in `file ∷ files` finds what looking them up
-- in `files` finds
passed_over : (file : FileText) (files others : List FileText)
    → AllByRecursion (λ name. bytes_eq file.name name ≡ false) (map (λ (one : FileText). one.name) others)
    → listed (file ∷ files) (map (λ (one : FileText). one.name) others)
    ≡ listed files (map (λ (one : FileText). one.name) others)
passed_over file files [] apart = refl
passed_over file files (other ∷ others) apart =
    let bytes : bytes_of other.name (file ∷ files) ≡ bytes_of other.name files =
    ap (λ (same : Bool). cond same (Some file.bytes) (bytes_of other.name files)) apart.0 in
    let here : text_named (file ∷ files) other.name ≡ text_named files other.name =
    ap (λ (found : Option (List ℕ)). record { name = other.name; bytes = unwrap_or found [] }) bytes in
    ap (λ (one : FileText). one ∷ listed (file ∷ files) (map (λ (one : FileText). one.name) others)) here
    ∙ ap (λ (rest : List FileText). text_named files other.name ∷ rest) (passed_over file files others apart.1)

-- if no two files have the same name, looking up the files' names finds the files
found_by_name : (files : List FileText) → HaveOwnNames files → listed files (map (λ (one : FileText). one.name) files)
    ≡ files
unfolding IsDistinct
found_by_name [] own = refl
found_by_name (file ∷ files) own =
    let bytes : bytes_of file.name (file ∷ files) ≡ Some file.bytes =
    ap (λ (same : Bool). cond same (Some file.bytes) (bytes_of file.name files))
    ((bytes_eq-Decides file.name file.name).1 refl) in
    let here : text_named (file ∷ files) file.name ≡ file =
    ap (λ (found : Option (List ℕ)). record { name = file.name; bytes = unwrap_or found [] }) bytes in
    ap (λ (one : FileText). one ∷ listed (file ∷ files) (map (λ (one : FileText). one.name) files)) here
    ∙ ap (λ (rest : List FileText). file ∷ rest) (passed_over file files files own.0 ∙ found_by_name files own.1)

-- the files that are looked up by `names` have these names
names_listed : (files : List FileText) (names : List (List ℕ)) → map (λ (one : FileText). one.name) (listed files names)
    ≡ names
names_listed files [] = refl
names_listed files (name ∷ names) = ap (λ (rest : List (List ℕ)). name ∷ rest) (names_listed files names)

-- if no two files have the same name, and the files looked up by their names in byte order load as `contents`, then
-- `contents` are the release of the files
release_of : (files : List FileText) (names : List (List ℕ)) (language : List ℕ) (contents : Contents)
    → HaveOwnNames files
    → AreInOrder files names → load_of standard_limits language (listed files names) ≡ Ok contents
    → IsReleaseOf files language contents
release_of files names language contents own order loads = record {
  ordered = listed files names;
  same = subst (λ (all : List FileText). IsPermutation all (listed files names)) (found_by_name files own)
      (IsPermutation-map (text_named files) (map (λ (one : FileText). one.name) files) names order.same);
  rising = subst (IsSorted (slice_cmp nat_cmp)) (sym (names_listed files names)) order.rising;
  accepted = loads;
}

-- if each answer in a mode is one that a promise speaks of, then a request in this mode that ends with status 0 keeps
-- this promise
kept_promise : {R W E : Type 0} → KeepsRising → (r : Input R) (w : Output W) (e : Output E)
    (before after : Streams R W E) (files : List FileText) (language bytes there : List ℕ) (old new : History)
    (task : Task) (mode : Mode) (answers said : Contents → List ℕ → List ℕ → Type 0)
    → (IsAskedFor (Some files) old new language mode task
    → IsLoadedFrom (Some files) old new standard_limits language task.names task.loaded)
    → ((contents : Contents) → IsServed r w mode contents before after → IsAnswered r w (answers contents) before after)
    → ((contents : Contents) → IsStrictlyIncreasing contents.release.concepts → (line text : List ℕ)
    → answers contents line text → said contents line text)
    → HaveOwnNames files → IsTask (Some files) old new language mode task
    → EndsWith r w e task Done before after → r.remaining before.input ≡ Some bytes
    → w.written before.output ≡ Some there
    → (contents : Contents) × IsReleaseOf files language contents
    × (text : List ℕ) × AreAnswers (said contents) (query_lines bytes) text
    × (w.written after.output ≡ Some (there ++ text))
kept_promise rises r w e before after files language bytes there old new task mode answers said from_files
    answered_lines in_words own asked (inl served) reads wrote =
    let contents = served.contents in
    let answers_from = λ (earlier : Option (List ℕ)) (known : List ℕ).
    AreWritten (answers contents) (query_lines known) earlier (w.written after.output) in
    let loads : IsLoadOf files standard_limits language task.names (Ok contents) =
    subst (IsLoadOf files standard_limits language task.names) served.loaded (from_files asked.loaded).loaded in
    let answered : IsAnswered r w (answers contents) before after =
    answered_lines contents
    (subst (λ (done : Mode). IsServed r w done contents before after) asked.mode_is served.ended.served) in
    let read : AreWritten (answers contents) (query_lines bytes) (w.written before.output) (w.written after.output) =
    subst (λ (input : Option (List ℕ)). IfSome input (answers_from (w.written before.output))) reads answered.written in
    let (text, are_answers, following) =
    subst (λ (earlier : Option (List ℕ)). answers_from earlier bytes) wrote read in (
      contents,
      release_of files task.names language contents own loads.0 loads.1,
      text,
      AreAnswers-weaker (answers contents) (said contents)
          (in_words contents (concepts_rise rises language (listed files task.names) contents loads.1))
          (query_lines bytes) text are_answers,
      appended there (w.written after.output) text following,
    )
kept_promise rises r w e before after files language bytes there old new task mode answers said from_files
    answered_lines in_words own asked (inr none) reads wrote = absurd none

-- a query request without options that ends with status 0 keeps the promise
pub promise_kept : {R W E : Type 0} → KeepsRising → (r : Input R) (w : Output W) (e : Output E) → KeepsThePromise r w e
promise_kept rises r w e = λ before after files language bytes there old new task.
    kept_promise rises r w e before after files language bytes there old new task Query IsAnswer Answers
    (λ loaded. loaded) (λ contents served. served) answer_said

-- a query request with options that ends with status 0 keeps the promise under a limit
pub limited_promise_kept : {R W E : Type 0} → KeepsRising → (r : Input R) (w : Output W) (e : Output E)
    → KeepsTheLimitedPromise r w e
limited_promise_kept rises r w e = λ before after files language bytes there old new task options.
    kept_promise rises r w e before after files language bytes there old new task (QueryWith options)
    (IsAnswerWithin options.limit (form_of options)) (AnswersUnder options.limit (form_of options))
    (λ loaded. loaded) (λ contents served. served) (limited_answer_said options.limit (form_of options))
