-- Passes over files that a source reads in pieces.
use Rattle.std.proofs.Common.{rules, ◌⊎◌, sym, Global, String, unwrap_or, take, ◌≡◌, ◌≢◌, inl, inr, ◌∙◌, ℕ, ◌+◌, ◌-◌}
use Rattle.std.proofs.Common.{◌^◌, ◌<◌, ◌≤◌, refl, List, [], ◌∷◌, ◌++◌, length, map, drop, drop-cons, get_or, ap, subst}
use Rattle.std.proofs.Common.{arith, Option, None, Some, Result, Ok, Err, MatchResult, length-drop, length-take, min}
use Rattle.std.proofs.Common.{Bool, IfErr, IsPermutation, OnOk, option_map, string_bytes, is_lt, nat_cmp, take_all}
use Rattle.std.proofs.lemmas.Bool.Decides.{nat_tests}
use Rattle.std.proofs.lemmas.Grind.{common_steps}
use Rattle.std.specs.Cmp.Lexicographic.{slice_cmp}
use Rattle.std.specs.List.Sorted.{IsSorted, IsSortedBy}
use Rattle.std.specs.String.{string_cmp}
use Rattle.std.proofs.lemmas.List.{get_or-map, length-map, drop_all}
use Rattle.std.proofs.lemmas.List.Sorted.{IsPermutation-map}
use Rattle.release_files.proofs.Parts.{length-lines}
use Rattle.release_files.specs.Lines.{LineText, line_text, lines_of}
use Rattle.release_files.specs.PieceLines.{GivesNext, HasEnded, lines_to_come}
use Rattle.release_files.specs.Source.{FailsAtName, FailsAtOpened, FileText, History, IsToldAs, bytes_of}
use Rattle.release_files.specs.declared.lines.Line.{Line}
use Rattle.release_files.specs.declared.piece_lines.PieceLines.{PieceLines}
use Rattle.release_files.specs.declared.source.SourceFault.{SourceFault}
use Rattle.release_files.specs.declared.source.SourceFault.TheVariants as source_fault
use Rattle.release_files.specs.declared.source.SourceFault.TheVariants.{Device}
use Rattle.rf2_rows.specs.declared.kind.FileKind.{FileKind}
use Rattle.release_rows.specs.Files.{Place, first_line, later_line, no_line, places_from, places_of_file}
use Rattle.release_rows.specs.Files.{places_of_kind, places_of_lines}
use Rattle.rf2_rows.specs.Files.{file_kind_of}
use Rattle.std.proofs.lemmas.Bool.{cases_lt, false≢true}
use Rattle.release_files.specs.Held.{ReadsOn, TakesWithin, reachable}
use Rattle.release_files.proofs.HeldLemmas.{reachable_told}
use Rattle.std.specs.List.{slice_get}
use Rattle.std.specs.Prelude.{IfSome, is_some, true, zero, suc}
use Rattle.release_rows.specs.Pieces.{has_kind_at, AreInOrder, cut_file, FailsAt, FailsAtFile, GoesOver, fault_of}
use Rattle.release_rows.specs.Pieces.{listed, text_named}
use Rattle.release_rows.specs.Traversal.{StopsAt, TakesAll, taken}
use Rattle.release_rows.specs.DeviceFaults.{FailsAtOneOf, FailsAtRead, is_device}
use Rattle.row_lists.specs.declared.fault.LoadFault.{LoadFault}
use Rattle.row_lists.specs.declared.fault.LoadFault.TheVariants.{Memory}
use Rattle.release_rows.proofs.TakingLemmas.{Leads, Leads-end, Leads-next, Leads-on, Leads-stop, Leads-until}
use Rattle.release_rows.proofs.TakingLemmas.{stops_lines, stops_none, takes_lines, takes_none}

-- a call of `next_line` gives the next line, or none because none was to come; or it failed, and no line is to come any
-- more
abbrev pub Gives : Result (Option Line) SourceFault → PieceLines → PieceLines → Option (List ℕ) → Option (List ℕ)
    → Type 0
Gives result old new before after =
    MatchResult result (λ line. GivesNext (option_map line_text line) old new before after) (λ _. HasEnded new)

-- the contract of `next_line`, which also bounds the bytes that it reads, implies `Gives`
pub gives_next : (result : Result (Option Line) SourceFault) (old new : PieceLines)
    (before after ahead following : Option (List ℕ))
    → MatchResult result (λ line. GivesNext (option_map line_text line) old new before after
    × TakesWithin ahead following old.held.left new.held.left) (λ _. HasEnded new) → Gives result old new before after
gives_next (Ok line) old new before after ahead following both = both.0
gives_next (Err fault) old new before after ahead following ended = ended

-- a reading within `left` bytes, of which `still` remain, is a reading within `most` bytes if `left ≤ most`
pub reads_most : (old new : History) (left still most : ℕ) → ReadsOn old new left still → left ≤ most
    → ReadsOn old new most 0
reads_most old new left still most reads few = record {
  less = omega arith;
  taken = omega (arith, reads.taken, few);
  most = omega (arith, reads.most, few);
  opened = reads.opened;
  unlisted = reads.unlisted;
}

-- `line` was the first line to come, and `after` tells the bytes that are left after it
pub record GaveLine (line : LineText) (old new : PieceLines) (after : Option (List ℕ)) (rest : List ℕ) : Type 0 where
  -- the bytes that are left after the line
  pub now : List ℕ
  -- the source tells these bytes
  pub told : after ≡ Some now
  -- the lines to come were the line, followed by the lines to come of the bytes left
  pub cut : lines_to_come old rest ≡ line ∷ lines_to_come new now

-- a call that gives a line gives the first line to come
pub gave_line : (result : Result (Option Line) SourceFault) (line : Line) (old new : PieceLines)
    (before after : Option (List ℕ)) (rest : List ℕ)
    → Gives result old new before after → result ≡ Ok (Some line) → before ≡ Some rest
    → GaveLine (line_text line) old new after rest
gave_line result line old new before after rest gives is told = grind (arith)

-- if a call gives no line, no line was to come
pub gave_none : (result : Result (Option Line) SourceFault) (old new : PieceLines) (before after : Option (List ℕ))
    (rest : List ℕ)
    → Gives result old new before after → result ≡ Ok None → before ≡ Some rest → lines_to_come old rest ≡ []
gave_none result old new before after rest gives is told = grind (arith, common_steps, nat_tests)

-- the invariant of the loop over the lines after the first: fewer lines are still to come than turns of the loop
-- remain, and visiting these lines completes the pass over `all`
pub record LinesLeft {Held : Type 0} (takes : Held → Place → Held → Type 0)
    (refuses : Held → Place → Held → LoadFault → Type 0) (file : ℕ) (kind : FileKind) (old : Held) (all : List Place)
    (turns : ℕ) (turn : ℕ) (after : Option (List ℕ)) (lines : PieceLines) (held : Held) : Type 0 where
  -- the bytes that are left
  pub now : List ℕ
  -- the source tells these bytes
  pub told : after ≡ Some now
  -- fewer lines are still to come than turns of the loop remain
  pub within : length (lines_to_come lines now) + turn < turns
  -- visiting these lines completes the pass
  pub leads : Leads takes refuses old all held (map (later_line file kind) (lines_to_come lines now))

module _ {Held : Type 0} (takes : Held → Place → Held → Type 0) (refuses : Held → Place → Held → LoadFault → Type 0)
    (file : ℕ) (kind : FileKind) where
  -- if the next line is taken, `LinesLeft` holds after one more turn
  pub LinesLeft-next : (old held new : Held) (all : List Place) (turns turn : ℕ) (before after : Option (List ℕ))
      (lines later : PieceLines) (result : Result (Option Line) SourceFault) (line : Line)
      → LinesLeft takes refuses file kind old all turns turn before lines held → Gives result lines later before after
      → result ≡ Ok (Some line)
      → takes held (later_line file kind (line_text line)) new
      → LinesLeft takes refuses file kind old all turns (turn + 1) after later new
  LinesLeft-next old held new all turns turn before after lines later result line left gives is step =
      search (rules, Leads-next, gave_line)

  -- if the next line is refused, going over all places stops at it
  pub LinesLeft-stop : (old held new : Held) (all : List Place) (turns turn : ℕ) (before after : Option (List ℕ))
      (lines later : PieceLines) (result : Result (Option Line) SourceFault) (line : Line) (fault : LoadFault)
      → LinesLeft takes refuses file kind old all turns turn before lines held → Gives result lines later before after
      → result ≡ Ok (Some line)
      → refuses held (later_line file kind (line_text line)) new fault → StopsAt takes refuses old all new fault
  LinesLeft-stop old held new all turns turn before after lines later result line fault left gives is refused =
      let gave = gave_line result line lines later before after left.now gives is left.told in
      Leads-stop takes refuses old held new all (map (later_line file kind) (lines_to_come later gave.now))
      (later_line file kind (line_text line)) fault (rw gave.cut at left.leads) refused

  -- if no line is left, all places have been taken
  pub LinesLeft-end : (old held : Held) (all : List Place) (turns turn : ℕ) (before after : Option (List ℕ))
      (lines later : PieceLines) (result : Result (Option Line) SourceFault)
      → LinesLeft takes refuses file kind old all turns turn before lines held
      → Gives result lines later before after → result ≡ Ok None → TakesAll takes old all held
  LinesLeft-end old held all turns turn before after lines later result left gives is =
      grind (arith, common_steps, nat_tests, Leads-end, gave_none)

  -- after the first line is taken, going over the places of the file ends as going over the other lines does
  pub goes_lines : (fails later_fails : LoadFault → Type 0) (lines : List LineText) (first : LineText)
      (others : List LineText) → lines ≡ first ∷ others
      → ((fault : LoadFault) → later_fails fault → fails fault) → (old middle new : Held)
      → takes old (first_line file kind first) middle
      → (result : Result (Unit {0}) LoadFault)
      → GoesOver takes refuses later_fails middle (map (later_line file kind) others) result new
      → GoesOver takes refuses fails old (places_of_lines file kind lines) result new
  goes_lines fails later_fails lines first others cut so old middle new step (Ok done) went =
      search (rules, takes_lines)
  goes_lines fails later_fails lines first others cut so old middle new step (Err fault) went =
      grind (arith, (stops_lines takes refuses file kind lines first others cut old middle new fault step), (so fault))

  -- going over a file without a line takes or refuses its one place
  pub goes_none : (fails : LoadFault → Type 0) (lines : List LineText) → lines ≡ []
      → (old new : Held) (result : Result (Unit {0}) LoadFault)
      → OnOk result (takes old (no_line file kind) new)
      → IfErr result (λ fault. fault ≢ Memory → refuses old (no_line file kind) new fault)
      → GoesOver takes refuses fails old (places_of_lines file kind lines) result new
  goes_none fails lines cut old new (Ok done) step refused = takes_none takes refuses file kind lines cut old new step
  goes_none fails lines cut old new (Err fault) step refused =
      λ other. inr (stops_none takes refuses file kind lines cut old new fault (refused other))

-- a file has no more lines than bytes
length-lines_of : (bytes : List ℕ) → length (lines_of bytes) ≤ length bytes
unfolding lines_of
length-lines_of bytes = grind (arith, common_steps, nat_tests, length-drop, length-lines)

-- a file that is cut at `limit` bytes has fewer than `limit` lines after its first
pub few_lines : (limit : ℕ) (bytes : List ℕ) (first : LineText) (others : List LineText)
    → lines_of (take limit bytes) ≡ first ∷ others → length others < limit
few_lines limit bytes first others cut =
    omega (
      arith,
      length-lines_of (take limit bytes),
      length-take limit bytes,
      ap (λ (lines : List LineText). length lines) cut,
    )

-- if `left` is `limit + 1`, or 2^64 - 1 if that is less, the first `left` bytes of a file of less than 2^64 bytes are
-- its first `limit + 1` bytes
pub cut_bytes : (limit left : ℕ) (bytes : List ℕ) → length bytes < 2 ^ 64 → left ≡ min (limit + 1) (2 ^ 64 - 1)
    → take left bytes ≡ take (limit + 1) bytes
cut_bytes limit left bytes short is = grind (arith, cases_lt, take_all)

-- the first `count` bytes of a file of less than 2^64 bytes are less than 2^64 bytes
pub cut_short : (count : ℕ) (bytes : List ℕ) → length bytes < 2 ^ 64 → length (take count bytes) < 2 ^ 64
cut_short count bytes short = omega (arith, length-take count bytes)

-- a reader that may read `left` more bytes (`limit + 1`, at most 2^64 - 1) can reach the first `limit + 1` bytes of a
-- file of less than 2^64 bytes
pub cut_reachable : (limit left held : ℕ) (rest : Option (List ℕ)) (bytes : List ℕ) → rest ≡ Some bytes
    → length bytes < 2 ^ 64 → left ≡ min (limit + 1) (2 ^ 64 - 1) → held ≡ left
    → reachable held rest ≡ Some (take (limit + 1) bytes)
cut_reachable limit left held rest bytes told short is same =
    grind (arith, (reachable_told held rest bytes told), (cut_bytes limit left bytes short is))

-- if reading an open file fails with `fault`, and the load's fault `found` is not want of memory, `found` is a failure
-- of the device at `file`; the failure counts from `start`, since no failure came between
pub device_fails : (file : ℕ) (start old new : History) (fault : SourceFault) (found : LoadFault)
    → FailsAtOpened {T = Unit {0}} (Err fault) old new → old.failures ≡ start.failures → found ≡ fault_of file fault
    → found ≢ Memory
    → FailsAt file start new found
device_fails file start old new Device found counts same is other = (is, rw (← same) counts.0)
device_fails file start old new source_fault.Memory found counts same is other = absurd (other is)

-- if reading an open file fails and the load's fault is a failure of the device, the source names the file that it
-- opened last as the failed one
pub device_failed : (file : ℕ) (old new : History) (fault : SourceFault) (found : LoadFault)
    → FailsAtOpened {T = Unit {0}} (Err fault) old new → found ≡ fault_of file fault → is_device found ≡ true
    → new.failed ≡ old.opened
device_failed file old new Device found counts is device = counts.1
device_failed file old new source_fault.Memory found counts is device =
    absurd (false≢true (sym (ap is_device is) ∙ device))

-- if opening a file fails and the load's fault `found` is not want of memory, `found` is a failure of the device at
-- `file`
pub device_fails_to_open : {S : Type 0} (history : S → History) (file : ℕ) (name : List ℕ) (old new : S)
    (fault : SourceFault) (found : LoadFault)
    → FailsAtName {T = Unit {0}} name (Err fault) (history old) (history new) → found ≡ fault_of file fault
    → found ≢ Memory
    → FailsAt file (history old) (history new) found
device_fails_to_open history file name old new Device found counts is other = (is, counts.0)
device_fails_to_open history file name old new source_fault.Memory found counts is other = absurd (other is)

-- a failure at a file that was counted from `old` is counted from `start` if both have one count of failures
pub fails_from : (file : ℕ) (start old new : History) (fault : LoadFault) → old.failures ≡ start.failures
    → FailsAt file old new fault
    → FailsAt file start new fault
fails_from file start old new fault same failed = (failed.0, rw (← same) failed.1)

module _ {Held : Type 0} (takes : Held → Place → Held → Type 0) (refuses : Held → Place → Held → LoadFault → Type 0)
    (file limit : ℕ) (known : List FileText) (name : List ℕ) where
  -- a file without a kind has no places to take
  pub takes_unnamed : None ≡ file_kind_of name → (held : Held)
      → TakesAll takes held (places_of_file file (cut_file limit (text_named known name))) held
  takes_unnamed is held = grind (arith, places_of_kind, unwrap_or, bytes_of, taken)

-- the places of the files from index `i` on are those of the file at `i` and those of the files after it
pub places_from-listed : {A : Type 0} (limit : ℕ) (known : List FileText) (name_of : A → List ℕ) (i : ℕ)
    (names : List A) (d : A) (name : List ℕ) → i < length names → name ≡ name_of (get_or names i d)
    → places_from i (map (cut_file limit) (listed known (map name_of (drop i names))))
    ≡ places_of_file i (cut_file limit (text_named known name))
    ++ places_from (i + 1) (map (cut_file limit) (listed known (map name_of (drop (i + 1) names))))
places_from-listed limit known name_of i names d name within is =
    grind (arith, common_steps, nat_tests, drop-cons, get_or)

-- past the last name there is no place
pub places_from-none : {A : Type 0} (limit : ℕ) (known : List FileText) (name_of : A → List ℕ) (i : ℕ)
    (names : List A) → length names ≤ i
    → places_from i (map (cut_file limit) (listed known (map name_of (drop i names)))) ≡ []
places_from-none limit known name_of i names following =
    ap (λ rest. places_from i (map (cut_file limit) (listed known (map name_of rest)))) (drop_all i names following)

module _ {Held : Type 0} (takes : Held → Place → Held → Type 0) (refuses : Held → Place → Held → LoadFault → Type 0)
  where
    -- if the places of one more file were taken, taking the others takes all
    pub leads_name : (fails : LoadFault → Type 0) (old held new : Held) (all here left : List Place)
        (result : Result (Unit {0}) LoadFault) (done : Unit {0})
        → Leads takes refuses old all held (here ++ left) → GoesOver takes refuses fails held here result new
        → result ≡ Ok done → Leads takes refuses old all new left
    leads_name fails old held new all here left result done leads went is =
        grind (arith, common_steps, nat_tests, Leads-on)

    went_wrong : (fails : LoadFault → Type 0) (old held new : Held) (all here left : List Place) (fault : LoadFault)
        → Leads takes refuses old all held (here ++ left) → fails fault ⊎ StopsAt takes refuses held here new fault
        → fails fault ⊎ StopsAt takes refuses old all new fault
    went_wrong fails old held new all here left fault leads (inl failed) = inl failed
    went_wrong fails old held new all here left fault leads (inr stops) =
        inr (Leads-until takes refuses old held new all here left fault leads stops)

    -- if going over the places of one more file ends at a fault, the device failed or going over all places stops there
    pub stops_name : (fails : LoadFault → Type 0) (old held new : Held) (all here left : List Place)
        (result : Result (Unit {0}) LoadFault) (fault : LoadFault)
        → Leads takes refuses old all held (here ++ left) → GoesOver takes refuses fails held here result new
        → result ≡ Err fault → fault ≢ Memory → fails fault ⊎ StopsAt takes refuses old all new fault
    stops_name fails old held new all here left result fault leads went is other =
        went_wrong fails old held new all here left fault leads
        (subst (λ (answer : Result (Unit {0}) LoadFault). GoesOver takes refuses fails held here answer new) is went
        other)

-- a list sorted by what `f` yields is sorted after applying `f`
sorted_map : {X Y : Type 0} (f : X → Y) (lt : Y → Y → Bool) (xs : List X)
    → IsSortedBy (λ one other. lt (f one) (f other)) xs → IsSortedBy lt (map f xs)
sorted_map f lt [] sorted k default low high = absurd (omega arith)
sorted_map f lt (x ∷ xs) sorted k default low high =
    grind (
      arith,
      (get_or-map f (x ∷ xs) (k + 1) x default),
      (get_or-map f (x ∷ xs) k x default),
      (length-map (x ∷ xs) f),
      (sorted k x low),
    )

-- the bytes of sorted names are in byte order
pub in_byte_order : (sorted : List (String Global)) → IsSorted string_cmp sorted
    → IsSorted (slice_cmp nat_cmp) (map string_bytes sorted)
in_byte_order sorted rising = sorted_map string_bytes (λ one other. is_lt (slice_cmp nat_cmp one other)) sorted rising

-- if `listed` are the names of the `known` files and `sorted` are the same names in order, `sorted` has the names of
-- the files in byte order
pub in_order : (known : List FileText) (listed sorted : List (String Global))
    → map string_bytes listed ≡ map (λ (file : FileText). file.name) known
    → IsPermutation listed sorted → IsSorted string_cmp sorted → AreInOrder known (map string_bytes sorted)
in_order known listed sorted named moved rising = record {
  same = subst (λ (names : List (List ℕ)). IsPermutation names (map string_bytes sorted)) named
      (IsPermutation-map string_bytes listed sorted moved);
  rising = sorted_map string_bytes (λ one other. is_lt (slice_cmp nat_cmp one other)) sorted rising;
}

-- the name at index `i` is that of item `i`
slice_get_name : {A : Type 0} (name_of : A → List ℕ) (names : List A) (i : ℕ) (d : A) → i < length names
    → slice_get (map name_of names) i ≡ Some (name_of (get_or names i d))
slice_get_name name_of [] i d within = absurd (omega arith)
slice_get_name name_of (x ∷ xs) zero d within = refl
slice_get_name name_of (x ∷ xs) (suc i) d within = slice_get_name name_of xs i d (omega arith)

-- the file at index `i` has a kind exactly if its own name has one
pub kind_at : {A : Type 0} (name_of : A → List ℕ) (names : List A) (i : ℕ) (d : A) (name : List ℕ) → i < length names
    → name ≡ name_of (get_or names i d)
    → has_kind_at (map name_of names) i ≡ is_some (file_kind_of name)
kind_at name_of [] i d name within is = grind arith
kind_at name_of (x ∷ xs) zero d name within is = ap (λ one. is_some (file_kind_of one)) (sym is)
kind_at name_of (x ∷ xs) (suc i) d name within is = kind_at name_of xs i d name (omega arith) is

-- `FailsAtRead reads fault` holds if a failure of the device can only be one at `file`, and only if `reads` is true of
-- `file`
pub fails_at_read : (reads : ℕ → Bool) (file : ℕ) (old new : History) (fault : LoadFault)
    → (is_device fault ≡ true → FailsAt file old new fault) → (is_device fault ≡ true → reads file ≡ true)
    → FailsAtRead reads fault
fails_at_read reads file old new fault failed kind = grind (arith, common_steps, nat_tests)

-- a failure at one file that was counted from `middle` is a failure at some file counted from `old`, if both have one
-- count of failures
pub fails_at_file : {X : Type 0} (file : ℕ) (old middle new : History) (fault : LoadFault)
    → middle.failures ≡ old.failures
    → FailsAt file middle new fault ⊎ X → FailsAtFile old new fault ⊎ X
fails_at_file file old middle new fault same (inl failed) = inl (file, fails_from file old middle new fault same failed)
fails_at_file file old middle new fault same (inr stops) = inr stops

-- a failure of the device at the file with the index `file` is one at one of the files `names`, if the index is in the
-- list and the source, if it names the failed file, names this one
pub fails_at_one : {A : Type 0} (name_of : A → List ℕ) (names : List A) (file : ℕ) (d : A) (name : List ℕ)
    (old middle new : History)
    (fault : LoadFault) → file < length names → name ≡ name_of (get_or names file d) → middle.failures ≡ old.failures
    → FailsAt file middle new fault → IsToldAs new.failed name → FailsAtOneOf (map name_of names) old new fault
fails_at_one name_of names file d name old middle new fault within is same failed told =
    let from = fails_from file old middle new fault same failed in (
      file,
      omega (arith, length-map names name_of),
      from.0,
      from.1,
      told_one new.failed told,
    )
  where
    here : slice_get (map name_of names) file ≡ Some name
    here = slice_get_name name_of names file d within ∙ ap Some (sym is)

    told_one : (told : Option (List ℕ)) → IsToldAs told name
        → IfSome told (λ one. slice_get (map name_of names) file ≡ Some one)
    told_one None said = tt
    told_one (Some one) said = here ∙ ap Some (sym said)
