-- Passes over places, to the end or up to a place that is refused.
use Rattle.std.proofs.lemmas.Bool.Decides.{nat_tests}
use Rattle.std.proofs.lemmas.Grind.{common_steps}
use Rattle.std.proofs.Common.{ℕ, ◌≡◌, ◌+◌, ◌<◌, ◌≤◌, List, [], ◌∷◌, ◌++◌, append_assoc, ap, arith, drop, drop-cons}
use Rattle.std.proofs.Common.{get_or, length, map, ◌∙◌, refl, subst, sym, ◌^◌, true, false, Option, Some, Result, IfErr}
use Rattle.std.proofs.Common.{IfOk, IfSome}
use Rattle.std.proofs.lemmas.List.{drop_all}
use Rattle.release_files.specs.Source.{file_text}
use Rattle.release_files.specs.declared.NamedBytes.{NamedBytes}
use Rattle.release_files.specs.Lines.{LineText}
use Rattle.rf2_rows.specs.declared.kind.FileKind.{FileKind}
use Rattle.release_rows.specs.Files.{Place, first_line, later_line, no_line, places_from, places_of_file}
use Rattle.release_rows.specs.Files.{places_of_lines}
use Rattle.std.proofs.lemmas.Bool.{cases_Bool}
use Rattle.release_rows.specs.Traversal.{StopsAt, TakesAll, next, taken}
use Rattle.release_rows.specs.DeviceFaults.{FailsAtOneOf, ReadsWithin, is_device}
use Rattle.release_files.specs.Source.{History}
use Rattle.row_lists.specs.declared.fault.LoadFault.{LoadFault}

-- places that are taken, and then further places that are taken, are taken together
TakesAll-following : {Held : Type 0} (takes : Held → Place → Held → Type 0) (old middle new : Held)
    (front places : List Place)
    → TakesAll takes old front middle → TakesAll takes middle places new → TakesAll takes old (front ++ places) new
TakesAll-following takes old middle new front places (taken held) later = later
TakesAll-following takes old middle new front places (next from to end place others step rest) later =
    grind (arith, next, (TakesAll-following takes to end new others places rest later))

-- if the visitor takes some places and refuses one of those after them, the pass over both stops there
StopsAt-following : {Held : Type 0} (takes : Held → Place → Held → Type 0)
    (refuses : Held → Place → Held → LoadFault → Type 0) (old middle new : Held) (front places : List Place)
    (fault : LoadFault)
    → TakesAll takes old front middle → StopsAt takes refuses middle places new fault
    → StopsAt takes refuses old (front ++ places) new fault
StopsAt-following takes refuses old middle new front places fault first stop =
    grind (
      arith,
      (append_assoc front stop.before (stop.place ∷ stop.later)),
      (TakesAll-following takes old middle stop.middle front stop.before first stop.taken_before),
    )

-- a pass over `all` that began in the state `old` is in the state `now`, and has the places `left` still to visit
pub record Leads {Held : Type 0} (takes : Held → Place → Held → Type 0)
    (refuses : Held → Place → Held → LoadFault → Type 0) (old : Held) (all : List Place) (now : Held)
    (left : List Place) : Type 0 where
  -- if the visitor takes the places left, it has taken all
  pub goes : (new : Held) → TakesAll takes now left new → TakesAll takes old all new
  -- if the visitor refuses one of the places left, the whole pass stops there
  pub stops : (new : Held) (fault : LoadFault) → StopsAt takes refuses now left new fault
      → StopsAt takes refuses old all new fault

module _ {Held : Type 0} (takes : Held → Place → Held → Type 0) (refuses : Held → Place → Held → LoadFault → Type 0)
  where
    -- after the places of `front` were taken, the places left still decide about all
    pub Leads-on : (old now later : Held) (all front left : List Place)
        → Leads takes refuses old all now (front ++ left) → TakesAll takes now front later
        → Leads takes refuses old all later left
    Leads-on old now later all front left leads went = record {
      goes = λ new rest. leads.goes new (TakesAll-following takes now later new front left went rest);
      stops = λ new fault stop.
          leads.stops new fault (StopsAt-following takes refuses now later new front left fault went stop);
    }

    -- if the visitor takes one place, the pass has only the places after it still to visit
    pub Leads-next : (old now later : Held) (all left : List Place) (place : Place)
        → Leads takes refuses old all now (place ∷ left) → takes now place later
        → Leads takes refuses old all later left
    Leads-next old now later all left place leads step =
        Leads-on old now later all (place ∷ []) left leads (next now later later place [] step (taken later))

    -- if the visitor refuses one of the next places `here`, the whole pass stops there
    pub Leads-until : (old now new : Held) (all here left : List Place) (fault : LoadFault)
        → Leads takes refuses old all now (here ++ left) → StopsAt takes refuses now here new fault
        → StopsAt takes refuses old all new fault
    Leads-until old now new all here left fault leads stop = leads.stops new fault (record {
      before = stop.before;
      place = stop.place;
      later = stop.later ++ left;
      middle = stop.middle;
      cut = ap (λ (all : List Place). all ++ left) stop.cut ∙ append_assoc stop.before (stop.place ∷ stop.later) left;
      taken_before = stop.taken_before;
      refused = stop.refused;
    })

    -- if no place is left to visit, the visitor has taken all places
    pub Leads-end : (old now : Held) (all : List Place) → Leads takes refuses old all now []
        → TakesAll takes old all now
    Leads-end old now all leads = leads.goes now (taken now)

    -- if the visitor refuses the next place, the whole pass stops there
    pub Leads-stop : (old now new : Held) (all left : List Place) (place : Place) (fault : LoadFault)
        → Leads takes refuses old all now (place ∷ left) → refuses now place new fault
        → StopsAt takes refuses old all new fault
    Leads-stop old now new all left place fault leads refused =
        leads.stops new fault (record {
          before = [];
          place = place;
          later = left;
          middle = now;
          cut = refl;
          taken_before = taken now;
          refused = refused;
        })

-- the places of the files from index `i` on are those of the file at `i` and those of the files after it
pub places_from-next : (i : ℕ) (files : List NamedBytes) (d : NamedBytes) → i < length files
    → places_from i (map file_text (drop i files))
    ≡ places_of_file i (file_text (get_or files i d)) ++ places_from (i + 1) (map file_text (drop (i + 1) files))
places_from-next i files d within = grind (arith, common_steps, nat_tests, drop-cons, get_or)

-- if a pass has the files from index `i` on still to visit, and a place of the file at `i` is refused, the whole pass
-- stops there
pub stops_file : {Held : Type 0} (takes : Held → Place → Held → Type 0)
    (refuses : Held → Place → Held → LoadFault → Type 0) (old now new : Held) (all : List Place) (i : ℕ)
    (files : List NamedBytes) (d : NamedBytes) (fault : LoadFault) → i < length files
    → Leads takes refuses old all now (places_from i (map file_text (drop i files)))
    → StopsAt takes refuses now (places_of_file i (file_text (get_or files i d))) new fault
    → StopsAt takes refuses old all new fault
stops_file takes refuses old now new all i files d fault within leads stop =
    Leads-until takes refuses old now new all (places_of_file i (file_text (get_or files i d)))
    (places_from (i + 1) (map file_text (drop (i + 1) files))) fault
    (subst (Leads takes refuses old all now) (places_from-next i files d within) leads) stop

-- if `P` holds of the fault of `result`, if it has one, and `P` implies `Q`, then `Q` holds of it
pub if_err : {T E : Type 0} (P Q : E → Type 0) (result : Result T E) → ((fault : E) → P fault → Q fault)
    → IfErr result P → IfErr result Q
if_err x0 x1 x2 so said = grind arith

-- the places of a file are its first line and then the other lines
module _ {Held : Type 0} (takes : Held → Place → Held → Type 0) (refuses : Held → Place → Held → LoadFault → Type 0)
    (file : ℕ) (kind : FileKind) (lines : List LineText) where
  -- if the first line and the other lines are taken, all places of the file are
  pub takes_lines : (first : LineText) (others : List LineText) → lines ≡ first ∷ others → (old middle new : Held)
      → takes old (first_line file kind first) middle
      → TakesAll takes middle (map (later_line file kind) others) new
      → TakesAll takes old (places_of_lines file kind lines) new
  takes_lines first others cut old middle new step rest = grind (arith, places_of_lines, next, first_line, later_line)

  -- if the visitor takes the first line and refuses one of the others, the pass over the file stops there
  pub stops_lines : (first : LineText) (others : List LineText) → lines ≡ first ∷ others
      → (old middle new : Held) (fault : LoadFault) → takes old (first_line file kind first) middle
      → StopsAt takes refuses middle (map (later_line file kind) others) new fault
      → StopsAt takes refuses old (places_of_lines file kind lines) new fault
  stops_lines first others cut old middle new fault step rest =
      grind (arith, places_of_lines, first_line, later_line, next, taken)

  -- if the visitor refuses the first line, the pass over the file stops there
  pub stops_first : (first : LineText) (others : List LineText) → lines ≡ first ∷ others
      → (old new : Held) (fault : LoadFault)
      → refuses old (first_line file kind first) new fault
      → StopsAt takes refuses old (places_of_lines file kind lines) new fault
  stops_first first others cut old new fault refused =
      rw cut (record {
        before = [];
        place = first_line file kind first;
        later = map (later_line file kind) others;
        middle = old;
        cut = refl;
        taken_before = taken old;
        refused = refused;
      })

  -- a file without a line is taken if its one place is
  pub takes_none : lines ≡ [] → (old new : Held) → takes old (no_line file kind) new
      → TakesAll takes old (places_of_lines file kind lines) new
  takes_none cut old new step =
      subst (λ (all : List LineText). TakesAll takes old (places_of_lines file kind all) new) (sym cut)
      (next old new new (no_line file kind) [] step (taken new))

  -- a file without a line stops the pass if its one place is refused
  pub stops_none : lines ≡ [] → (old new : Held) (fault : LoadFault) → refuses old (no_line file kind) new fault
      → StopsAt takes refuses old (places_of_lines file kind lines) new fault
  stops_none cut old new fault refused =
      rw cut (record {
        before = [];
        place = no_line file kind;
        later = [];
        middle = old;
        cut = refl;
        taken_before = taken old;
        refused = refused;
      })

-- past the last file there is no place
pub places_from-end : (i : ℕ) (files : List NamedBytes) → length files ≤ i
    → places_from i (map file_text (drop i files)) ≡ []
places_from-end i files following =
    ap (λ (rest : List NamedBytes). places_from i (map file_text rest)) (drop_all i files following)

-- if `P` holds of the value of `result`, if it has one, and `P` implies `Q`, then `Q` holds of it
pub if_ok : {T E : Type 0} (P Q : T → Type 0) (result : Result T E) → ((found : T) → P found → Q found) → IfOk result P
    → IfOk result Q
if_ok x0 x1 x2 so said = grind arith

-- if `P` holds of each value that `told` may have, it holds of the value of `told`, if there is one
pub if_told : {A : Type 0} (P : A → Type 0) (told : Option A) → ((known : A) → told ≡ Some known → P known)
    → IfSome told P
if_told x0 x1 so = grind arith

-- if `P` holds of the value of `told`, if there is one, and that value is `known`, then `P` holds of `known`
pub at_told : {A : Type 0} (P : A → Type 0) (told : Option A) (known : A) → told ≡ Some known → IfSome told P → P known
at_told {A} P told known is said = subst (λ (some : Option A). IfSome some P) is said

-- a failure at one of the files that counts from the history `middle` also counts from `old`, if both have the same
-- count of failures
pub fails_since : (names more : List (List ℕ)) (old middle new : History) (fault : LoadFault) → more ≡ names
    → middle.failures ≡ old.failures
    → FailsAtOneOf more middle new fault → FailsAtOneOf names old new fault
fails_since names more old middle new fault same before failed =
    rw (← same) (failed.0, failed.1, failed.2, rw (← before) failed.3, failed.4)

-- a fault is no failure of the device if such a failure would have raised the count of failures, but the count is the
-- same as before and below its greatest value
pub no_device : (names : List (List ℕ)) (old : History) (fault : LoadFault) → old.failures + 1 < 2 ^ 64
    → (is_device fault ≡ true → FailsAtOneOf names old old fault) → is_device fault ≡ false
no_device names old fault few fails = grind (arith, common_steps, nat_tests, cases_Bool)

-- two readings one after the other, each within `most` bytes of a file, together are within `most`
pub ReadsWithin-trans : (most : ℕ) (first middle last : History) → ReadsWithin most first middle
    → ReadsWithin most middle last
    → ReadsWithin most first last
ReadsWithin-trans most first middle last before after = (omega (arith, before.0, after.0), after.1 ∙ before.1)

-- if `P` and `Q` hold of the fault of `result`, if it has one, and together imply `R`, then `R` holds of it
pub if_both : {T E : Type 0} (P Q R : E → Type 0) (result : Result T E) → ((fault : E) → P fault → Q fault → R fault)
    → IfErr result P → IfErr result Q → IfErr result R
if_both x0 x1 x2 x3 so one other = grind arith
