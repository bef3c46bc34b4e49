-- The second pass, which compares rows by their keys, finds the conflicts and choices of the definitions.
use Rattle.std.proofs.lemmas.Bool.Decides.{nat_tests}
use Rattle.std.proofs.lemmas.Grind.{common_steps}
use Rattle.std.proofs.Common.{All, ℕ, ◌≡◌, ◌^◌, ◌<◌, ◌∙◌, ◌==◌, List, [], ◌∷◌, ◌++◌, length, get_or, true, false, Bool}
use Rattle.std.proofs.Common.{Option, None, Some, append_assoc, ap, arith, map, nat_eq, refl, sym, subst, append-nil}
use Rattle.std.specs.List.{cons_option, list_any}
use Rattle.std.proofs.lemmas.List.{get_or-map, length-map, map-append}
use Rattle.std.proofs.lemmas.List.Elements.{All-cons, All-nil, All-push, All-tail}
use Rattle.rf2_rows.specs.Rows.{row_fault}
use Rattle.release_rows.specs.Chosen.{choices, conflicts, same_component}
use Rattle.release_rows.specs.inside.Comparison.{Comparison, IsCompared, IsComparedRow, IsDenied, IsDeniedRow}
use Rattle.release_rows.specs.inside.Comparison.{IsExpected, IsRefused, IsTaken, clashes, compared_in, noted_of}
use Rattle.release_rows.specs.declared.comparing.Comparing.{Comparing}
use Rattle.release_rows.specs.Files.{text_of_row, Place, RowAt, row_at, rows_of, later_line}
use Rattle.number_lists.specs.Members.{has}
use Rattle.release_rows.specs.inside.Keys.{IsMet, IsShort, Keyed, key_in, uuids_following}
use Rattle.release_rows.specs.inside.KeyedRows.{AreOfItsKind, Covers, KeyedRow}
use Rattle.release_rows.specs.inside.VersionTable.{HasTaken, VersionTable}
use Rattle.release_rows.specs.Traversal.{StopsAt, TakesAll, next, taken}
use Rattle.row_lists.specs.declared.fault.LoadFault.{LoadFault}
use Rattle.release_rows.specs.inside.FirstPass.{AreSeen, AreShort, first_conflict, keys_after, uuids_after}
use Rattle.number_lists.proofs.MemberLemmas.{any-has, had_contained}
use Rattle.number_lists.proofs.PlaceLemmas.{get_or-place_of, place_below, place_of}
use Rattle.release_rows.proofs.SingleLemmas.{any-none, key-twice, met-seen}
use Rattle.release_rows.proofs.KindLemmas.{kind_same}
use Rattle.rf2_rows.specs.declared.kind.FileKind.{FileKind}
use Rattle.release_files.specs.Lines.{LineText}
use Rattle.release_rows.specs.inside.KeyedRows as by_key

-- ---- keys tell components
-- a UUID that was met is contained in the list of UUIDs
met_among : (n : ℕ) (uuids : List ℕ) → list_any (nat_eq n) uuids ≡ true → has uuids n ≡ true
met_among n uuids met = sym (any-has uuids n) ∙ met

pos-apart : (n m : ℕ) (uuids : List ℕ) → list_any (nat_eq n) uuids ≡ true → list_any (nat_eq m) uuids ≡ true
    → place_of uuids n ≡ place_of uuids m → n ≡ m
pos-apart n m uuids met met' same =
    sym (get_or-place_of uuids n (met_among n uuids met)) ∙ ap (λ (place : ℕ). get_or uuids place 0) same
    ∙ get_or-place_of uuids m (met_among m uuids met')

-- the key of `row` is known by `uuids`: its identifier is short, and a member's UUID was met
abbrev pub IsKnown : List ℕ → RowAt → Type 0
IsKnown uuids row = IsShort (text_of_row row) × IsMet uuids (text_of_row row)

-- ---- rows whose keys are known
-- the key of each of `rows` is known by `uuids`
abbrev pub AreKnown : List ℕ → List RowAt → Type 0
AreKnown uuids rows = All (IsKnown uuids) rows

-- a test passes one of the noted rows exactly if the matching test passes one of the rows
any-noted : (uuids : List ℕ) (p : RowAt → Bool) (q : KeyedRow → Bool) (rows : List RowAt) → AreKnown uuids rows
    → ((other : RowAt) → IsKnown uuids other → q (noted_of uuids other) ≡ p other)
    → list_any q (map (noted_of uuids) rows) ≡ list_any p rows
any-noted uuids p q [] known same = refl
any-noted uuids p q (row ∷ rows) known same =
    grind (
      arith,
      same row (known 0 row (omega arith)),
      (any-noted uuids p q rows (All-tail (IsKnown uuids) row rows known) same),
    )

module _ (uuids : List ℕ) (few : length uuids < 2 ^ 63) where
  tells : (one other : RowAt) → IsKnown uuids one → IsKnown uuids other
      → ((noted_of uuids one).key == (noted_of uuids other).key) ≡ same_component one other
  tells one other known known' = grind (arith, nat_tests, met_among, place_below, pos-apart)

  choices-noted : (rows earlier later : List RowAt) → AreKnown uuids rows → AreKnown uuids earlier
      → AreKnown uuids later
      → by_key.choices (map (noted_of uuids) rows) (map (noted_of uuids) earlier) (map (noted_of uuids) later)
      ≡ choices rows earlier later
  choices-noted rows earlier [] known before following = refl
  choices-noted rows earlier (row ∷ later) known before following =
      let all : AreKnown uuids (earlier ++ row ∷ []) =
      All-push (IsKnown uuids) earlier row before (following 0 row (omega arith)) in
      grind (
        arith,
        common_steps,
        nat_tests,
        any-noted,
        map-append,
        tells,
        following 0 row (omega arith),
        (choices-noted rows (earlier ++ row ∷ []) later known all (All-tail (IsKnown uuids) row later following)),
      )

  -- noted rows that have the key of `row` are of its kind
  of_its_kind : (rows : List RowAt) (row : RowAt) → AreKnown uuids rows → IsKnown uuids row
      → AreOfItsKind (map (noted_of uuids) rows) (noted_of uuids row)
  of_its_kind rows row known own other there same =
      grind (
        arith,
        nat_tests,
        length-map,
        there.1,
        there.2,
        get_or-map (noted_of uuids) rows there.0 row other,
        (tells (get_or rows there.0 row) row),
        known there.0 row,
        (kind_same (get_or rows there.0 row).kind row.kind),
      )

-- equal lists that are not empty have equal first rows and equal other rows
same_parts : (row own : RowAt) (rows others : List RowAt) → row ∷ rows ≡ own ∷ others → (row ≡ own) × (rows ≡ others)
same_parts row own rows others same = (cc, cc)

-- ---- the second pass
-- the second pass took `place` and went from `old` to `new`
abbrev pub compares : Comparing → Place → Comparing → Type 0
compares old place new = IsCompared (compared_in old) place (compared_in new)

-- the second pass refused `place` with `fault`
abbrev pub denies : Comparing → Place → Comparing → LoadFault → Type 0
denies old place new fault = IsDenied (compared_in old) place fault

-- the keys of `rows`, as `uuids` number them
abbrev pub keys_of : List ℕ → List RowAt → List ℕ
keys_of uuids rows = map (λ (row : KeyedRow). row.key) (map (noted_of uuids) rows)

-- ---- the rows that the first pass read
uuids_after-append : (uuids : List ℕ) (front rows : List RowAt)
    → uuids_after uuids (front ++ rows) ≡ uuids_after (uuids_after uuids front) rows
uuids_after-append uuids [] rows = refl
uuids_after-append uuids (row ∷ front) rows = uuids_after-append (uuids_following uuids (text_of_row row)) front rows

known-seen : (uuids : List ℕ) (rows : List RowAt) → AreShort rows → AreKnown (uuids_after uuids rows) rows
known-seen uuids [] short = All-nil (IsKnown uuids)
known-seen uuids (row ∷ rows) short =
    All-cons (IsKnown (uuids_after (uuids_following uuids (text_of_row row)) rows)) row rows
    (short.0.0, (met-seen uuids rows (text_of_row row)).0)
    (known-seen (uuids_following uuids (text_of_row row)) rows short.1)

-- the keys that rows get one after another are those that all UUIDs together give
keys-seen : (uuids : List ℕ) (rows : List RowAt) → keys_after uuids rows ≡ keys_of (uuids_after uuids rows) rows
keys-seen uuids [] = refl
keys-seen uuids (row ∷ rows) =
    grind (arith, (met-seen uuids rows (text_of_row row)), (keys-seen (uuids_following uuids (text_of_row row)) rows))

accepted-at : (earlier rows : List RowAt) (row : RowAt) → AreShort (earlier ++ row ∷ rows)
    → row_fault row.kind row.text ≡ None
accepted-at [] rows row short = short.0.1
accepted-at (first ∷ earlier) rows row short = accepted-at earlier rows row short.1

-- a row that conflicts with an earlier one has a repeated key
finds : (repeated : List ℕ) (earlier rows : List RowAt) (row : RowAt)
    → Covers repeated (keys_after [] (earlier ++ row ∷ rows))
    → list_any (λ other. conflicts other row) earlier ≡ true
    → has repeated (noted_of (uuids_after [] (earlier ++ row ∷ rows)) row).key ≡ true
finds repeated earlier rows row covers there =
    let some : list_any (λ other. same_component other row) earlier ≡ true =
    grind (arith, common_steps, nat_tests, any-none) in
    let key = key_in (uuids_after [] earlier) (text_of_row row) in
    grind (
      arith,
      (met-seen (uuids_after [] earlier) rows (text_of_row row)),
      (uuids_after-append [] earlier (row ∷ rows)),
      had_contained repeated key (covers key (key-twice earlier rows row some)),
    )

module _ (keyed : Keyed) (repeated : List ℕ) (places : List Place) (seen beyond : List RowAt)
    (are : AreSeen keyed places seen beyond) (covers : Covers repeated keyed.keys) (few : length keyed.uuids < 2 ^ 63)
  where
    abbrev note : RowAt → KeyedRow
    note = noted_of keyed.uuids

    known : AreKnown keyed.uuids seen
    known = rw are.uuids (known-seen [] seen are.short)

    keys_are : keyed.keys ≡ keys_of keyed.uuids seen
    keys_are = are.keys ∙ rw are.uuids (keys-seen [] seen)

    -- facts about a row that the first pass read after the rows `earlier`
    record IsGiven (earlier : List RowAt) (row : RowAt) : Type 0 where
      -- the keys of the earlier rows are known
      pub before : AreKnown keyed.uuids earlier
      -- the key of the row is known
      pub own : IsKnown keyed.uuids row
      -- the row has no fault by itself
      pub accepted : row_fault row.kind row.text ≡ None
      -- if the row conflicts with an earlier one, its key is repeated
      pub found : list_any (λ other. conflicts other row) earlier ≡ true → has repeated (note row).key ≡ true

    given : (earlier rows : List RowAt) (row : RowAt) → earlier ++ row ∷ rows ≡ seen → IsGiven earlier row
    given earlier rows row cut = record {
      before = λ k d within. grind (arith, common_steps, cut, known k d);
      own = grind (arith, common_steps, cut, known (length earlier) row);
      accepted = accepted-at earlier rows row (rw cut are.short);
      found = rw are.uuids (rw (← cut) (finds repeated earlier rows row (rw (cut, ← are.keys) covers)));
    }

    -- the state within the second pass: the rows `earlier` were compared, and the rows `ahead` are still to come
    record Ahead (compared : Comparison) (rows earlier ahead : List RowAt) : Type 0 where
      -- the rows that the first pass did not reach
      pub rest : List RowAt
      -- the rows of the places left are those ahead and those that the first pass did not reach
      pub all : rows ≡ ahead ++ rest
      -- the compared rows and those ahead are the rows that the first pass read
      pub cut : earlier ++ ahead ≡ seen
      -- the first conflict of all rows is the first one from here on
      pub conflict : first_conflict [] seen ≡ first_conflict earlier ahead
      -- the keys still to come are those of the rows ahead
      pub left : compared.left ≡ keys_of keyed.uuids ahead
      -- the UUIDs are those of the first pass
      pub uuids : compared.uuids ≡ keyed.uuids
      -- the repeated keys are those that were given
      pub repeated_is : compared.taken.repeated ≡ repeated
      -- the rows so far were compared
      pub taken_is : HasTaken compared.taken (map note earlier)

    abbrev Onward : Comparison → List RowAt → Type 0
    Onward compared rows = (earlier : List RowAt) × (ahead : List RowAt) × Ahead compared rows earlier ahead

    -- a row that the first pass read is the expected one for its own key
    expected : (compared : Comparison) (earlier : List RowAt) (row : RowAt) → compared.uuids ≡ keyed.uuids
        → HasTaken compared.taken (map note earlier) → IsGiven earlier row
        → IsExpected compared (map note earlier) (note row).key row.kind row.text
    expected compared earlier row same before is =
        record {
          taken = before;
          kinds = rw same (of_its_kind keyed.uuids few earlier row is.before is.own);
          met = rw same is.own.1;
          accepted = is.accepted;
          same_key = rw same refl;
        }

    clash : (earlier : List RowAt) (row : RowAt) (held : VersionTable) → held.repeated ≡ repeated → IsGiven earlier row
        → clashes held (map note earlier) (note row) ≡ list_any (λ other. conflicts other row) earlier
    clash earlier row held same is = grind (arith, known, any-noted, tells)

    -- if no row is ahead, a place that is taken leaves none ahead
    step_after : (old middle : Comparison) (row : RowAt) (rows earlier : List RowAt)
        → IsComparedRow old old.left (Some row) middle → Ahead old (row ∷ rows) earlier []
        → Ahead middle rows earlier []
    step_after old middle row rows earlier moved start =
        let same : middle ≡ old =
        subst (λ (left : List ℕ). IsComparedRow old left (Some row) middle) start.left moved in
        rw same (record {
          rest = rows;
          all = refl;
          cut = start.cut;
          conflict = start.conflict;
          left = start.left;
          uuids = start.uuids;
          repeated_is = start.repeated_is;
          taken_is = start.taken_is;
        })

    -- if a row is taken while rows are ahead, the second pass compares it with the key of the first of them
    step_moved : (old middle : Comparison) (row own : RowAt) (ahead : List RowAt)
        → IsComparedRow old old.left (Some row) middle → old.left ≡ keys_of keyed.uuids (own ∷ ahead) → row ≡ own
        → IsTaken (record old { left = keys_of keyed.uuids ahead }) (note own).key own.kind own.text middle
    step_moved old middle row own ahead moved left is = rw (left, is) at moved

    -- a row that is taken conflicts with no earlier row, and has been compared
    module _ (before middle : Comparison) (own : RowAt) (earlier : List RowAt)
        (moved : IsTaken before (note own).key own.kind own.text middle) (uuids : before.uuids ≡ keyed.uuids)
        (has : HasTaken before.taken (map note earlier)) (is : IsGiven earlier own) where
      step_apart : before.taken.repeated ≡ repeated → list_any (λ other. conflicts other own) earlier ≡ false
      step_apart same =
          let fits : clashes before.taken (map note earlier) (note own) ≡ false =
          rw uuids at (moved.fits (map note earlier) (expected before earlier own uuids has is)) in
          sym (clash earlier own before.taken same is) ∙ fits

      step_taken : HasTaken middle.taken (map note (earlier ++ own ∷ []))
      step_taken =
          let grown : HasTaken middle.taken (map note earlier ++ note own ∷ []) =
          rw uuids at (moved.taken (map note earlier) (expected before earlier own uuids has is)) in
          rw map-append grown

    -- after one more place some rows have been compared and others are ahead (`Onward`)
    step : (old middle : Comparison) (at : Option RowAt) (rows earlier ahead : List RowAt)
        → IsComparedRow old old.left at middle → Ahead old (cons_option at rows) earlier ahead → Onward middle rows
    step old middle None rows earlier ahead same start = (earlier, ahead, rw same start)
    step old middle (Some row) rows earlier [] moved start =
        (earlier, [], step_after old middle row rows earlier moved start)
    step old middle (Some row) rows earlier (own ∷ ahead) moved start =
        let parts = same_parts row own rows (ahead ++ start.rest) start.all in
        let before : Comparison = record old { left = keys_of keyed.uuids ahead } in
        let taken : IsTaken before (note own).key own.kind own.text middle =
        step_moved old middle row own ahead moved start.left parts.0 in
        let known = given earlier ahead own start.cut in
        let apart = step_apart before middle own earlier taken start.uuids start.taken_is known start.repeated_is in
        let goes : Ahead middle rows (earlier ++ own ∷ []) ahead = record {
          rest = start.rest;
          all = parts.1;
          cut = append_assoc earlier (own ∷ []) ahead ∙ start.cut;
          conflict = rw apart at start.conflict;
          left = taken.left;
          uuids = taken.uuids ∙ start.uuids;
          repeated_is = taken.repeated ∙ start.repeated_is;
          taken_is = step_taken before middle own earlier taken start.uuids start.taken_is known;
        } in
        (earlier ++ own ∷ [], ahead, goes)

    -- after the places of `front` some rows have been compared and others are ahead, before the places of `rest`
    -- (`Onward`)
    onward : (old middle : Comparing) (front rest : List Place) (earlier ahead : List RowAt)
        → TakesAll compares old front middle → Ahead (compared_in old) (rows_of (front ++ rest)) earlier ahead
        → Onward (compared_in middle) (rows_of rest)
    onward old middle front rest earlier ahead (taken held) start = (earlier, ahead, start)
    onward old middle front rest earlier ahead (next from to end place others moved later) start =
        let one = step (compared_in from) (compared_in to) (row_at place) (rows_of (others ++ rest)) earlier ahead moved
        start in
        onward to end others rest one.0 one.1 later one.2

    -- the second pass is complete: it found no conflict, no key is left, and if marks are the choices among the
    -- compared rows, they are the choices among all rows that the first pass read
    abbrev pub IsChosenFrom : Comparing → Type 0
    IsChosenFrom new = (first_conflict [] seen ≡ None) × ((compared_in new).left ≡ []) × ((chosen : List Bool)
        → ((rows : List KeyedRow) → HasTaken (compared_in new).taken rows
        → Covers (compared_in new).taken.repeated (map (λ (row : KeyedRow). row.key) rows)
        → chosen ≡ by_key.choices rows [] rows)
        → chosen ≡ choices seen [] seen)

    -- the second pass begins before all rows of the first pass
    module _ (old : Comparing) (uuids : (compared_in old).uuids ≡ keyed.uuids)
        (left : (compared_in old).left ≡ keyed.keys) (start : VersionTable) (taken_is : (compared_in old).taken ≡ start)
        (repeated_is : start.repeated ≡ repeated) (taken : HasTaken start []) where
      begins : Ahead (compared_in old) (rows_of places) [] seen
      begins =
          let repeated_is : (compared_in old).taken.repeated ≡ repeated =
          ap (λ (taken : VersionTable). taken.repeated) taken_is ∙ repeated_is in
          record {
            rest = beyond;
            all = are.front;
            cut = refl;
            conflict = refl;
            left = left ∙ keys_are;
            uuids = uuids;
            repeated_is = repeated_is;
            taken_is = rw taken_is taken;
          }

      -- a second pass that takes all places is complete
      pub compared-all : (new : Comparing) → TakesAll compares old places new → IsChosenFrom new
      compared-all new went = by (onward old new places [] [] seen went (rw append-nil begins))
        where
          by : Onward (compared_in new) [] → IsChosenFrom new
          by (now, [], goes) =
              let all : HasTaken (compared_in new).taken (map note seen) = rw (← goes.cut, append-nil) goes.taken_is in
              let covered : Covers (compared_in new).taken.repeated (keys_of keyed.uuids seen) =
              rw goes.repeated_is (subst (Covers repeated) keys_are covers) in (
                goes.conflict,
                goes.left,
                λ chosen are_chosen. are_chosen (map note seen) all covered
                    ∙ choices-noted keyed.uuids few seen [] seen known (All-nil (IsKnown keyed.uuids)) known,
              )
          by (now, row ∷ rows, goes) = absurd (cc (goes.all))

      -- a second pass that stops at a place has found the first conflict of the rows
      pub compared-until : (new : Comparing) (fault : LoadFault) → StopsAt compares denies old places new fault
          → first_conflict [] seen ≡ Some fault
      compared-until new fault stop =
          by (row_at stop.place) stop.refused (onward old stop.middle stop.before
          (stop.place ∷ stop.later) [] seen stop.taken_before (rw (← stop.cut) begins))
        where
          by : (at : Option RowAt) → IsDeniedRow (compared_in stop.middle) (compared_in stop.middle).left at fault
              → Onward (compared_in stop.middle) (cons_option at (rows_of stop.later))
              → first_conflict [] seen ≡ Some fault
          by None denied at_end = absurd denied
          by (Some row) denied (now, [], goes) = absurd (rw goes.left at denied)
          by (Some row) denied (now, own ∷ rows, goes) =
              let is = (same_parts row own (rows_of stop.later) (rows ++ goes.rest) goes.all).0 in
              let before : Comparison = record (compared_in stop.middle) { left = keys_of keyed.uuids rows } in
              let known = given now rows own goes.cut in
              let refused : IsRefused before own.file own.line (note own).key own.kind own.text fault =
              rw (goes.left, is) at denied in
              let both = refused (map note now) (expected before now own goes.uuids goes.taken_is known) in
              let some = sym (clash now own before.taken goes.repeated_is known) ∙ rw goes.uuids at both.1 in
              rw (goes.conflict, some, both.0) refl

-- Comparing the row on a line.

-- if a line is not empty, `key` is the first key left in the state `old`, and the row of the line with `key` is
-- refused, then the place of the line is refused
pub denied-line : (old : Comparison) (file : ℕ) (kind : FileKind) (line : LineText) (fault : LoadFault) (key : ℕ)
    (left : List ℕ) → old.left ≡ key ∷ left → 0 < length line.bytes
    → IsRefused (record old { left = left }) file line.number key kind line.bytes fault
    → IsDenied old (later_line file kind line) fault
denied-line old file kind line fault key left ahead some refused = grind (arith, common_steps, nat_tests)
