-- What the first pass has kept after reading places, and the first fault of these places.
use Rattle.std.proofs.lemmas.Grind.{common_steps}
use Rattle.std.proofs.Common.{◌+◌, ◌≡◌, ◌-◌, ◌≤◌, ◌∙◌, List, [], ◌∷◌, ◌++◌, cond, length, nat_le, Option, None, Some}
use Rattle.std.proofs.Common.{append_assoc, ap, arith, refl, sym, subst, option_and_then, option_to_list, append-nil}
use Rattle.std.proofs.Common.{length-append}
use Rattle.std.specs.List.{cons_option}
use Rattle.std.proofs.lemmas.Bool.Decides.{nat_tests}
use Rattle.std.proofs.lemmas.List.Elements.{filter_map-append}
use Rattle.rf2_rows.specs.declared.kind.FileKind.{FileKind}
use Rattle.rf2_rows.specs.declared.kind.FileKind.TheVariants.{Concept, Concrete, Description, Member, Relationship}
use Rattle.release_rows.specs.Chosen.{same_kind}
use Rattle.release_rows.specs.Faults.{conflict_after, count_of_kind, crowd_after, fault_at, fault_here, first_fault}
use Rattle.release_rows.specs.Faults.{first_of}
use Rattle.release_rows.specs.Files.{Place, RowAt, row_at, rows_of}
use Rattle.release_rows.specs.inside.RowStore.{IsRead, IsShortAt, IsStopped, RowStore, kept_after, kept_following}
use Rattle.release_rows.specs.inside.RowStore.{nothing_kept, plain_fault}
use Rattle.release_rows.specs.Limits.{left_after, row_limit, row_total}
use Rattle.release_rows.specs.inside.RowsInside.{kept_in}
use Rattle.release_rows.specs.Traversal.{StopsAt, TakesAll, next, taken}
use Rattle.row_lists.specs.declared.fault.LoadFault.{LoadFault}
use Rattle.release_rows.specs.declared.limits.Limits.{Limits}
use Rattle.release_rows.specs.declared.rows.Rows.{Rows}
use Rattle.release_rows.specs.inside.FirstPass.{AreShort, IsSeen, first_conflict, kept_rows, keys_after, uuids_after}
use Rattle.release_rows.proofs.KindLemmas.{count_of_kind-push, kind_same, length-kinds}
use Rattle.release_rows.proofs.PassLemmas.{IsPlain, first_fault-plain, plain_at, plain_end, plain_next}

-- ---- the kept data after rows
kept_rows-option : (kept : RowStore) (row : Option RowAt) (rows : List RowAt)
    → kept_rows (kept_after kept row) rows ≡ kept_rows kept (cons_option row rows)
kept_rows-option kept x1 rows = grind arith

kept_rows-append : (kept : RowStore) (rows others : List RowAt)
    → kept_rows kept (rows ++ others) ≡ kept_rows (kept_rows kept rows) others
kept_rows-append kept [] others = refl
kept_rows-append kept (row ∷ rows) others = kept_rows-append (kept_following kept row) rows others

-- the keys after `rows` are the keys before, followed by those of the rows
pub kept_rows-keys : (kept : RowStore) (rows : List RowAt)
    → (kept_rows kept rows).keyed.keys ≡ kept.keyed.keys ++ keys_after kept.keyed.uuids rows
kept_rows-keys kept [] = sym (append-nil kept.keyed.keys)
kept_rows-keys kept (row ∷ rows) =
    grind (arith, common_steps, nat_tests, append_assoc, (kept_rows-keys (kept_following kept row) rows))

-- the UUIDs after `rows` are those that meeting the rows adds to the UUIDs before
pub kept_rows-uuids : (kept : RowStore) (rows : List RowAt)
    → (kept_rows kept rows).keyed.uuids ≡ uuids_after kept.keyed.uuids rows
kept_rows-uuids kept [] = refl
kept_rows-uuids kept (row ∷ rows) = kept_rows-uuids (kept_following kept row) rows

-- ---- how many rows of each kind may still come
-- `left` is what remains of `limits` after the rows `earlier`
pub record HasRoom (left limits : Limits) (earlier : List RowAt) : Type 0 where
  -- the limit of bytes stays the same
  pub bytes : left.bytes ≡ limits.bytes
  -- the limit left of each kind is its limit less the number of earlier rows of the kind
  pub rows : (kind : FileKind) → row_limit left kind ≡ row_limit limits kind - count_of_kind kind earlier

-- before any row all of `limits` remain
pub room-start : (limits : Limits) → HasRoom limits limits []
room-start limits = record { bytes = refl; rows = λ kind. omega arith }

limit-following : (left : Limits) (one kind : FileKind)
    → row_limit (left_after left one) kind ≡ row_limit left kind - cond (same_kind one kind) 1 0
limit-following left one Concept = refl
limit-following left one Description = refl
limit-following left one Relationship = refl
limit-following left one Concrete = refl
limit-following left one Member = refl

room-option : (kept : RowStore) (limits : Limits) (earlier : List RowAt) (row : Option RowAt)
    → HasRoom kept.left limits earlier → HasRoom (kept_after kept row).left limits (earlier ++ option_to_list row)
room-option kept limits earlier None room = rw append-nil room
room-option kept limits earlier (Some row) room = record {
  bytes = room.bytes;
  rows = λ kind.
      omega (arith, limit-following kept.left row.kind kind, room.rows kind, count_of_kind-push kind earlier row);
}

-- the fault at a place by itself depends only on the limit of bytes
here-is : (left limits : Limits) (place : Place) → left.bytes ≡ limits.bytes
    → fault_here left place ≡ fault_here limits place
here-is left limits place h0 = grind (arith, common_steps, nat_tests)

-- apart from conflicts, the fault at a place under the limits that remain is the fault under `limits` after the rows
-- `earlier`
pub plain_fault-is : (left limits : Limits) (earlier : List RowAt) (place : Place) → HasRoom left limits earlier
    → plain_fault left place ≡ plain_at limits earlier place
plain_fault-is left limits earlier place room = grind (arith, common_steps, nat_tests, here-is, nat_le)

rows-option : (earlier : List RowAt) (row : Option RowAt) (rows : List RowAt)
    → (earlier ++ option_to_list row) ++ rows ≡ earlier ++ cons_option row rows
rows-option earlier x1 rows = grind (arith, append-nil, append_assoc)

-- ---- how many rows there may be
one-more : (limits : Limits) (earlier : List RowAt) (here : Option LoadFault) (row : Option RowAt)
    → first_of here (option_and_then (crowd_after limits earlier) row) ≡ None
    → ((kind : FileKind) → count_of_kind kind earlier ≤ row_limit limits kind) → (kind : FileKind)
    → count_of_kind kind (earlier ++ option_to_list row) ≤ row_limit limits kind
one-more limits earlier here None none few kind = rw append-nil (few kind)
one-more limits earlier here (Some row) none few kind =
    grind (arith, common_steps, nat_tests, count_of_kind-push, kind_same, nat_le)

-- if places have no fault apart from conflicts, no kind has more rows than its limit
plain-few : (limits : Limits) (earlier : List RowAt) (places : List Place) → IsPlain limits earlier places
    → ((kind : FileKind) → count_of_kind kind earlier ≤ row_limit limits kind) → (kind : FileKind)
    → count_of_kind kind (earlier ++ rows_of places) ≤ row_limit limits kind
plain-few limits earlier places (plain_end before) few kind = rw append-nil (few kind)
plain-few limits earlier places (plain_next before place others clean rest) few kind =
    rw (← rows-option before (row_at place) (rows_of others))
    (plain-few limits (before ++ option_to_list (row_at place)) others rest
    (one-more limits before (fault_here limits place) (row_at place) clean few) kind)

-- if places have no fault apart from conflicts, they have no more rows than the limits allow
pub plain-total : (limits : Limits) (places : List Place) → IsPlain limits [] places
    → length (rows_of places) ≤ row_total limits
plain-total limits places plain =
    let few : (kind : FileKind) → count_of_kind kind (rows_of places) ≤ row_limit limits kind =
    plain-few limits [] places plain (λ kind. omega arith) in
    omega (
      arith,
      length-kinds (rows_of places),
      few Concept,
      few Description,
      few Relationship,
      few Concrete,
      few
          Member,
    )

-- ---- places that were read
short-option : (row : Option RowAt) (rows : List RowAt) → IsShortAt row → AreShort rows
    → AreShort (cons_option row rows)
short-option x0 rows one others = grind arith

short-append : (rows others : List RowAt) → AreShort rows → AreShort others → AreShort (rows ++ others)
short-append [] others one more = more
short-append (row ∷ rows) others one more = (one.0, short-append rows others one.1 more)

-- the first pass read `places` after the rows `earlier` and went from `old` to `new`
pub record Went (limits : Limits) (earlier : List RowAt) (old new : RowStore) (places : List Place) : Type 0 where
  -- the places have no fault apart from conflicts
  pub plain : IsPlain limits earlier places
  -- the rows of the places are kept
  pub kept : new ≡ kept_rows old (rows_of places)
  -- the room left is that after the rows of the places
  pub room : HasRoom new.left limits (earlier ++ rows_of places)
  -- the rows have short identifiers and no fault by themselves
  pub short : AreShort (rows_of places)

-- the first pass read `place` and went from `old` to `new`
abbrev pub reads : Rows → Place → Rows → Type 0
reads old place new = IsRead (kept_in old) place (kept_in new)

-- the first pass refused `place` with `fault`
abbrev pub refuses : Rows → Place → Rows → LoadFault → Type 0
refuses old place new fault = IsStopped (kept_in old) place (kept_in new) fault

-- if the first pass takes all places, it has read them and kept their rows
pub went : (limits : Limits) (earlier : List RowAt) (old new : Rows) (places : List Place)
    → TakesAll reads old places new
    → HasRoom (kept_in old).left limits earlier → Went limits earlier (kept_in old) (kept_in new) places
went limits earlier old new places (taken held) room =
    record { plain = plain_end earlier; kept = refl; room = rw append-nil room; short = tt }
went limits earlier old new places (next from to end place others step rest) room =
    let grown : HasRoom (kept_in to).left limits (earlier ++ option_to_list (row_at place)) =
    subst (λ (kept : RowStore). HasRoom kept.left limits (earlier ++ option_to_list (row_at place))) (sym step.kept)
    (room-option (kept_in from) limits earlier (row_at place) room) in
    let follows = went limits (earlier ++ option_to_list (row_at place)) to end others rest grown in record {
      plain = plain_next earlier place others (sym (plain_fault-is (kept_in from).left limits earlier place room)
          ∙ step.clean) follows.plain;
      kept = follows.kept ∙ ap (λ (kept : RowStore). kept_rows kept (rows_of others)) step.kept
          ∙ kept_rows-option (kept_in from) (row_at place) (rows_of others);
      room = subst (HasRoom (kept_in end).left limits) (rows-option earlier (row_at place) (rows_of others))
          follows.room;
      short = short-option (row_at place) (rows_of others) step.short follows.short;
    }

-- ---- the first fault after places
-- `first_of fault None` is `fault`
pub first_of-none : (fault : Option LoadFault) → first_of fault None ≡ fault
first_of-none x0 = grind arith

-- a fault that is there hides those after it
first_of-assoc : (one other : Option LoadFault) (fault : LoadFault) (later : Option LoadFault)
    → first_of one (first_of (first_of other (Some fault)) later) ≡ first_of (first_of one other) (Some fault)
first_of-assoc (Some first) other fault later = refl
first_of-assoc None (Some second) fault later = refl
first_of-assoc None None fault later = refl

-- the first fault of places followed by `later` is that of the places, or else that of the later ones
pub first_fault-append : (limits : Limits) (front places later : List Place)
    → first_fault limits front (places ++ later)
    ≡ first_of (first_fault limits front places) (first_fault limits (front ++ places) later)
first_fault-append limits front [] later =
    ap (λ (before : List Place). first_fault limits before later) (sym (append-nil front))
first_fault-append limits front (place ∷ places) later =
    grind (arith, append_assoc, (first_fault-append limits (front ++ place ∷ []) places later))

first_conflict-push : (earlier rows : List RowAt) (row : RowAt)
    → first_conflict earlier (rows ++ row ∷ [])
    ≡ first_of (first_conflict earlier rows) (conflict_after (earlier ++ rows) row)
first_conflict-push earlier [] row = first_of-none (conflict_after earlier row)
    ∙ ap (λ (before : List RowAt). conflict_after before row) (sym (append-nil earlier))
first_conflict-push earlier (first ∷ rows) row =
    grind (arith, append_assoc, (first_conflict-push (earlier ++ first ∷ []) rows row))

-- a pass from the beginning that takes all places has seen all their rows
pub seen-whole : (limits : Limits) (old new : Rows) (places : List Place) → kept_in old ≡ nothing_kept limits
    → TakesAll reads old places new → IsSeen limits places (kept_in new) None
seen-whole limits old new places start all_taken =
    let all = went limits [] old new places all_taken
    (subst (λ (kept : RowStore). HasRoom kept.left limits []) (sym start) (room-start limits)) in
    let few = plain-total limits places all.plain in record {
      seen = rows_of places;
      kept_is = cc (all.kept, start);
      short = all.short;
      first = rw first_of-none (first_fault-plain limits [] places [] refl all.plain);
      beyond = [];
      front = sym (append-nil (rows_of places));
      whole = λ none. refl;
      few = omega arith;
      room = λ none. few;
    }

-- a pass that ended at a fault has seen the rows before it, if the first fault is their first conflict or else that
-- fault
seen-until : (limits : Limits) (places : List Place) (kept : RowStore) (fault : LoadFault) (seen beyond : List RowAt)
    → kept ≡ kept_rows (nothing_kept limits) seen → AreShort seen
    → first_fault limits [] places ≡ first_of (first_conflict [] seen) (Some fault) → rows_of places ≡ seen ++ beyond
    → length seen ≤ row_total limits + 1 → IsSeen limits places kept (Some fault)
seen-until limits places kept fault seen beyond kept_is short first front few =
    record {
      seen = seen;
      kept_is = kept_is;
      short = short;
      first = first;
      beyond = beyond;
      front = front;
      whole = λ none. absurd (cc (none));
      few = few;
      room = λ none. absurd (cc (none));
    }

-- a pass from the beginning that stops at a place has seen the rows before it, and ended at its fault
pub seen-stopped : (limits : Limits) (old new : Rows) (places : List Place) (fault : LoadFault)
    → kept_in old ≡ nothing_kept limits → StopsAt reads refuses old places new fault
    → IsSeen limits places (kept_in new) (Some fault)
seen-stopped limits old new places fault start stop = by (fault_here limits stop.place) refl (row_at stop.place) refl
  where
    gone : Went limits [] (kept_in old) (kept_in stop.middle) stop.before
    gone = went limits [] old stop.middle stop.before stop.taken_before
        (subst (λ (kept : RowStore). HasRoom kept.left limits []) (sym start) (room-start limits))

    kept_before : kept_in stop.middle ≡ kept_rows (nothing_kept limits) (rows_of stop.before)
    kept_before = cc (gone.kept, start)

    plain : plain_at limits (rows_of stop.before) stop.place ≡ Some fault
    plain = sym (plain_fault-is (kept_in stop.middle).left limits (rows_of stop.before) stop.place gone.room)
        ∙ stop.refused.there

    same_here : fault_here (kept_in stop.middle).left stop.place ≡ fault_here limits stop.place
    same_here = here-is (kept_in stop.middle).left limits stop.place gone.room.bytes

    begins : first_fault limits [] (stop.before ++ stop.place ∷ stop.later)
        ≡ first_of (first_conflict [] (rows_of stop.before))
        (first_of (fault_at limits stop.before stop.place)
        (first_fault limits (stop.before ++ stop.place ∷ []) stop.later))
    begins =
        rw (
          first_fault-append limits [] stop.before (stop.place ∷ stop.later),
          first_fault-plain limits [] stop.before [] refl gone.plain,
        ) refl

    by : (here : Option LoadFault) → fault_here limits stop.place ≡ here → (row : Option RowAt)
        → row_at stop.place ≡ row → IsSeen limits places (kept_in new) (Some fault)
    by (Some other) here row is =
        let there : fault_here limits stop.place ≡ Some fault = here ∙ rw here at plain in
        seen-until limits places (kept_in new) fault (rows_of stop.before) (rows_of (stop.place ∷ stop.later))
        (stop.refused.none (same_here ∙ there) ∙ kept_before) gone.short
        (rw (stop.cut, begins, there) refl)
        (rw stop.cut (filter_map-append row_at stop.before (stop.place ∷ stop.later)))
        (omega (arith, plain-total limits stop.before gone.plain))
    by None here None is = let none : None ≡ Some fault = rw (here, is) at plain in absurd (cc (none))
    by None here (Some row) is =
        let crowd : crowd_after limits (rows_of stop.before) row ≡ Some fault = rw (here, is) at plain in
        let both = stop.refused.kept (same_here ∙ here) in
        let kept = both.0 ∙ (λ i. kept_after (kept_before i) (is i))
        ∙ sym (kept_rows-append (nothing_kept limits) (rows_of stop.before) (row ∷ [])) in
        seen-until limits places (kept_in new) fault (rows_of stop.before ++ row ∷ []) (rows_of stop.later) kept
        (short-append (rows_of stop.before) (row ∷ []) gone.short (rw is at both.1, tt))
        (rw (stop.cut, begins, here, is, crowd, first_conflict-push [] (rows_of stop.before) row)
        (first_of-assoc (first_conflict [] (rows_of stop.before)) (conflict_after (rows_of stop.before) row) fault _))
        (rw (stop.cut, filter_map-append row_at stop.before (stop.place ∷ stop.later), is, append_assoc) refl)
        (omega (arith, plain-total limits stop.before gone.plain, length-append (rows_of stop.before) (row ∷ [])))
