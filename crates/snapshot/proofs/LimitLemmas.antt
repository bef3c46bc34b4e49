-- Cutting files one byte past the limit keeps their first fault, and keeps their places if they have no fault.
use Rattle.std.proofs.lemmas.Bool.Decides.{nat_tests}
use Rattle.std.proofs.lemmas.Grind.{common_steps}
use Rattle.std.proofs.Common.{◌≡◌, ℕ, zero, suc, ◌+◌, ◌-◌, ◌<◌, ◌≤◌, Bool, eqb, List, [], ◌∷◌, ◌++◌, length, map, take}
use Rattle.std.proofs.Common.{drop, refl, sym, ap, ◌∙◌, inl, inr, arith, Option, None, Some, if◌then◌else◌, bytes_eq}
use Rattle.std.proofs.Common.{eq-eqb, eqb-true, lt-ltb, take-take}
use Rattle.std.proofs.lemmas.Bool.{cases_eq, false_from_ne_true}
use Rattle.std.proofs.lemmas.List.{drop-take}
use Rattle.std.specs.List.{onto_first}
use Rattle.release_files.specs.Lines.{LineText, byte_order_mark, lines_of, mark_length, numbered, parts}
use Rattle.release_files.specs.Source.{FileText}
use Rattle.rf2_rows.specs.declared.kind.FileKind.{FileKind}
use Rattle.release_rows.specs.Faults.{fault_at, fault_here, first_fault, first_of}
use Rattle.release_rows.specs.Files.{Place, first_line, later_line, no_line, places_from, places_of_kind}
use Rattle.release_rows.specs.Files.{places_of_lines}
use Rattle.release_rows.specs.Pieces.{cut_file}
use Rattle.row_lists.specs.declared.fault.LoadFault.{LoadFault}
use Rattle.row_lists.specs.declared.fault.LoadFault.TheVariants.{TooMany}
use Rattle.release_rows.specs.declared.limits.Limits.{Limits}

-- the parts of a text that is cut and those of the text agree up to one that reaches the cut in both
data PartsAgree : ℕ → List (List ℕ) → List (List ℕ) → Type 0 where
  no_part : (left : ℕ) → PartsAgree left [] []
  same_part : (left later : ℕ) (part : List ℕ) (short long : List (List ℕ)) → left ≡ length part + later
      → PartsAgree later short long → PartsAgree left (part ∷ short) (part ∷ long)
  past_cut : (left : ℕ) (front whole : List ℕ) (short long : List (List ℕ)) → left ≤ length front
      → left ≤ length whole → PartsAgree left (front ∷ short) (whole ∷ long)

-- putting one byte in front of both texts keeps the agreement of their parts
parts_onto : (left byte : ℕ) (short long : List (List ℕ)) → PartsAgree left short long
    → PartsAgree (suc left) (onto_first byte short) (onto_first byte long)
parts_onto left byte short long (no_part now) = same_part (suc now) now (byte ∷ []) [] [] (omega arith) (no_part now)
parts_onto left byte short long (same_part now later part xs ys is agree) =
    same_part (suc now) later (byte ∷ part) xs ys (omega arith) agree
parts_onto left byte short long (past_cut now front whole xs ys here there) =
    past_cut (suc now) (byte ∷ front) (byte ∷ whole) xs ys (omega arith) (omega arith)

-- if a text is cut after its first byte, the first part reaches the cut in both texts
part_at_cut : (byte : ℕ) (long : List (List ℕ)) → PartsAgree 1 ((byte ∷ []) ∷ []) (onto_first byte long)
part_at_cut byte [] = past_cut 1 (byte ∷ []) (byte ∷ []) [] [] (omega arith) (omega arith)
part_at_cut byte (part ∷ long) = past_cut 1 (byte ∷ []) (byte ∷ part) [] long (omega arith) (omega arith)

parts_agree : (left : ℕ) (bytes : List ℕ) → PartsAgree (suc left) (parts (take (suc left) bytes)) (parts bytes)
parts_agree left [] = no_part (suc left)
parts_agree zero (byte ∷ bytes) = elim (cases_eq byte 10) [
  | inl is ↦ rw (eq-eqb byte 10 is) (past_cut 1 (byte ∷ []) (byte ∷ []) [] (parts bytes) (omega arith) (omega arith))
  | inr other ↦ rw (false_from_ne_true (eqb byte 10) (λ is. other (eqb-true byte 10 is)))
      (part_at_cut byte (parts bytes))
]
parts_agree (suc left) (byte ∷ bytes) = elim (cases_eq byte 10) [
  | inl is ↦ rw (eq-eqb byte 10 is) (same_part (suc (suc left)) (suc left) (byte ∷ [])
      (parts (take (suc left) bytes)) (parts bytes) (omega arith) (parts_agree left bytes))
  | inr other ↦ rw (false_from_ne_true (eqb byte 10) (λ is. other (eqb-true byte 10 is)))
      (parts_onto (suc left) byte (parts (take (suc left) bytes)) (parts bytes) (parts_agree left bytes))
]

-- the lines of a file that is cut and those of the file agree up to one that ends past the limit in both
data LinesAgree (limit : ℕ) : List LineText → List LineText → Type 0 where
  no_more : LinesAgree limit [] []
  same_line : (line : LineText) (short long : List LineText) → LinesAgree limit short long
      → LinesAgree limit (line ∷ short) (line ∷ long)
  past_limit : (one other : LineText) (short long : List LineText) → one.number ≡ other.number → limit < one.end
      → limit < other.end → LinesAgree limit (one ∷ short) (other ∷ long)

numbered_agree : (limit number end left : ℕ) (short long : List (List ℕ)) → PartsAgree left short long
    → end + left ≡ limit + 1
    → LinesAgree limit (numbered number end short) (numbered number end long)
numbered_agree limit number end left short long (no_part now) is = no_more
numbered_agree limit number end left short long (same_part now later part xs ys cut agree) is =
    same_line _ _ _ (numbered_agree limit (number + 1) (end + length part) later xs ys agree (omega arith))
numbered_agree limit number end left short long (past_cut now front whole xs ys here there) is =
    past_limit _ _ _ _ refl (omega arith) (omega arith)

mark_of-le : (has : Bool) → (if has then 3 else 0) ≤ 3
mark_of-le x0 = grind arith

lines_agree : (limit : ℕ) (bytes : List ℕ) → 3 ≤ limit
    → LinesAgree limit (lines_of (take (limit + 1) bytes)) (lines_of bytes)
unfolding lines_of
lines_agree limit bytes room =
    let mark = mark_length bytes in
    let low : mark ≤ 3 = mark_of-le (bytes_eq (take 3 bytes) byte_order_mark) in
    let whole : limit + 1 ≡ mark + suc (limit - mark) = omega arith in
    let same : mark_length (take (limit + 1) bytes) ≡ mark =
    ap (λ (front : List ℕ). if bytes_eq front byte_order_mark then 3 else 0)
    (take-take 3 (limit + 1) bytes (omega arith)) in
    let rest : drop mark (take (limit + 1) bytes) ≡ take (suc (limit - mark)) (drop mark bytes) =
    ap (λ (n : ℕ). drop mark (take n bytes)) whole ∙ drop-take mark (suc (limit - mark)) bytes in
    rw (same, rest) (numbered_agree limit 0 mark (suc (limit - mark))
    (parts (take (suc (limit - mark)) (drop mark bytes))) (parts (drop mark bytes))
    (parts_agree (limit - mark) (drop mark bytes)) (sym whole))

-- the places of files that are cut and those of the files agree up to one that has one fault in both
data PlacesAgree (limits : Limits) : List Place → List Place → Type 0 where
  no_place : PlacesAgree limits [] []
  same_place : (place : Place) (short long : List Place) → PlacesAgree limits short long
      → PlacesAgree limits (place ∷ short) (place ∷ long)
  both_faulty : (one other : Place) (short long : List Place) (fault : LoadFault) → fault_here limits one ≡ Some fault
      → fault_here limits other ≡ Some fault
      → PlacesAgree limits (one ∷ short) (other ∷ long)

agree_append : (limits : Limits) (short long others more : List Place) → PlacesAgree limits short long
    → PlacesAgree limits others more
    → PlacesAgree limits (short ++ others) (long ++ more)
agree_append limits short long others more no_place following = following
agree_append limits short long others more (same_place place xs ys agree) following =
    same_place place (xs ++ others) (ys ++ more) (agree_append limits xs ys others more agree following)
agree_append limits short long others more (both_faulty one other xs ys fault here there) following =
    both_faulty one other (xs ++ others) (ys ++ more) fault here there

module _ (limits : Limits) (file : ℕ) (kind : FileKind) where
  first_too_long : (line : LineText) (number : ℕ) → number ≡ line.number → limits.bytes < line.end
      → fault_here limits (first_line file kind line) ≡ Some (TooMany file number)
  first_too_long line number is long = rw (lt-ltb limits.bytes line.end long, is) refl

  later_too_long : (line : LineText) (number : ℕ) → number ≡ line.number → limits.bytes < line.end
      → fault_here limits (later_line file kind line) ≡ Some (TooMany file number)
  later_too_long line number is long = rw (lt-ltb limits.bytes line.end long, is) refl

  later_agree : (short long : List LineText) → LinesAgree limits.bytes short long
      → PlacesAgree limits (map (later_line file kind) short) (map (later_line file kind) long)
  later_agree short long no_more = no_place
  later_agree short long (same_line line xs ys agree) =
      same_place (later_line file kind line) (map (later_line file kind) xs) (map (later_line file kind) ys)
      (later_agree xs ys agree)
  later_agree short long (past_limit one other xs ys is here there) =
      both_faulty _ _ _ _ (TooMany file one.number) (later_too_long one one.number refl here)
      (later_too_long other one.number is there)

  kind_agree : (short long : List LineText) → LinesAgree limits.bytes short long
      → PlacesAgree limits (places_of_lines file kind short) (places_of_lines file kind long)
  kind_agree short long no_more = same_place (no_line file kind) [] [] no_place
  kind_agree short long (same_line line xs ys agree) =
      same_place (first_line file kind line) (map (later_line file kind) xs) (map (later_line file kind) ys)
      (later_agree xs ys agree)
  kind_agree short long (past_limit one other xs ys is here there) =
      both_faulty _ _ _ _ (TooMany file one.number) (first_too_long one one.number refl here)
      (first_too_long other one.number is there)

file_agree : (limits : Limits) (file : ℕ) (kind : Option FileKind) (bytes : List ℕ) → 3 ≤ limits.bytes
    → PlacesAgree limits (places_of_kind file kind (take (limits.bytes + 1) bytes)) (places_of_kind file kind bytes)
file_agree limits file None bytes room = no_place
file_agree limits file (Some kind) bytes room =
    kind_agree limits file kind (lines_of (take (limits.bytes + 1) bytes)) (lines_of bytes)
    (lines_agree limits.bytes bytes room)

files_agree : (limits : Limits) (file : ℕ) (files : List FileText) → 3 ≤ limits.bytes
    → PlacesAgree limits (places_from file (map (cut_file limits.bytes) files)) (places_from file files)
files_agree limits file [] room = no_place
files_agree limits file (text ∷ texts) room =
    grind (arith, common_steps, nat_tests, agree_append, file_agree, (files_agree limits (file + 1) texts room))

-- if a place has a fault by itself, that is the first fault, whatever places come before and after it
faulty_first : (limits : Limits) (before later : List Place) (place : Place) (fault : LoadFault)
    → fault_here limits place ≡ Some fault → first_fault limits before (place ∷ later) ≡ Some fault
faulty_first limits before later place fault here = rw here refl

agree_first_fault : (limits : Limits) (before short long : List Place) → PlacesAgree limits short long
    → first_fault limits before short ≡ first_fault limits before long
agree_first_fault limits before short long no_place = refl
agree_first_fault limits before short long (same_place place xs ys agree) =
    ap (first_of (fault_at limits before place)) (agree_first_fault limits (before ++ place ∷ []) xs ys agree)
agree_first_fault limits before short long (both_faulty one other xs ys fault here there) =
    grind (arith, common_steps, nat_tests, faulty_first)

later_none : (first later : Option LoadFault) → first_of first later ≡ None → later ≡ None
later_none x0 later none = grind arith

agree_places : (limits : Limits) (before short long : List Place) → PlacesAgree limits short long
    → first_fault limits before short ≡ None → short ≡ long
agree_places limits before short long no_place none = refl
agree_places limits before short long (same_place place xs ys agree) none =
    grind (
      arith,
      common_steps,
      nat_tests,
      later_none,
      (agree_places limits (before ++ place ∷ []) xs ys agree
          (later_none (fault_at limits before place) (first_fault limits (before ++ place ∷ []) xs) none)),
    )
agree_places limits before short long (both_faulty one other xs ys fault here there) none =
    grind (arith, common_steps, nat_tests, faulty_first)

-- if each file is cut one byte past the limit, and the limit is at least 3 bytes, the first fault stays the same
pub cut_first_fault : (limits : Limits) (files : List FileText) → 3 ≤ limits.bytes
    → first_fault limits [] (places_from 0 (map (cut_file limits.bytes) files))
    ≡ first_fault limits [] (places_from 0 files)
cut_first_fault limits files room =
    agree_first_fault limits [] (places_from 0 (map (cut_file limits.bytes) files)) (places_from 0 files)
    (files_agree limits 0 files room)

-- if files have no fault, and the limit is at least 3 bytes, their places stay the same if each file is cut one byte
-- past the limit
pub cut_places : (limits : Limits) (files : List FileText) → 3 ≤ limits.bytes
    → first_fault limits [] (places_from 0 files) ≡ None
    → places_from 0 (map (cut_file limits.bytes) files) ≡ places_from 0 files
cut_places limits files room none =
    agree_places limits [] (places_from 0 (map (cut_file limits.bytes) files)) (places_from 0 files)
    (files_agree limits 0 files room) (cut_first_fault limits files room ∙ none)
