-- If no key occurs twice, no row conflicts with another, and each row is chosen.
use Rattle.std.proofs.lemmas.Grind.{common_steps}
use Rattle.std.proofs.Common.{◌||◌, ◌&&◌, ℕ, ◌≡◌, ◌≤◌, ◌∙◌, ◌==◌, List, [], ◌∷◌, ◌++◌, true, false, Bool, Option, None}
use Rattle.std.proofs.Common.{append_assoc, ap, arith, nat_eq, refl, not, cond}
use Rattle.std.specs.Prelude.{⊤}
use Rattle.std.specs.List.{list_any, position_or_len}
use Rattle.std.proofs.lemmas.Bool.{and_left, false_from_ne_true}
use Rattle.std.proofs.lemmas.List.Sums.{sum_by-cons}
use Rattle.std.proofs.lemmas.Bool.Decides.{nat_tests}
use Rattle.std.proofs.Math.Bool.{and-false}
use Rattle.std.proofs.lemmas.List.Folds.{list_any-append}
use Rattle.rf2_rows.specs.RowTexts.{RowText, of_concept, of_concrete, of_description, of_member, of_relationship}
use Rattle.rf2_rows.specs.Versions.{member_number}
use Rattle.row_lists.specs.Marked.{marked}
use Rattle.release_rows.specs.Chosen.{choices, is_later, is_superseded, same_component, same_version, time_of}
use Rattle.release_rows.specs.Files.{text_of_row, RowAt}
use Rattle.number_lists.specs.Members.{times}
use Rattle.release_rows.specs.inside.Keys.{IsMet, key_in, uuids_following}
use Rattle.release_rows.specs.inside.FirstPass.{first_conflict, keys_after, uuids_after}
use Rattle.release_rows.proofs.KindLemmas.{kind_same}
use Rattle.number_lists.proofs.MemberLemmas.{times-append, times-own}

-- a number that was met, or is added at the end, keeps its index
pos-kept : (n more : ℕ) (uuids : List ℕ) → (list_any (nat_eq n) uuids || n == more) ≡ true
    → position_or_len (λ other. n == other) (uuids ++ more ∷ []) ≡ position_or_len (λ other. n == other) uuids
pos-kept n more [] there = grind (arith, nat_tests, there)
pos-kept n more (other ∷ uuids) there =
    grind (arith, nat_tests, list_any, position_or_len, cond, not, (pos-kept n more uuids))

-- `more` contains `n`, at the index that `n` has in `uuids` or would have at its end
abbrev StaysIn : ℕ → List ℕ → List ℕ → Type 0
StaysIn n uuids more = (list_any (nat_eq n) more ≡ true)
    × (position_or_len (λ other. n == other) more ≡ position_or_len (λ other. n == other) uuids)

-- a number stays in a list that gets it at the end if it is new
met-own : (n : ℕ) (uuids : List ℕ) → StaysIn n uuids (cond (list_any (nat_eq n) uuids) uuids (uuids ++ n ∷ []))
met-own n uuids = grind (arith, common_steps, nat_tests, (pos-kept n n uuids), list_any-append)

met-after : (n : ℕ) (uuids : List ℕ) (rows : List RowAt) → list_any (nat_eq n) uuids ≡ true
    → StaysIn n uuids (uuids_after uuids rows)
met-after n uuids [] there = (there, refl)
met-after n uuids (row ∷ rows) there =
    grind (
      arith,
      text_of_row,
      uuids_following,
      pos-kept,
      list_any-append,
      (met-after n (uuids_following uuids (text_of_row row)) rows),
    )

-- after a row `text` and later rows, the row still has the key that it had when it was met
pub met-seen : (uuids : List ℕ) (rows : List RowAt) (text : RowText)
    → IsMet (uuids_after (uuids_following uuids text) rows) text
    × (key_in (uuids_after (uuids_following uuids text) rows) text ≡ key_in uuids text)
met-seen uuids rows (of_concept row) = (tt, refl)
met-seen uuids rows (of_description row) = (tt, refl)
met-seen uuids rows (of_relationship row) = (tt, refl)
met-seen uuids rows (of_concrete row) = (tt, refl)
met-seen uuids rows (of_member row) =
    grind (
      arith,
      (met-own (member_number row) uuids),
      (met-after (member_number row) (uuids_following uuids (of_member row)) rows),
    )

-- two rows of one component have one key
same-key : (uuids : List ℕ) (one other : RowAt) → same_component one other ≡ true
    → key_in uuids (text_of_row other) ≡ key_in uuids (text_of_row one)
same-key uuids one other same = grind (arith, nat_tests, (kind_same one.kind other.kind))

-- a later row of the component of `one` has the key that `one` got
pub key-later : (uuids : List ℕ) (rows : List RowAt) (one other : RowAt) → same_component one other ≡ true
    → key_in (uuids_after (uuids_following uuids (text_of_row one)) rows) (text_of_row other)
    ≡ key_in uuids (text_of_row one)
key-later uuids rows one other same = same-key _ one other same ∙ (met-seen uuids rows (text_of_row one)).1

-- if an earlier row is of the component of `row`, the key of `row` is among the keys of the earlier rows
key-among : (uuids : List ℕ) (rows : List RowAt) (row : RowAt) → list_any (λ other. same_component other row) rows
    ≡ true
    → 1 ≤ times (key_in (uuids_after uuids rows) (text_of_row row)) (keys_after uuids rows)
key-among uuids [] row there = absurd (cc)
key-among uuids (first ∷ rows) row there =
    grind (
      arith,
      common_steps,
      nat_tests,
      sum_by-cons,
      (key-later uuids rows first row),
      (key-among (uuids_following uuids (text_of_row first)) rows row),
    )

keys_after-append : (uuids : List ℕ) (front rows : List RowAt)
    → keys_after uuids (front ++ rows) ≡ keys_after uuids front ++ keys_after (uuids_after uuids front) rows
keys_after-append uuids [] rows = refl
keys_after-append uuids (row ∷ front) rows =
    ap (λ (rest : List ℕ). key_in uuids (text_of_row row) ∷ rest)
    (keys_after-append (uuids_following uuids (text_of_row row)) front rows)

-- if an earlier row is of the component of `row`, the key of `row` occurs twice among all keys
pub key-twice : (earlier rows : List RowAt) (row : RowAt) → list_any (λ other. same_component other row) earlier ≡ true
    → 2 ≤ times (key_in (uuids_after [] earlier) (text_of_row row)) (keys_after [] (earlier ++ row ∷ rows))
key-twice earlier rows row there =
    let key = key_in (uuids_after [] earlier) (text_of_row row) in
    let later = keys_after (uuids_following (uuids_after [] earlier) (text_of_row row)) rows in
    let all = ap (times key) (keys_after-append [] earlier (row ∷ rows)) in
    omega (
      arith,
      key-among [] earlier row there,
      all,
      times-append key (keys_after [] earlier) (key ∷ later),
      times-append key (key ∷ []) later,
      times-own (key ∷ []) 0 (omega arith),
    )

-- no row of the last list is of the component of a row before it
abbrev pub AreSingle : List RowAt → List RowAt → Type 0
AreSingle earlier [] = ⊤
AreSingle earlier (row ∷ rows) = (list_any (λ other. same_component other row) earlier ≡ false)
    × AreSingle (earlier ++ row ∷ []) rows

-- if no key occurs twice, no row is of the component of an earlier one
pub single-keys : (earlier rows : List RowAt) → ((key : ℕ) → times key (keys_after [] (earlier ++ rows)) ≤ 1)
    → AreSingle earlier rows
single-keys earlier [] few = tt
single-keys earlier (row ∷ rows) few = (
  false_from_ne_true _ (λ told. absurd (omega (
    arith,
    key-twice earlier rows row told,
    few (key_in (uuids_after [] earlier) (text_of_row row)),
  ))),
  single-keys (earlier ++ row ∷ []) rows (simp append_assoc few),
)

-- ---- tests of which one implies the other
-- if no item passes the weaker test `p`, none passes the test `q`
pub any-none : {X : Type 0} (p q : X → Bool) (xs : List X) → ((x : X) → p x ≡ false → q x ≡ false)
    → list_any p xs ≡ false → list_any q xs ≡ false
any-none p q [] weaker none = refl
any-none p q (x ∷ xs) weaker none = grind (arith, list_any, (any-none p q xs weaker))

-- if no row is of the component of an earlier one, no row conflicts with an earlier one
pub no_conflict : (earlier rows : List RowAt) → AreSingle earlier rows → first_conflict earlier rows ≡ None
no_conflict earlier [] single = refl
no_conflict earlier (row ∷ rows) single =
    grind (arith, common_steps, nat_tests, any-none, (no_conflict (earlier ++ row ∷ []) rows single.1))

-- ---- each row is chosen
-- if no item of a list passes a test, the item in its middle fails it
pub any-at : {X : Type 0} (p : X → Bool) (xs ys : List X) (x : X) → list_any p (xs ++ x ∷ ys) ≡ false → p x ≡ false
any-at p xs ys x none = grind (arith, common_steps, nat_tests, list_any-append)

-- whether two rows are of one component does not depend on their order
same_component-sym : (one other : RowAt) → same_component one other ≡ same_component other one
same_component-sym one other = grind (arith, nat_tests)

-- no row of `rows` is of the component of `row` if none of them is of the component of a row before it
apart-later : (earlier more rows : List RowAt) (row : RowAt) → AreSingle (earlier ++ row ∷ more) rows
    → list_any (λ other. same_component other row) rows ≡ false
apart-later earlier more [] row single = refl
apart-later earlier more (next ∷ rows) row single =
    rw (same_component-sym next row, any-at (λ other. same_component other next) earlier more row single.0)
    (apart-later earlier (more ++ next ∷ []) rows row (simp append_assoc at single.1))

-- no time is later than itself
pub is_later-itself : (time : Option ℕ) → is_later time time ≡ false
is_later-itself x0 = grind arith

-- if no row is of the component of an earlier one, all rows are chosen
pub single-choices : (earlier rows : List RowAt) → AreSingle earlier rows
    → marked (choices (earlier ++ rows) earlier rows) rows ≡ rows
single-choices earlier [] single = refl
single-choices earlier (row ∷ rows) single =
    let is_of = λ (other : RowAt). same_component other row in
    let none_later = any-none is_of (λ other. same_component other row && is_later (time_of other) (time_of row)) in
    let before = none_later earlier (λ other. and_left (is_of other) _) single.0 in
    let following = none_later rows (λ other. and_left (is_of other) _) (apart-later earlier [] rows row single.1) in
    let superseded : is_superseded (earlier ++ row ∷ rows) row ≡ false =
    rw (list_any-append, before, is_later-itself, and-false, following) refl in
    let repeated = any-none is_of (λ other. same_version other row) earlier
    (λ other. and_left (is_of other) _) single.0 in
    let others = simp append_assoc at (single-choices (earlier ++ row ∷ []) rows single.1) in
    rw (superseded, repeated) (ap (λ (chosen : List RowAt). row ∷ chosen) others)
