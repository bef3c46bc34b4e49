-- Which rows are chosen: one of each component, and none of its rows is later.
use Rattle.std.proofs.Common.{arith, ℕ, ◌≡◌, ◌∙◌, refl, sym, Bool, true, false, not, cond, ◌&&◌, List, [], ◌∷◌, ◌++◌}
use Rattle.std.proofs.Common.{Contains, filter, length, Option, inl, inr}
use Rattle.std.specs.List.{list_any}
use Rattle.std.proofs.lemmas.Bool.{cases_Bool, true≢false, true_from_ne_false}
use Rattle.std.proofs.lemmas.Bool.Decides.{nat_tests}
use Rattle.std.proofs.lemmas.Grind.{common_steps}
use Rattle.std.proofs.lemmas.List.Folds.{list_any-append}
use Rattle.rf2_rows.specs.Versions.{same_time}
use Rattle.row_lists.specs.Marked.{marked}
use Rattle.release_rows.specs.Chosen.{choices, chosen, is_later, is_repeated, is_superseded, same_component}
use Rattle.release_rows.specs.Chosen.{same_version, time_of}
use Rattle.release_rows.specs.Files.{RowAt}
use Rattle.release_rows.proofs.ApartLemmas.{AreAmong, IsAmong, are_among}
use Rattle.release_rows.proofs.SingleLemmas.{any-none, is_later-itself}
use Rattle.release_rows.proofs.SplitLemmas.{any_of}

latest_after : (all earlier later : List RowAt) (row : RowAt) → Contains (marked (choices all earlier later) later) row
    → is_superseded all row ≡ false
latest_after all earlier [] row has = grind (arith, common_steps, nat_tests)
latest_after all earlier (first ∷ later) row has =
    grind (arith, common_steps, nat_tests, (latest_after all (earlier ++ first ∷ []) later row))

-- no chosen row has a later one of its component
pub chosen_latest : (rows : List RowAt) (row : RowAt) → Contains (chosen rows) row → is_superseded rows row ≡ false
chosen_latest rows row has = latest_after rows [] rows row has

-- ---- times are ordered, and two times of which neither is later are equal
later_trans : (one other third : Option ℕ) → is_later one other ≡ true → is_later other third ≡ true
    → is_later one third ≡ true
later_trans one other third first second = grind (arith, common_steps, nat_tests)

neither_later : (one other : Option ℕ) → is_later one other ≡ false → is_later other one ≡ false
    → same_time one other ≡ true
neither_later one other not_one not_other = grind (arith, common_steps, nat_tests)

later_than_same : (one other third : Option ℕ) → same_time one other ≡ true → is_later third one ≡ is_later third other
later_than_same one other third same = grind (arith, common_steps, nat_tests)

-- ---- rows of one component
component_as : (row other third : RowAt) → same_component row other ≡ true
    → same_component third row ≡ same_component third other
component_as row other third same = grind (arith, common_steps, nat_tests)

-- tests that agree on each item agree on whether one of the items passes
any_same : {X : Type 0} (test other : X → Bool) (items : List X) → ((item : X) → test item ≡ other item)
    → list_any test items ≡ list_any other items
any_same test other [] same = refl
any_same test other (item ∷ items) same = grind (arith, common_steps, (same item), (any_same test other items same))

-- two rows of one component and one time are both superseded, or neither is
superseded_same : (all : List RowAt) (row other : RowAt) → same_version row other ≡ true
    → is_superseded all row ≡ is_superseded all other
superseded_same all row other same = any_same _ _ all (λ third.
    grind (
      arith,
      common_steps,
      (component_as row other third),
      (later_than_same (time_of row) (time_of other) (time_of third)),
    ))

-- if `earlier` rows and a further row are among `all`, the earlier rows with that row at the end are among `all`
among_both : (all earlier : List RowAt) (row : RowAt) → AreAmong all earlier → IsAmong all row
    → AreAmong all (earlier ++ row ∷ [])
among_both all [] row before among = (among, tt)
among_both all (first ∷ earlier) row before among = (before.0, among_both all earlier row before.1 among)

module _ (of : RowAt) where
  -- `row` is of the component of `of`
  abbrev own : RowAt → Bool
  own row = same_component row of

  abbrev beats : Option ℕ → List RowAt → Bool
  beats time rows = list_any (λ other. own other && is_later (time_of other) time) rows

  -- one of `rows` is of the component, and none of `rows` of that component is later
  record HasLatest (rows : List RowAt) : Type 0 where
    row : RowAt
    among : IsAmong rows row
    is_own : own row ≡ true
    unbeaten : beats (time_of row) rows ≡ false

  -- if a list has a latest row of the component, so does the list with one more row in front, whether that row is
  -- later or not
  with_first : (first : RowAt) (rows : List RowAt) (latest : HasLatest rows) (later : Bool)
      → (own first && is_later (time_of first) (time_of latest.row)) ≡ later → HasLatest (first ∷ rows)
  with_first first rows latest true is = record {
    row = first;
    among = λ test none. grind (arith, common_steps);
    is_own = grind (arith, common_steps);
    unbeaten =
        let rest = any-none (λ other. own other && is_later (time_of other) (time_of latest.row))
        (λ other. own other && is_later (time_of other) (time_of first)) rows
        (λ other not. grind (arith, common_steps, (later_trans (time_of other) (time_of first) (time_of latest.row))))
        latest.unbeaten in
        grind (arith, common_steps, (is_later-itself (time_of first)));
  }
  with_first first rows latest false is = record {
    row = latest.row;
    among = λ test none. latest.among test (grind (arith, common_steps));
    is_own = latest.is_own;
    unbeaten = grind (arith, common_steps, latest.unbeaten);
  }

  -- a row of the component in front of rows of other components is the latest of the list
  only_first : (first : RowAt) (rows : List RowAt) → own first ≡ true → list_any own rows ≡ false
      → HasLatest (first ∷ rows)
  only_first first rows mine none = record {
    row = first;
    among = λ test none. grind (arith, common_steps);
    is_own = mine;
    unbeaten =
        let rest = any-none own (λ other. own other && is_later (time_of other) (time_of first)) rows
        (λ other not. grind (arith, common_steps)) none in
        grind (arith, common_steps, (is_later-itself (time_of first)));
  }

  has_latest : (rows : List RowAt) → list_any own rows ≡ true → HasLatest rows
  has_latest [] some = absurd (grind arith)
  has_latest (first ∷ rows) some = elim (cases_Bool (list_any own rows)) [
    | inl more ↦ with_first first rows (has_latest rows more) _ refl
    | inr none ↦ only_first first rows (grind (arith, common_steps)) none
  ]

  -- `row` is of the component, and none of `all` supersedes it
  abbrev stands : List RowAt → RowAt → Bool
  stands all row = own row && not (is_superseded all row)

  -- two rows of the component that nothing supersedes have one time
  both_stand : (all : List RowAt) (row other : RowAt) → IsAmong all row → IsAmong all other → stands all row ≡ true
      → stands all other ≡ true
      → same_version other row ≡ true
  both_stand all row other among among_other one two =
      let not_row = among (λ third. same_component third other && is_later (time_of third) (time_of other))
      (grind (arith, common_steps)) in
      let not_other = among_other (λ third. same_component third row && is_later (time_of third) (time_of row))
      (grind (arith, common_steps)) in
      grind (
        arith,
        common_steps,
        (component_as row of other),
        (component_as other of row),
        (neither_later (time_of other) (time_of row)),
      )

  -- if `row` stands, another row has its version exactly if that row stands
  stands_as : (all : List RowAt) (row other : RowAt) → IsAmong all row → IsAmong all other → stands all row ≡ true
      → same_version other row ≡ stands all other
  stands_as all row other among among_other standing =
      grind (
        arith,
        common_steps,
        (both_stand all row other among among_other standing),
        (superseded_same all other row),
        (component_as row of other),
      )

  repeats : (all earlier : List RowAt) (row : RowAt) → IsAmong all row → AreAmong all earlier → stands all row ≡ true
      → is_repeated earlier row ≡ list_any (stands all) earlier
  repeats all [] row among all_among standing = refl
  repeats all (first ∷ earlier) row among all_among standing =
      grind (
        arith,
        common_steps,
        (stands_as all row first among all_among.0 standing),
        (repeats all earlier row among all_among.1 standing),
      )

  -- exactly one of the rows `later` that are of the component is chosen if one of them stands and no earlier row
  -- does; otherwise none is
  chosen_after : (all earlier later : List RowAt) → AreAmong all earlier → AreAmong all later
      → length (filter own (marked (choices all earlier later) later))
      ≡ cond (list_any (stands all) earlier) 0 (cond (list_any (stands all) later) 1 0)
  chosen_after all earlier [] before following = grind (arith, common_steps)
  chosen_after all earlier (row ∷ later) before following =
      let rest = chosen_after all (earlier ++ row ∷ []) later (among_both all earlier row before following.0)
      following.1 in
      grind (arith, common_steps, list_any-append, (repeats all earlier row following.0 before), rest)

  -- if one of `rows` is of the component, one of them stands
  one_stands : (rows : List RowAt) → list_any own rows ≡ true → list_any (stands rows) rows ≡ true
  one_stands rows some =
      let latest = has_latest rows some in
      let standing : is_superseded rows latest.row ≡ false =
      any_same _ _ rows (λ other. grind (arith, common_steps, (component_as latest.row of other), latest.is_own))
      ∙ latest.unbeaten in
      true_from_ne_false _ (λ none. absurd (true≢false (sym (grind (arith, common_steps, latest.is_own))
      ∙ latest.among (stands rows) none)))

-- exactly one row of the component of each row is chosen
pub chosen_once : (rows : List RowAt) (row : RowAt) → Contains rows row
    → length (filter (λ other. same_component other row) (chosen rows)) ≡ 1
chosen_once rows row there =
    let some = any_of (own row) rows row there (grind (arith, common_steps, nat_tests)) in
    grind (arith, common_steps, (chosen_after row rows [] rows tt (are_among [] rows)), (one_stands row rows some))
