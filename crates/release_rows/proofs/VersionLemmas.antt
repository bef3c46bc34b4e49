-- The versions of components that have several rows: their codes, their first rows, the latest ones, and the choices.
use Rattle.std.proofs.lemmas.Grind.{common_steps}
use Rattle.std.proofs.Common.{ℕ, ◌≡◌, ◌<◌, ◌≤◌, ◌/◌, ◌^◌, ◌&&◌, ◌==◌, List, get_or, true, nat_lt, Option, arith, lit≤}
use Rattle.std.proofs.Common.{IfSome, eq-eqb, All, map, rules, [], ◌∷◌, ◌++◌, length, Bool, false, not, None, Some}
use Rattle.std.proofs.Common.{position, sym, ◌∙◌, ap, refl, append_assoc, append-nil, Contains, eqb-true, nat_eq, ◌+◌}
use Rattle.std.proofs.Common.{set, take, drop, replicate, suc, length-set, ◌||◌, subst}
use Rattle.std.specs.List.Sorted.{IsStrictlyIncreasing}
use Rattle.std.proofs.lemmas.Bool.Decides.{nat_tests}
use Rattle.std.proofs.lemmas.List.Folds.{list_any_at, Any-from_list_any, list_any_more, list_any-append}
use Rattle.number_lists.specs.Members.{has, times}
use Rattle.number_lists.proofs.BlockLemmas.{Contains-map}
use Rattle.release_rows.specs.Chosen.{is_later}
use Rattle.release_rows.specs.inside.KeyedRows.{KeyedRow, same_version, AreOfItsKind, conflicts, is_repeated, Covers}
use Rattle.release_rows.specs.inside.KeyedRows.{choices, is_superseded}
use Rattle.release_rows.specs.inside.VersionTable.{IsCodeOf, time_code, AgreesWith, HasTaken, IsOfVersion}
use Rattle.release_rows.specs.inside.VersionTable.{IsVersionAmong, VersionTable, Version, firsts, is_outdated, without}
use Rattle.release_rows.specs.inside.VersionTable.{is_older}
use Rattle.number_lists.proofs.PlaceLemmas.{place_of-get_or}
use Rattle.row_lists.specs.Spans.{Extends}
use Rattle.release_rows.specs.inside.VersionsInside.{AreKept, IsLineOf, IsPlacedAmong, version_in}
use Rattle.release_rows.specs.declared.versions.VersionRow.{VersionRow}
use Rattle.row_lists.proofs.SpanLemmas.{all-push, rows-same, span-extends, text-extends}
use Rattle.std.specs.List.{list_any}
use Rattle.std.proofs.lemmas.Bool.{le-ltb, false≢true, false_from_ne_true, and_parts, and_left, and_right, cases_Bool}
use Rattle.std.proofs.lemmas.List.{get_or-replicate, length-map, length-replicate, take_at, get_or-map, map_push}
use Rattle.std.proofs.lemmas.List.{length_push, map-append}
use Rattle.std.proofs.lemmas.List.Elements.{All-contains, All-push, All-weaker, Contains-append_left, Contains-get_or}
use Rattle.std.proofs.lemmas.List.Elements.{Contains-push}
use Rattle.release_rows.proofs.SingleLemmas.{any-none, is_later-itself}
use Rattle.std.proofs.lemmas.List.Quantifiers.{position-Some}
use Rattle.key_interner.specs.KeyInterner.{keys_after}
use Rattle.rf2_rows.specs.Rows.{row_fault}
use Rattle.rf2_rows.specs.Versions.{same_row, same_time}
use Rattle.rf2_rows.proofs.VersionLemmas.{same_row-refl, same_row-sym, same_row-trans}
use Rattle.number_lists.proofs.MemberLemmas.{any-has, had_contained, not_contained, times-append}
use Rattle.release_rows.proofs.SplitLemmas.{Contains-cut, any_of, one_first, one_at}
use Rattle.std.proofs.Math.Bool.{and-false, or-false, or-true}
use Rattle.rf2_rows.specs.declared.kind.FileKind.TheVariants.{Concept}
use Rattle.std.proofs.lemmas.List.Sums.{sum_by-cons}

-- The codes of versions: two rows have one code exactly if they are of one component and time, and of two rows of one
-- component the later one has the greater code.

-- the time, if there is one, has at most eight digits
abbrev pub IsTime : Option ℕ → Type 0
IsTime time = IfSome time (λ time. time < 100000000)

time_code-small : (time : Option ℕ) → IsTime time → time_code time ≤ 100000000
time_code-small x0 is = grind (arith, lit≤)

-- the index of a row's key is its code divided by 2^32
pub key_place-code : (repeated : List ℕ) (row : KeyedRow) (code : ℕ) (is : IsCodeOf repeated row code)
    → code / 2 ^ 32 ≡ is.place
key_place-code repeated row code is = omega (arith, is.is, time_code-small row.time is.eight_digits)

-- the key of a row that has a code is repeated
pub has-code : (repeated : List ℕ) (row : KeyedRow) (code : ℕ) → IsCodeOf repeated row code
    → has repeated row.key ≡ true
has-code repeated row code is = grind (arith, common_steps, nat_tests, eq-eqb, get_or, list_any_at)

-- two rows have one key exactly if the indexes in their codes are equal
same_key-place : (repeated : List ℕ) → IsStrictlyIncreasing repeated → (row other : KeyedRow) (code code' : ℕ)
    → (is : IsCodeOf repeated row code) (is' : IsCodeOf repeated other code')
    → (row.key == other.key) ≡ (is.place == is'.place)
same_key-place repeated rising row other code code' is is' =
    grind (
      arith,
      nat_tests,
      (place_of-get_or repeated rising is.place is.within),
      (place_of-get_or repeated rising is'.place is'.within),
      is.key,
      is'.key,
    )

-- two rows are of one component and time exactly if their codes are equal
pub same_version-code : (repeated : List ℕ) → IsStrictlyIncreasing repeated → (row other : KeyedRow) (code code' : ℕ)
    → IsCodeOf repeated row code → IsCodeOf repeated other code' → same_version row other ≡ (code == code')
same_version-code repeated rising row other code code' is is' =
    rw (same_key-place repeated rising row other code code' is is', is.is, is'.is)
    (grind (
      arith,
      nat_tests,
      is.eight_digits,
      is'.eight_digits,
      time_code-small row.time is.eight_digits,
      time_code-small other.time is'.eight_digits,
    ))

-- `other` has the key index of `row` and a greater code exactly if it has the key of `row` and a later time
pub is_later-version : (repeated : List ℕ) → IsStrictlyIncreasing repeated → (row other : KeyedRow) (code code' : ℕ)
    → IsCodeOf repeated row code → IsCodeOf repeated other code'
    → ((code' / 2 ^ 32 == code / 2 ^ 32) && nat_lt code code')
    ≡ ((other.key == row.key) && is_later other.time row.time)
is_later-version repeated rising row other code code' is is' =
    rw (
      key_place-code repeated row code is,
      key_place-code repeated other code' is',
      same_key-place repeated rising other row code' code is' is,
      is.is,
      is'.is,
    )
    (grind (arith, nat_tests, is.eight_digits, is'.eight_digits))

-- The lines of the first rows of versions stay as the buffer grows.

module _ (lines grown : List ℕ) (extends : Extends lines grown) where
  -- a line that stands in the buffer still stands there after the buffer has grown
  pub line-extends : (row : VersionRow) → IsLineOf lines row → IsLineOf grown row
  line-extends row is = grind (arith, common_steps, nat_tests, span-extends, text-extends)

  version-extends : (row : VersionRow) → IsLineOf lines row → version_in grown row ≡ version_in lines row
  version-extends row is = grind (arith, common_steps, nat_tests, text-extends)

  -- the versions of rows stay as they were when the buffer grows
  pub rows_kept : (rows : List VersionRow) → All (IsLineOf lines) rows
      → map (version_in grown) rows ≡ map (version_in lines) rows
  rows_kept rows are = rows-same (version_in lines) (version_in grown) (IsLineOf lines) version-extends rows are

-- The version at a number is that of the row there.

module _ (lines : List ℕ) (rows : List VersionRow) (versions : List Version)
    (are : map (version_in lines) rows ≡ versions) (number : ℕ) (within : number < length versions)
    (row : VersionRow) (is : row ≡ get_or rows number row) where
  among_rows : number < length rows
  among_rows = omega (arith, within, ap length are, length-map rows (version_in lines))

  -- the version at index `number` is that of the row there
  pub version_here : (default : Version) → get_or versions number default ≡ version_in lines row
  version_here default =
      rw (← are) (get_or-map (version_in lines) rows number row default among_rows ∙ ap (version_in lines) (sym is))

  -- the line of the row at index `number` stands in the buffer
  pub line_here : All (IsLineOf lines) rows → IsLineOf lines row
  line_here all = subst (IsLineOf lines) (sym is) (all number row among_rows)

-- Rows taken one after another: what a further one changes, and whether it conflicts with one before it.

-- if an item of a list passes a test, there is one that the list contains and that passes
pub some_of : {X : Type 0} (p : X → Bool) (xs : List X) → list_any p xs ≡ true → (x : X) × Contains xs x × (p x ≡ true)
some_of p xs some = let place = Any-from_list_any p xs some in (place.1, (place.0, place.2, place.3), place.4)

-- one more row is the first of its version unless its key is repeated and an earlier row is of its version
firsts-push : (repeated : List ℕ) (earlier later : List KeyedRow) (row : KeyedRow)
    → firsts repeated earlier (later ++ row ∷ []) ≡ firsts repeated earlier later
    ++ not (has repeated row.key && is_repeated (earlier ++ later) row) ∷ []
firsts-push repeated earlier [] row =
    ap (λ (rows : List KeyedRow). not (has repeated row.key && is_repeated rows row) ∷ []) (sym (append-nil earlier))
firsts-push repeated earlier (first ∷ later) row =
    grind (arith, common_steps, nat_tests, append_assoc, (firsts-push repeated (earlier ++ first ∷ []) later row))

length-firsts : (repeated : List ℕ) (earlier later : List KeyedRow)
    → length (firsts repeated earlier later) ≡ length later
length-firsts repeated earlier [] = refl
length-firsts repeated earlier (row ∷ later) = omega (arith, length-firsts repeated (earlier ++ row ∷ []) later)

-- versions of `rows` stay versions of `rows` with one more at the end
versions-push : (repeated : List ℕ) (rows : List KeyedRow) (row : KeyedRow) (versions : List Version)
    → All (IsVersionAmong repeated rows) versions → All (IsVersionAmong repeated (rows ++ row ∷ [])) versions
versions-push repeated rows row versions = search (rules, All-weaker, append_assoc)

-- a row that is not the first of a new version is taken if its mark says whether it is the first
taken_pushed : (taken : VersionTable) (chosen : List Bool) (rows : List KeyedRow) (row : KeyedRow) (mark : Bool)
    → chosen ≡ taken.chosen ++ mark ∷ []
    → mark ≡ not (has taken.repeated row.key && is_repeated rows row) → IsOfVersion taken.repeated taken.versions row
    → HasTaken taken rows
    → HasTaken (record taken { chosen = chosen }) (rows ++ row ∷ [])
taken_pushed taken chosen rows row mark are is of before = record {
  codes = before.codes;
  versions = versions-push taken.repeated rows row taken.versions before.versions;
  agree = All-push (IsOfVersion taken.repeated taken.versions) rows row before.agree of;
  chosen = rw (are, before.chosen, is, firsts-push taken.repeated [] rows row) refl;
}

-- if the key of `row` is not repeated, a table that was given `rows` also was given `row` once `true` is added to its
-- choices
pub taken_skip : (taken : VersionTable) (chosen : List Bool) (rows : List KeyedRow) (row : KeyedRow)
    → chosen ≡ taken.chosen ++ true ∷ [] → has taken.repeated row.key ≡ false → HasTaken taken rows
    → HasTaken (record taken { chosen = chosen }) (rows ++ row ∷ [])
taken_skip taken chosen rows row are alone before =
    taken_pushed taken chosen rows row true are (grind (arith, nat_tests, alone))
    (λ repeated. absurd (cc (alone, repeated))) before

-- the invariant `AreKept` of the table still holds after one more version and its first row were added
pub kept_more : (old : VersionTable) (codes : List ℕ) (versions : List Version) (chosen : List Bool)
    (version : Version) → AreKept old → length codes ≤ length old.codes + 1
    → versions ≡ old.versions ++ version ∷ [] → chosen ≡ old.chosen ++ true ∷ []
    → version.code / 2 ^ 32 < length old.repeated → version.place ≡ length old.chosen
    → AreKept (record { repeated = old.repeated; codes = codes; versions = versions; chosen = chosen })
kept_more old codes versions chosen version kept few pushed marked key place =
    let more = ap length marked ∙ length_push old.chosen true in
    let Placed : List Bool → Version → Type 0 = λ marks. IsPlacedAmong (length old.repeated) (length marks) in
    record {
      rising = kept.rising;
      few = kept.few;
      each = omega (arith, few, kept.each, ap length pushed, length_push old.versions version);
      placed = all-push (Placed old.chosen) (Placed chosen)
          (λ other is. record { key = is.key; row = omega (arith, is.row, more) }) old.versions versions version pushed
          kept.placed (record { key = key; row = omega (arith, place, more) });
    }

module _ (repeated : List ℕ) (rising : IsStrictlyIncreasing repeated) (rows : List KeyedRow) where
  -- a row with the code of a version is of one component and time with the version's first row
  pub first_is_same : (version : Version) (is : IsVersionAmong repeated rows version) (row : KeyedRow)
      → IsCodeOf repeated row version.code
      → (same_version is.row row ≡ true) × (same_version row is.row ≡ true)
  first_is_same version is row code = grind (arith, nat_tests, same_version-code)

  -- two versions with one code have one first row
  one_version : (version other : Version) (is : IsVersionAmong repeated rows version)
      (is' : IsVersionAmong repeated rows other) → version.code ≡ other.code → is.row ≡ is'.row
  one_version version other is is' same = grind (arith, common_steps, nat_tests, first_is_same, one_first)

  -- the rows contain the first row of each version
  pub Contains-first : (version : Version) (is : IsVersionAmong repeated rows version) → Contains rows is.row
  Contains-first version is = rw is.stands (Contains-cut is.before is.row is.following)

  -- a row with the code of a version is of one component and time with one of the rows
  pub repeats : (version : Version) → IsVersionAmong repeated rows version → (row : KeyedRow)
      → IsCodeOf repeated row version.code → is_repeated rows row ≡ true
  repeats version is row code = grind (arith, common_steps, nat_tests, Contains-first, any_of, first_is_same)

module _ (taken : VersionTable) (rising : IsStrictlyIncreasing taken.repeated) (rows : List KeyedRow)
    (before : HasTaken taken rows) (row : KeyedRow) where
  -- if an earlier row is of the row's component and time, one of the versions has the row's code
  version_before : (other : KeyedRow) → Contains rows other → (code : ℕ) → IsCodeOf taken.repeated row code
      → same_version other row ≡ true
      → (version : Version) × Contains taken.versions version × AgreesWith taken.repeated other version
      × (version.code ≡ code)
  version_before other there code is same =
      let key : other.key ≡ row.key = eqb-true other.key row.key (and_parts (other.key == row.key) _ same).0 in
      let of = All-contains (IsOfVersion taken.repeated taken.versions) rows other before.agree there
      (ap (has taken.repeated) key ∙ has-code taken.repeated row code is) in (
        of.0,
        of.1,
        of.2,
        eqb-true of.0.code code
            (sym (same_version-code taken.repeated rising other row of.0.code code of.2.code is) ∙ same),
      )

  module _ (code : ℕ) (is : IsCodeOf taken.repeated row code) where
    -- if the code of a row is new, no earlier row is of its component and time
    pub new_not_repeated : list_any (nat_eq code) taken.codes ≡ false → is_repeated rows row ≡ false
    new_not_repeated new = false_from_ne_true _ (λ repeated.
        let other = some_of (λ other. same_version other row) rows repeated in
        let of = version_before other.0 other.1 code is other.2 in
        false≢true (sym new ∙ rw (before.codes, ← of.3)
        (any-has (map (λ (version : Version). version.code) taken.versions) of.0.code
        ∙ had_contained (map (λ (version : Version). version.code) taken.versions) of.0.code
        (Contains-map (λ (version : Version). version.code) taken.versions of.0 of.1))))

    -- if the code of a row is new, it conflicts with no earlier row
    pub new_conflicts : list_any (nat_eq code) taken.codes ≡ false
        → list_any (λ earlier. conflicts earlier row) rows ≡ false
    new_conflicts new = any-none (λ other. same_version other row) (λ other. conflicts other row) rows
        (λ other. and_left (same_version other row) _) (new_not_repeated new)

    -- the version at the index at which the row's code was found
    module _ (number : ℕ) (found : position (λ other. code == other) taken.codes ≡ Some number) (default : Version)
      where
        placed : (number < length taken.versions) × ((get_or taken.versions number default).code ≡ code)
        placed = grind (
          arith,
          common_steps,
          nat_tests,
          position-Some (λ other. code == other) taken.codes number 0 found,
          before.codes,
          (get_or-map (λ (version : Version). version.code) taken.versions number default 0),
        )

        -- the version at the index is that of one of the rows
        pub version_at : IsVersionAmong taken.repeated rows (get_or taken.versions number default)
        version_at = before.versions number default placed.0

        row_code : IsCodeOf taken.repeated row (get_or taken.versions number default).code
        row_code = rw placed.1 is

        -- the version's first row is of the row's kind, if earlier rows of its key are
        pub version_kind : AreOfItsKind rows row → (get_or taken.versions number default).kind ≡ row.kind
        version_kind kinds =
            let version = get_or taken.versions number default in
            grind (
              arith,
              nat_tests,
              version_at.kind,
              (first_is_same taken.repeated rising rows version version_at row row_code),
              kinds version_at.row (Contains-first taken.repeated rising rows version version_at),
            )

        -- a row that equals the first row of its version conflicts with no earlier row
        pub same_conflicts : AreOfItsKind rows row
            → same_row row.kind (get_or taken.versions number default).text row.text ≡ true
            → list_any (λ earlier. conflicts earlier row) rows ≡ false
        same_conflicts kinds same = false_from_ne_true _ (λ some.
            let version = get_or taken.versions number default in
            let other = some_of (λ earlier. conflicts earlier row) rows some in
            let both = and_parts (same_version other.0 row) (not (same_row other.0.kind other.0.text row.text))
            other.2 in
            let of = version_before other.0 other.1 code is both.0 in
            let among = All-contains (IsVersionAmong taken.repeated rows) taken.versions of.0 before.versions of.1 in
            let kind : other.0.kind ≡ row.kind =
            kinds other.0 other.1 (eqb-true other.0.key row.key (and_parts (other.0.key == row.key) _ both.0).0) in
            let one = one_version taken.repeated rising rows of.0 version among version_at (of.3 ∙ sym placed.1) in
            grind (
              arith,
              nat_tests,
              kind,
              one,
              among.text,
              version_at.text,
              of.2.same,
              same_row-sym row.kind version.text other.0.text,
              same_row-trans row.kind other.0.text version.text row.text,
              same,
              both.1,
            ))

        -- a row that differs from the first row of its version conflicts with an earlier row
        pub other_conflicts : AreOfItsKind rows row
            → same_row row.kind (get_or taken.versions number default).text row.text ≡ false
            → list_any (λ earlier. conflicts earlier row) rows ≡ true
        other_conflicts kinds apart =
            let version = get_or taken.versions number default in
            let first = first_is_same taken.repeated rising rows version version_at row row_code in
            let kind = sym version_at.kind ∙ version_kind kinds in
            any_of (λ earlier. conflicts earlier row) rows version_at.row
            (Contains-first taken.repeated rising rows version version_at)
            (rw (first.0, kind, ← version_at.text, apart) refl)

        -- a row that equals the first row of its version is taken with the mark `false`
        pub taken_again : (chosen : List Bool) → chosen ≡ taken.chosen ++ false ∷ []
            → same_row row.kind (get_or taken.versions number default).text row.text ≡ true
            → HasTaken (record taken { chosen = chosen }) (rows ++ row ∷ [])
        taken_again chosen are same =
            let version = get_or taken.versions number default in
            taken_pushed taken chosen rows row false are
            (grind (
              arith,
              nat_tests,
              has-code taken.repeated row code is,
              repeats taken.repeated rising rows version version_at row row_code,
            ))
            (λ repeated. (
              version,
              Contains-get_or taken.versions number default placed.0,
              record {
                code = row_code;
                same = same;
              },
            )) before

    -- the first row of a new version is taken with the mark `true`, and its code and version are added
    pub taken_first : (codes : List ℕ) (versions : List Version) (chosen : List Bool)
        → list_any (nat_eq code) taken.codes ≡ false
        → row_fault row.kind row.text ≡ None → codes ≡ keys_after taken.codes code
        → versions ≡ taken.versions
        ++ record { code = code; place = length taken.chosen; kind = row.kind; text = row.text } ∷ []
        → chosen ≡ taken.chosen ++ true ∷ []
        → HasTaken (record { repeated = taken.repeated; codes = codes; versions = versions; chosen = chosen })
        (rows ++ row ∷ [])
    taken_first codes versions chosen new accepted codes_are versions_are chosen_are =
        let version : Version = record { code = code; place = length taken.chosen; kind = row.kind; text = row.text } in
        let added = taken.versions ++ version ∷ [] in
        record {
          codes = rw (
            codes_are,
            new,
            before.codes,
            versions_are,
            map_push (λ (version : Version). version.code)
                taken.versions version,
          ) refl;
          versions = rw versions_are (All-push (IsVersionAmong taken.repeated (rows ++ row ∷ [])) taken.versions
              version (versions-push taken.repeated rows row taken.versions before.versions)
              (record {
                before = rows;
                row = row;
                following = [];
                stands = refl;
                place = ap length before.chosen ∙ length-firsts taken.repeated [] rows;
                code = is;
                kind = refl;
                text = refl;
                first = new_not_repeated new;
              }));
          agree = rw versions_are (All-push (IsOfVersion taken.repeated added) rows row
              (All-weaker (IsOfVersion taken.repeated taken.versions) (IsOfVersion taken.repeated added)
              (λ other of repeated. let found = of repeated in
              (found.0, Contains-append_left taken.versions (version ∷ []) found.0 found.1, found.2)) rows before.agree)
              (λ repeated. (
                version,
                Contains-push taken.versions version,
                record {
                  code = is;
                  same = same_row-refl row.kind row.text accepted;
                },
              )));
          chosen = rw (
            chosen_are,
            before.chosen,
            firsts-push taken.repeated [] rows row,
            and_right (has taken.repeated row.key) (is_repeated rows row) (new_not_repeated new),
          ) refl;
        }

-- The greatest code of each key, and the marks of rows without those of other codes.

-- the default version for an index past the end of a list
abbrev pub no_version : Version
no_version = record { code = 0; place = 0; kind = Concept; text = [] }

-- at the index of each key `latest` has the greatest code of the versions of that key
abbrev pub AreLatest : List ℕ → List Version → Type 0
AreLatest latest versions = (code : ℕ) → code / 2 ^ 32 < length latest
    → nat_lt code (get_or latest (code / 2 ^ 32) 0) ≡ is_outdated versions code

-- overwritten with zeros, `latest` keeps its length and has the greatest codes of an empty list of versions
pub latest_start : (latest filled : List ℕ) (count : ℕ) → count ≡ length latest → filled ≡ replicate (length latest) 0
    → (length (take count (filled ++ drop (length filled) latest)) ≡ length latest)
    × AreLatest (take count (filled ++ drop (length filled) latest)) []
latest_start latest filled count all zeros =
    let long : length filled ≡ count = ap length zeros ∙ length-replicate (length latest) 0 ∙ sym all in
    let zero_at : (code : ℕ) → code / 2 ^ 32 < length filled → get_or filled (code / 2 ^ 32) 0 ≡ 0 = λ code within.
    rw zeros (get_or-replicate (length latest) (code / 2 ^ 32) 0 0 (omega (arith, within, long, all))) in
    rw (take_at filled (drop (length filled) latest) count long)
    (long ∙ all, λ code within. rw (zero_at code within) (le-ltb code 0 (omega arith)))

-- if `latest` has the greatest codes of the first `number` versions, and the code of the next version is not above the
-- entry of its key, `latest` also is right for one version more
pub latest_keeps : (latest : List ℕ) (versions : List Version) (number : ℕ) (default : Version)
    → number < length versions
    → AreLatest latest (take number versions) → (code : ℕ) → code ≡ (get_or versions number default).code
    → code ≤ get_or latest (code / 2 ^ 32) 0 → AreLatest latest (take (number + 1) versions)
latest_keeps latest versions number default within are code is low other in_latest =
    grind (arith, common_steps, nat_tests, list_any_more, nat_lt, nat_tests)

-- if `latest` has the greatest codes of the first `number` versions, and the code of the next version is above the
-- entry of its key, `latest` is right for one version more once the entry is this code
pub latest_takes : (latest : List ℕ) (versions : List Version) (number : ℕ) (default : Version)
    → number < length versions
    → AreLatest latest (take number versions) → (code : ℕ) → code ≡ (get_or versions number default).code
    → code / 2 ^ 32 < length latest → get_or latest (code / 2 ^ 32) 0 < code
    → AreLatest (set latest (code / 2 ^ 32) code) (take (number + 1) versions)
latest_takes latest versions number default within are code is in_place high other in_latest =
    grind (arith, common_steps, nat_tests, common_steps, length-set, list_any_more, nat_lt, nat_tests)

-- the row at index `place` is the first of one of `some` versions, and that version is not the latest of its
-- component
abbrev pub is_older_of : List Version → List Version → ℕ → Bool
is_older_of versions some place =
    list_any (λ (version : Version). is_outdated versions version.code && (version.place == place)) some

-- `new` are the marks `old`, but cleared where `leaves` is true of the index
abbrev pub AreWithout : List Bool → List Bool → (ℕ → Bool) → Type 0
AreWithout new old leaves = (place : ℕ) → get_or new place false ≡ (get_or old place false && not (leaves place))

-- if the marks `new` are right for the first `number` versions and the next version is the latest of its component,
-- they also are right for one version more
pub without_keeps : (new old : List Bool) (versions : List Version) (number : ℕ) (default : Version)
    → number < length versions → AreWithout new old (is_older_of versions (take number versions))
    → is_outdated versions (get_or versions number default).code ≡ false
    → AreWithout new old (is_older_of versions (take (number + 1) versions))
without_keeps new old versions number default within are latest place =
    grind (arith, common_steps, nat_tests, list_any_more, or-false)

-- if the marks `new` are right for the first `number` versions and the next version is not the latest of its component,
-- they are right for one version more once the mark of its first row is cleared
pub without_more : (new old : List Bool) (versions : List Version) (number : ℕ) (default : Version)
    → number < length versions → AreWithout new old (is_older_of versions (take number versions))
    → (at : ℕ) → at ≡ (get_or versions number default).place → at < length new
    → is_outdated versions (get_or versions number default).code ≡ true
    → AreWithout (set new at false) old (is_older_of versions (take (number + 1) versions))
without_more new old versions number default within are at is in_marks outdated place =
    grind (arith, common_steps, nat_tests, and-false, common_steps, list_any_more, nat_tests, or-false, or-true)

-- if each mark of `new` is that of `old`, but cleared where `leaves` is true of its index (counted from `place`), `new`
-- is `without leaves place old`
pub without_from : (leaves : ℕ → Bool) (place : ℕ) (new old : List Bool) → length new ≡ length old
    → ((k at : ℕ) → at ≡ place + k → get_or new k false ≡ (get_or old k false && not (leaves at)))
    → new ≡ without leaves place old
without_from leaves place [] [] long are = refl
without_from leaves place [] (was ∷ old) long are = absurd (omega arith)
without_from leaves place (mark ∷ new) [] long are = absurd (omega arith)
without_from leaves place (mark ∷ new) (was ∷ old) long are =
    λ i. are 0 place (omega arith) i
    ∷ without_from leaves (place + 1) new old (omega arith) (λ k at is. are (suc k) at (omega arith)) i

-- Which rows are chosen: the first rows of versions, without those of versions that are not the latest of their
-- component.

-- how often `key` occurs among the keys of `rows`
abbrev pub count_of : ℕ → List KeyedRow → ℕ
count_of key rows = times key (map (λ (row : KeyedRow). row.key) rows)

-- if a row with the key of `row` passes a test, that key occurs at least once
with_key : (rows : List KeyedRow) (row : KeyedRow) (test : KeyedRow → Bool)
    → list_any (λ other. (other.key == row.key) && test other) rows ≡ true → 1 ≤ count_of row.key rows
with_key [] row test there = absurd (cc)
with_key (first ∷ rows) row test there = grind (arith, common_steps, nat_tests, sum_by-cons, (with_key rows row test))

-- a row with a key that no other row has is neither repeated nor superseded
module _ (earlier : List KeyedRow) (row : KeyedRow) (later : List KeyedRow)
    (alone : 2 ≤ count_of row.key (earlier ++ row ∷ later) → ⊥) where
  count : count_of row.key (earlier ++ row ∷ later) ≡ count_of row.key earlier + (1 + count_of row.key later)
  count = grind (arith, common_steps, nat_tests, map-append, times-append, sum_by-cons)

  alone_repeated : is_repeated earlier row ≡ false
  alone_repeated = grind (
    arith,
    nat_tests,
    count,
    alone,
    (with_key earlier row (λ other. same_time other.time row.time)),
  )

  alone_superseded : is_superseded (earlier ++ row ∷ later) row ≡ false
  alone_superseded = grind (
    arith,
    nat_tests,
    count,
    alone,
    list_any-append,
    is_later-itself row.time,
    (with_key earlier row (λ other. is_later other.time row.time)),
    (with_key later row (λ other. is_later other.time row.time)),
  )

module _ (taken : VersionTable) (rising : IsStrictlyIncreasing taken.repeated) (rows : List KeyedRow)
    (before : HasTaken taken rows) (covers : Covers taken.repeated (map (λ (row : KeyedRow). row.key) rows)) where
  among : (version : Version) → Contains taken.versions version → IsVersionAmong taken.repeated rows version
  among version there = All-contains (IsVersionAmong taken.repeated rows) taken.versions version before.versions there

  -- if a version is outdated, its first row is superseded
  outdated_superseded : (version : Version) (is : IsVersionAmong taken.repeated rows version)
      → is_outdated taken.versions version.code ≡ true → is_superseded rows is.row ≡ true
  outdated_superseded version is outdated =
      let later = some_of _ taken.versions outdated in
      let of = among later.0 later.1 in
      any_of _ rows of.row (Contains-first taken.repeated rising rows later.0 of)
      (sym (is_later-version taken.repeated rising is.row of.row version.code later.0.code is.code of.code) ∙ later.2)

  superseded_outdated : (row : KeyedRow) (code : ℕ) → IsCodeOf taken.repeated row code → is_superseded rows row ≡ true
      → is_outdated taken.versions code ≡ true
  superseded_outdated row code is superseded =
      let later = some_of _ rows superseded in
      let of = All-contains (IsOfVersion taken.repeated taken.versions) rows later.0 before.agree later.1
      (grind (arith, nat_tests, later.2, has-code taken.repeated row code is)) in
      let told = is_later-version taken.repeated rising row later.0 code of.0.code is of.2.code in
      any_of _ taken.versions of.0 of.1 (rw told later.2)

  module _ (earlier : List KeyedRow) (row : KeyedRow) (later : List KeyedRow) (stands : rows ≡ earlier ++ row ∷ later)
    where
      -- if the first row of an outdated version stands at the index of a row, that row is superseded, and its key is
      -- repeated
      older_superseded : is_older taken.versions (length earlier) ≡ true → (has taken.repeated row.key ≡ true)
          × (is_superseded rows row ≡ true)
      older_superseded older =
          let of = some_of _ taken.versions older in
          let is = among of.0 of.1 in
          let both = and_parts (is_outdated taken.versions of.0.code) (of.0.place == length earlier) of.2 in
          let same = one_at is.before is.row is.following earlier row later (sym is.stands ∙ stands)
          (sym is.place ∙ eqb-true of.0.place (length earlier) both.1) in
          rw (← same) (has-code taken.repeated is.row of.0.code is.code, outdated_superseded of.0 is both.0)

      -- if the first row of a version is superseded, its version is not the latest of its component
      superseded_older : has taken.repeated row.key ≡ true → is_repeated earlier row ≡ false
          → is_superseded rows row ≡ true → is_older taken.versions (length earlier) ≡ true
      superseded_older is_repeated_key first superseded =
          let of = All-contains (IsOfVersion taken.repeated taken.versions) rows row before.agree
          (rw stands (Contains-cut earlier row later)) is_repeated_key in
          let is = among of.0 of.1 in
          let one = first_is_same taken.repeated rising rows of.0 is row of.2.code in
          let same = one_first is.before is.row is.following earlier row later (sym is.stands ∙ stands) is.first first
          one.0 one.1 in
          any_of _ taken.versions of.0 of.1
          (grind (arith, nat_tests, superseded_outdated row of.0.code of.2.code superseded, is.place, same.1))

      -- the mark of a row says whether it is chosen; if its key is not repeated, no other row has the key
      mark : (not (has taken.repeated row.key && is_repeated earlier row)
          && not (is_older taken.versions (length earlier))) ≡ not (is_superseded rows row || is_repeated earlier row)
      mark = grind (
        arith,
        common_steps,
        nat_tests,
        cases_Bool,
        older_superseded,
        superseded_older,
        not_contained,
        alone_superseded,
        alone_repeated,
      )

  marks : (earlier later : List KeyedRow) → rows ≡ earlier ++ later
      → without (is_older taken.versions) (length earlier) (firsts taken.repeated earlier later)
      ≡ choices rows earlier later
  marks earlier [] stands = refl
  marks earlier (row ∷ later) stands =
      rw (
        mark earlier row later stands,
        ← length_push earlier row,
        marks (earlier ++ row ∷ []) later (stands ∙ sym (append_assoc earlier (row ∷ []) later)),
      ) refl

  -- the marks without those of outdated versions are the choices among the rows
  pub chosen_are : (chosen : List Bool) → chosen ≡ without (is_older taken.versions) 0 taken.chosen
      → chosen ≡ choices rows [] rows
  chosen_are chosen are = are ∙ ap (without (is_older taken.versions) 0) before.chosen ∙ marks [] rows refl
