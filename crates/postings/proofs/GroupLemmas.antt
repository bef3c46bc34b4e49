-- The groups of the rows of one source: how many there are, and the place of a row's group among them.
use Rattle.std.proofs.Common.{ℕ, ◌+◌, ◌==◌, ◌≡◌, ◌≢◌, ◌≤◌, ◌^◌, ◌++◌, ◌∷◌, ◌∙◌, Bool}
use Rattle.std.proofs.Common.{true, false, cond, eqb, ltb, not, List, length, get_or, map, refl, sym, ap, arith}
use Rattle.std.proofs.Common.{length-append}
use Rattle.std.specs.List.{filter, list_any, position_or_len}
use Rattle.std.proofs.lemmas.Bool.{and_parts, eq-eqb, eqb-true, ne_eqb, or_left, or_right}
use Rattle.std.proofs.lemmas.List.{length-map, map-append}
use Rattle.std.proofs.lemmas.List.Elements.{filter-append}
use Rattle.std.proofs.lemmas.List.Filters.{length-filter_both}
use Rattle.std.proofs.lemmas.List.Folds.{list_any-append}
use Rattle.std.proofs.lemmas.List.Sums.{position_or_len_is, prefix_len-le-length}
use Rattle.std.proofs.lemmas.Map.Views.{any-filter_same}
use Rattle.number_lists.specs.Distinct.{distinct}
use Rattle.number_lists.specs.Rising.{IsRising}
use Rattle.number_lists.specs.Members.{has}
use Rattle.idset.specs.Sets.{place_of}
use Rattle.idset.proofs.Places.{below_place, has-place, place_le}
use Rattle.held_release.proofs.FinishLemmas.{length-rising}
use Rattle.postings.specs.inside.Coded.{code_eq, group_codes, ungrouped_pairs, numbers_of_groups, pair_code}
use Rattle.postings.specs.inside.Coded.{place_in_source}
use Rattle.held_release.specs.declared.coded_rows.CodedRow.{CodedRow}
use Rattle.held_release.proofs.DistinctPlaceLemmas.{filter-map_agree, length-distinct, position-distinct}
use Rattle.postings.proofs.MarkLemmas.{code_eq_equiv}
use Rattle.number_lists.proofs.RisingOrderLemmas.{has-rising}

-- the group numbers of rows, row by row, with 0 for none
abbrev groups_at : List CodedRow → List ℕ
groups_at rows = map (λ (row : CodedRow). row.group) rows

-- the rows that have no group number
abbrev ungrouped_rows : List CodedRow → List CodedRow
ungrouped_rows rows = filter (λ (row : CodedRow). row.group == 0) rows

-- ---- how many groups there are

-- a source has as many groups as distinct group numbers and distinct pairs of rows without a number
pub length-group_codes : (rows : List CodedRow)
    → length (group_codes rows) ≡ length (numbers_of_groups rows) + length (ungrouped_pairs rows)
length-group_codes rows =
    omega (
      arith,
      length-append {A = ℕ × (ℕ × ℕ)} (map (λ (group : ℕ). (group, (0, 0))) (numbers_of_groups rows))
          (map (λ (pair : ℕ × ℕ). (0, pair)) (ungrouped_pairs rows)),
      length-map {B = ℕ × (ℕ × ℕ)} (numbers_of_groups rows) (λ (group : ℕ). (group, (0, 0))),
      length-map {B = ℕ × (ℕ × ℕ)} (ungrouped_pairs rows) (λ (pair : ℕ × ℕ). (0, pair)),
    )

-- there are no more groups than rows
pub length-group_codes-le : (rows : List CodedRow) → length (group_codes rows) ≤ length rows
length-group_codes-le rows =
    let numbered : List CodedRow = filter (λ (row : CodedRow). not (row.group == 0)) rows in
    let groups : filter (λ group. not (group == 0)) (groups_at rows) ≡ groups_at numbered =
    filter-map_agree (λ (row : CodedRow). row.group) (λ group. not (group == 0)) (λ row. not (row.group == 0)) rows
    (λ k d within. refl) in
    omega (
      arith,
      length-group_codes rows,
      length-rising (filter (λ group. not (group == 0)) (groups_at rows)),
      ap (λ (numbers : List ℕ). length numbers) groups,
      length-map numbered (λ (row : CodedRow). row.group),
      length-distinct code_eq (map pair_code (ungrouped_rows rows)),
      length-map (ungrouped_rows rows) pair_code,
      length-filter_both (λ (row : CodedRow). row.group == 0) (λ (row : CodedRow). not (row.group == 0)) (λ row. refl)
          rows,
    )

-- the place of a row's group in its source is at most the number of groups
pub place_in_source-le : (rows : List CodedRow) (row : CodedRow) → place_in_source rows row ≤ length (group_codes rows)
place_in_source-le rows row =
    elim (row.group == 0) as (λ b. cond b (length (numbers_of_groups rows)
    + position_or_len (code_eq (pair_code row)) (ungrouped_pairs rows))
    (position_or_len (λ group. row.group == group) (numbers_of_groups rows)) ≤ length (group_codes rows)) [
      | true ↦ omega (
        arith,
        length-group_codes rows,
        prefix_len-le-length (λ pair. not (code_eq (pair_code row) pair)) (ungrouped_pairs rows),
      )
      | false ↦ omega (
        arith,
        length-group_codes rows,
        prefix_len-le-length (λ group. not (row.group == group))
            (numbers_of_groups rows),
      )
    ]

-- ---- a row with the number of a group

-- the number of a row's group is among those of the groups
group_there : (before : List CodedRow) (row : CodedRow) (following : List CodedRow) → row.group ≢ 0
    → has (numbers_of_groups (before ++ row ∷ following)) row.group ≡ true
group_there before row following numbered =
    let rows : List CodedRow = before ++ row ∷ following in
    let is_own : ℕ → Bool = λ group. group == row.group in
    has-rising (filter (λ group. not (group == 0)) (groups_at rows)) row.group
    ∙ any-filter_same is_own (λ group. not (group == 0)) true
    (λ group own. ap not (ne_eqb group 0 (λ none. numbered (sym (eqb-true group row.group own) ∙ none))))
    (groups_at rows)
    ∙ ap (list_any is_own) (map-append (λ (row : CodedRow). row.group) before (row ∷ following))
    ∙ list_any-append is_own (groups_at before) (groups_at (row ∷ following))
    ∙ or_right (list_any is_own (groups_at before)) (list_any is_own (groups_at (row ∷ following)))
    (or_left (row.group == row.group) (list_any is_own (groups_at following)) (eq-eqb row.group row.group refl))

-- in a rising list that has a number, as many numbers are below it as stand before it
place_of-there : (numbers : List ℕ) (number : ℕ) → IsRising numbers → has numbers number ≡ true
    → place_of numbers number ≡ position_or_len (λ other. number == other) numbers
place_of-there numbers number rises there =
    let place : ℕ = place_of numbers number in
    let parts = and_parts (ltb place (length numbers)) (eqb (get_or numbers place 0) number)
    (sym (has-place (2 ^ 32) numbers number rises) ∙ there) in
    sym (position_or_len_is (λ other. number == other) numbers place 0 (place_le numbers number)
    (λ k before. ne_eqb number (get_or numbers k 0) (λ same. omega (arith, below_place numbers number k before)))
    (λ within. eq-eqb number (get_or numbers place 0) (sym (eqb-true (get_or numbers place 0) number parts.1))))

-- the two places that the group of a row can have
place_by : Bool → List CodedRow → CodedRow → ℕ
place_by is_ungrouped rows row =
    cond is_ungrouped (length (numbers_of_groups rows) + position_or_len (code_eq (pair_code row))
    (ungrouped_pairs rows))
    (position_or_len (λ group. row.group == group) (numbers_of_groups rows))

-- for a row with a group number, its group's place in the source is the place of that number among the rising group
-- numbers of the source
pub numbered_place : (before : List CodedRow) (row : CodedRow) (following : List CodedRow) (numbers : List ℕ)
    → row.group ≢ 0
    → IsRising numbers
    → numbers ≡ numbers_of_groups (before ++ row ∷ following)
    → place_of numbers row.group ≡ place_in_source (before ++ row ∷ following) row
unfolding place_by
numbered_place before row following numbers numbered rises are =
    let rows : List CodedRow = before ++ row ∷ following in
    place_of-there numbers row.group rises (ap (λ (numbers : List ℕ). has numbers row.group) are
    ∙ group_there before row following numbered)
    ∙ ap (position_or_len (λ group. row.group == group)) are
    ∙ ap (λ (is_ungrouped : Bool). place_by is_ungrouped rows row) (sym (ne_eqb row.group 0 numbered))

-- ---- a row without one

-- the distinct pairs without a group number are those of the rows before a row, of the row, and of the rows after it
ungrouped_after : (before : List CodedRow) (row : CodedRow) (following : List CodedRow) → row.group ≡ 0
    → ungrouped_pairs (before ++ row ∷ following) ≡ distinct code_eq
    (map pair_code (ungrouped_rows before) ++ pair_code row ∷ map pair_code (ungrouped_rows following))
ungrouped_after before row following is_zero =
    let more : ungrouped_rows (before ++ row ∷ following) ≡ ungrouped_rows before ++ row ∷ ungrouped_rows following =
    filter-append (λ (row : CodedRow). row.group == 0) before (row ∷ following)
    ∙ (λ j. ungrouped_rows before ++ cond (eq-eqb row.group 0 is_zero j) (row ∷ ungrouped_rows following)
    (ungrouped_rows following)) in
    ap (λ (own : List CodedRow). distinct code_eq (map pair_code own)) more
    ∙ ap (distinct code_eq) (map-append pair_code (ungrouped_rows before) (row ∷ ungrouped_rows following))

-- for a row without a group number, its group's place in the source is the count of group numbers plus the position of
-- its pair among the pairs without a number before it
pub ungrouped_place : (before : List CodedRow) (row : CodedRow) (following : List CodedRow) (numbers : List ℕ)
    (pairs : List (ℕ × ℕ))
    → row.group ≡ 0
    → numbers ≡ numbers_of_groups (before ++ row ∷ following) → pairs ≡ ungrouped_pairs before
    → length numbers + position_or_len (code_eq (pair_code row)) pairs ≡ place_in_source (before ++ row ∷ following) row
unfolding place_by
ungrouped_place before row following numbers pairs is_zero are so_far =
    let rows : List CodedRow = before ++ row ∷ following in
    let stays : position_or_len (code_eq (pair_code row)) (ungrouped_pairs rows)
    ≡ position_or_len (code_eq (pair_code row)) (ungrouped_pairs before) =
    ap (position_or_len (code_eq (pair_code row))) (ungrouped_after before row following is_zero)
    ∙ position-distinct code_eq code_eq_equiv (map pair_code (ungrouped_rows before)) (pair_code row)
    (map pair_code (ungrouped_rows following)) in
    (λ j. length (are j) + position_or_len (code_eq (pair_code row)) (so_far j))
    ∙ ap (λ (place : ℕ). length (numbers_of_groups rows) + place) (sym stays)
    ∙ ap (λ (is_ungrouped : Bool). place_by is_ungrouped rows row) (sym (eq-eqb row.group 0 is_zero))
