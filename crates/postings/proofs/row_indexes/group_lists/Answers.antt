-- How many groups there are is the last of their starts.
use Rattle.std.proofs.Common.{ℕ, ◌-◌, ◌≡◌, ◌<◌, ◌∙◌, List, ap, arith, length, map, subst, sym}
use Rattle.std.specs.Prelude.{All, slice_index, vec_len}
use Rattle.std.proofs.lemmas.List.{get_or_read_under, length-map}
use Rattle.postings.specs.Columns.{Flagged}
use Rattle.postings.specs.inside.KeptRows.{AreNumbersOf, HaveOneNumber}
use Rattle.postings.specs.Places.{places_by}
use Rattle.postings.proofs.row_indexes.group_lists.Goals as goal
use Rattle.postings.proofs.row_indexes.group_lists.Goals.{After-index-count}

-- the code reads the last start
last_start : (c : After-index-count)
    → c.index-count.result.now ≡ slice_index c.args.marks.now.starts.items (vec_len c.args.marks.now.starts - 1)
last_start c =
    let starts = c.args.marks.now.starts in
    get_or_read_under starts.items (c.len.result - 1) (vec_len starts) c.index-count.result.now _ c.index-count.ensures
    (omega (arith, c.len.ensures, c.requires.some)) (omega (arith, starts.ok.0))
    ∙ ap (λ long. slice_index starts.items (long - 1)) c.len.ensures

-- the number of each mark is below the number of groups
pub numbers_by_group-requires-clause-within : goal.numbers_by_group-requires-clause-within
numbers_by_group-requires-clause-within c =
    subst (λ (count : ℕ). All (λ (mark : Flagged). mark.number < count) c.as_slice.result.now)
    (sym (last_start (goal.at.numbers_by_group-requires-clause-within c).After-index-count))
    (rw c.as_slice.ensures.value c.requires.within)

-- rows of one group have one group number
pub numbers_by_group-requires-clause-one : goal.numbers_by_group-requires-clause-one
numbers_by_group-requires-clause-one c =
    subst (λ (marks : List Flagged). HaveOneNumber marks c.args.rows.now) (sym c.as_slice.ensures.value) c.requires.one

-- there are less than 2^32 numbers of groups, one for each row
pub places_by_key-requires : goal.places_by_key-requires
places_by_key-requires c =
    let marks : List Flagged = c.as_slice-2.result.now in
    omega (
      arith,
      c.as_slice-3.ensures.len,
      ap (λ (xs : List ℕ). length xs) c.in_ok-units.ensures,
      length-map {B = ℕ} marks (λ (mark : Flagged). mark.number),
      ap (λ (xs : List Flagged). length xs) c.as_slice-2.ensures.value,
      c.requires.long,
      c.requires.few,
    )

-- there are as many group numbers as the last start says
pub returns-clause-len : goal.returns-clause-len
returns-clause-len c = c.in_ok-numbers.ensures.len ∙ last_start (goal.at.returns-clause-len c).After-index-count

-- each group has the group number of its rows
pub returns-clause-numbers : goal.returns-clause-numbers
returns-clause-numbers c =
    subst (λ (marks : List Flagged). AreNumbersOf marks c.args.rows.now c.in_ok-numbers.numbers.items)
    c.as_slice.ensures.value c.in_ok-numbers.ensures.numbers

-- the list of each group has the places of its number among the marks
pub returns-clause-rows : goal.returns-clause-rows
returns-clause-rows c =
    c.in_ok-rows.ensures
    ∙ ap (λ (units : List ℕ). places_by c.index-count.result.now units)
    (c.as_slice-3.ensures.value ∙ c.in_ok-units.ensures)
    ∙ ap (λ (marks : List Flagged). places_by c.index-count.result.now (map (λ (mark : Flagged). mark.number) marks))
    c.as_slice-2.ensures.value
    ∙ ap (λ count. places_by count (map (λ (mark : Flagged). mark.number) c.args.marks.now.groups.items))
    (last_start (goal.at.returns-clause-rows c).After-index-count)
