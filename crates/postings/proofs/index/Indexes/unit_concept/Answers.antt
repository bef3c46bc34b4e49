use Rattle.std.proofs.Common.{ℕ, ◌≡◌, ◌∙◌, true, List, length, get_or, slice_index, ap, arith}
use Rattle.std.proofs.lemmas.List.{get_or_default}
use Rattle.postings.specs.Columns.{Flagged}
use Rattle.postings.specs.Indexed.{Indexed}
use Rattle.postings.specs.inside.KeptRows.{IsKept, mark_at, row_kept}
use Rattle.postings.proofs.GroupNumberLemmas.{concept_told, first_kept, has_first, source_within, group_listed}
use Rattle.postings.proofs.index.Indexes.unit_concept.Goals as goal
use Rattle.postings.proofs.index.Indexes.unit_concept.Goals.{After-index-at, After-number, After-of}

-- the indexes keep the first row of the group
there : (c : After-of) → IsKept c.self.inside.rows (get_or c.of.result.now 0 0)
there c =
    first_kept c.self.inside c.self.invariant c.args.self.now c.self.view_is c.args.unit c.requires
    (get_or c.of.result.now 0 0) 0
    (ap (λ (rows : List ℕ). get_or rows 0 0) c.of.ensures)

-- the code reads the place of the group's first row
placed : (c : After-index-at)
    → c.index-at.result.now ≡ slice_index c.self.inside.rows.places.items (get_or c.of.result.now 0 0)
placed c =
    c.index-at.ensures
    ∙ get_or_default c.self.inside.rows.places.items (get_or c.of.result.now 0 0) c.index-at.result.now 0
    (there (goal.at-After-index-at c).After-of).place

-- the code reads the source of the group's first row
read : (c : After-number) → c.number.result ≡ (row_kept c.self.inside.rows (get_or c.of.result.now 0 0)).source
read c =
    let marks = c.self.inside.rows.by_type.sources.items in
    let some : Flagged = record { number = 0; is_first = true } in
    let place = placed (goal.at-After-number c).After-index-at in
    c.number.ensures.number
    ∙ ap (λ (mark : Flagged). mark.number) (c.index.ensures
    ∙ get_or_default marks c.index-at.result.now c.index.result.now some
    (omega (arith, place, (there (goal.at-After-number c).After-of).source))
    ∙ ap (mark_at marks) place)

-- there is a list of rows for the group
pub of-requires : goal.of-requires
of-requires c = group_listed c.self.inside c.self.invariant c.args.self.now c.self.view_is c.args.unit c.requires

-- the list of the group's rows is not empty
pub bounds-of-0 : goal.bounds-of-0
bounds-of-0 c =
    omega (
      arith,
      ap (λ (rows : List ℕ). length rows) c.of.ensures,
      has_first c.self.inside c.self.invariant c.args.self.now c.self.view_is c.args.unit c.requires,
    )

-- the group's first row has a place among the rows of all types
pub index-at-requires : goal.index-at-requires
index-at-requires c = omega (arith, (there (goal.at.index-at-requires c).After-of).place)

-- the column of sources has a cell at the place of the group's first row
pub index-requires : goal.index-requires
index-requires c =
    omega (arith, placed (goal.at.index-requires c).After-index-at, (there (goal.at.index-requires c).After-of).source)

-- the source of the group's first row is the number of a concept
pub returns-clause-within : goal.returns-clause-within
returns-clause-within c =
    omega (
      arith,
      read (goal.at.returns-clause-within c).After-number,
      source_within c.self.inside c.self.invariant c.args.self.now c.self.view_is c.args.unit c.requires
          (get_or c.of.result.now 0 0) 0
          (ap (λ (rows : List ℕ). get_or rows 0 0) c.of.ensures),
      ap (λ (indexed : Indexed). length indexed.concepts) c.self.view_is,
    )

-- the source of the group's first row is the concept of the group
pub returns-clause-concept : goal.returns-clause-concept
returns-clause-concept c =
    concept_told c.self.inside c.self.invariant c.args.self.now c.self.view_is c.args.unit c.requires
    (get_or c.of.result.now 0 0) 0
    (ap (λ (rows : List ℕ). get_or rows 0 0) c.of.ensures) c.number.result
    (read (goal.at.returns-clause-concept c).After-number)
