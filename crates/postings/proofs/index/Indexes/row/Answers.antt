use Rattle.std.proofs.Common.{ℕ, ◌≡◌, ◌<◌, ◌∙◌, List, Some, length, ap, subst, sym, arith}
use Rattle.std.specs.List.{slice_get}
use Rattle.held_release.specs.AttributesBySource.{attribute_of, with_source}
use Rattle.held_release.specs.CodedRows.{IsCoded}
use Rattle.postings.specs.Indexed.{Indexed, value_at, values_of}
use Rattle.postings.specs.inside.KeptRows.{rows_kept}
use Rattle.held_release.specs.CodedRows.{values_in}
use Rattle.postings.proofs.BuildLemmas.{row_told}
use Rattle.postings.proofs.KeptLemmas.{kept_at, length-kept}
use Rattle.postings.proofs.GroupNumberLemmas.{length-rows, near, row_coded_within, row_there}
use Rattle.postings.proofs.index.Indexes.row.Goals as goal
use Rattle.postings.proofs.index.Indexes.row.Goals.{After-row-row}

-- the numbers of the row are within their tables
within : (c : After-row-row)
    → IsCoded c.self.inside.concepts.items c.self.inside.rows.types.numbers
    (values_in c.self.inside.concepts.items c.self.inside.rows.values) c.row-row.result
within c =
    subst (IsCoded c.self.inside.concepts.items c.self.inside.rows.types.numbers
    (values_in c.self.inside.concepts.items c.self.inside.rows.values)) (sym c.row-row.ensures)
    (row_coded_within c.self.inside c.self.invariant c.args.self.now c.self.view_is c.args.n
    (near c.self.inside c.self.invariant c.args.self.now c.self.view_is c.args.n c.requires))

-- the indexes keep row `n`
pub row-row-requires : goal.row-row-requires
row-row-requires c = row_there c.self.inside c.self.invariant c.args.self.now c.self.view_is c.args.n c.requires

-- the place of the row's type is in the list of type identifiers
pub index-requires : goal.index-requires
index-requires c =
    omega (
      arith,
      (within (goal.at.index-requires c).After-row-row).type_place,
      ap (λ (ids : List ℕ). length ids) c.self.invariant.rows.ids,
    )

-- the number of the row's value is that of a value
pub value-requires : goal.value-requires
value-requires c =
    subst (λ (indexed : Indexed). c.row-row.result.value < length (values_of indexed)) c.self.view_is
    (within (goal.at.value-requires c).After-row-row).value

-- the row that is returned stands for row `n` of the attribute rows
pub returns-clause-row : goal.returns-clause-row
returns-clause-row c =
    let concepts = c.self.inside.concepts.items in
    let types = c.self.inside.rows.types.numbers in
    let ids = c.self.inside.rows.types.ids.items in
    let values = values_in c.self.inside.concepts.items c.self.inside.rows.values in
    let row = c.row-row.result in
    let known = near c.self.inside c.self.invariant c.args.self.now c.self.view_is c.args.n c.requires in
    let long = length-rows c.self.inside c.self.invariant c.args.self.now c.self.view_is in
    let valued = c.value.ensures
    ∙ ap (λ (indexed : Indexed). value_at (values_of indexed) row.value) (sym c.self.view_is) in
    subst (λ (indexed : Indexed). slice_get indexed.rows c.args.n
    ≡ Some (with_source indexed.concepts (attribute_of
    (record { source = row.source; type_id = c.index.result.now; group = row.group; value = c.value.result }))))
    c.self.view_is
    (row_told concepts types ids values (rows_kept c.self.inside.rows) c.args.n row
    (omega (arith, known, long, length-kept c.self.inside.rows))
    (c.row-row.ensures ∙ sym (kept_at c.self.inside.rows c.args.n row (omega (arith, known, long))))
    c.index.result.now c.value.result c.self.invariant.rows.ids
    (within (goal.at.returns-clause-row c).After-row-row).type_place
    c.index.ensures valued)

-- the source of the row is the number of a concept
pub returns-clause-source : goal.returns-clause-source
returns-clause-source c =
    subst (λ (indexed : Indexed). c.row-row.result.source < length indexed.concepts) c.self.view_is
    (within (goal.at.returns-clause-source c).After-row-row).source
