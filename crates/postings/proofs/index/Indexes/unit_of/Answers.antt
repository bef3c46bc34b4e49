use Rattle.std.proofs.Common.{◌∙◌, true, ap, arith}
use Rattle.std.proofs.lemmas.List.{get_or_default}
use Rattle.postings.specs.Columns.{Flagged}
use Rattle.postings.specs.inside.KeptRows.{IsKept, mark_at}
use Rattle.postings.proofs.GroupNumberLemmas.{row_there, group_told}
use Rattle.postings.proofs.index.Indexes.unit_of.Goals as goal

-- row `n` has a place among the rows of all types
pub index-place-requires : goal.index-place-requires
index-place-requires c =
    omega (arith, (row_there c.self.inside c.self.invariant c.args.self.now c.self.view_is c.args.n c.requires).place)

-- the group number at the place of row `n` leads to its group
pub returns : goal.returns
returns c =
    let rows = c.self.inside.rows in
    let there : IsKept rows c.args.n =
    row_there c.self.inside c.self.invariant c.args.self.now c.self.view_is c.args.n c.requires in
    let some : Flagged = record { number = 0; is_first = true } in
    let place = c.index-place.ensures
    ∙ get_or_default rows.places.items c.args.n c.index-place.result.now 0 there.place in
    group_told c.self.inside c.self.invariant c.args.self.now c.self.view_is c.args.n c.requires c.number.result
    (c.number.ensures.number
    ∙ ap (λ (mark : Flagged). mark.number) (c.index.ensures
    ∙ get_or_default rows.by_type.groups.items c.index-place.result.now c.index.result.now some
    (omega (arith, place, there.unit))
    ∙ ap (mark_at rows.by_type.groups.items) place))
