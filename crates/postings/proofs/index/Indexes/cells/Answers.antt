use Rattle.postings.proofs.CellsToldLemmas.{cells_told}
use Rattle.postings.proofs.GroupNumberLemmas.{row_there}
use Rattle.postings.proofs.index.Indexes.cells.Goals as goal

-- the indexes keep row `n`, so that `row` may read it
pub row-row-requires : goal.row-row-requires
row-row-requires c = row_there c.self.inside c.self.invariant c.args.self.now c.self.view_is c.args.n c.requires

-- the indexes keep row `n`, so that `firsts` may read its flags
pub firsts-is_first-requires : goal.firsts-is_first-requires
firsts-is_first-requires c = row_there c.self.inside c.self.invariant c.args.self.now c.self.view_is c.args.n c.requires

-- the cells are those of row `n`
pub returns : goal.returns
returns c =
    cells_told c.self.inside c.self.invariant c.args.self.now c.self.view_is c.args.n c.requires c.row-row.result
    c.row-row.ensures
    c.firsts-is_first.result.0 c.firsts-is_first.result.1 c.firsts-is_first.ensures.source
    c.firsts-is_first.ensures.group
