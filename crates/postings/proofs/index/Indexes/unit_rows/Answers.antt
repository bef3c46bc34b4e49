use Rattle.std.proofs.Common.{rules}
use Rattle.postings.proofs.GroupNumberLemmas.{rows_told}
use Rattle.postings.proofs.index.Indexes.unit_rows.Goals as goal

-- the list of a group has the numbers of its rows
pub returns : goal.returns
returns c =
    search (rules, rows_told c.self.inside c.self.invariant c.args.self.now c.self.view_is c.args.unit c.requires)
