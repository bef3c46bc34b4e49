use Rattle.postings.proofs.LookUpLemmas.{columns_with_value, value_listed}
use Rattle.postings.proofs.index.Indexes.value_columns.Goals as goal

-- there is a list of rows by value for each concept, and so columns
pub columns-columns-requires-clause-key : goal.columns-columns-requires-clause-key
columns-columns-requires-clause-key c =
    value_listed c.self.inside c.self.invariant c.args.self.now c.self.view_is c.args.concept c.requires

-- the columns of a concept by value are those of the rows whose value it is
pub returns : goal.returns
returns c =
    columns_with_value c.self.inside c.self.invariant c.args.self.now c.self.view_is c.args.concept c.requires
    _ c.columns-columns.ensures.sources c.columns-columns.ensures.others c.columns-columns.ensures.groups
