use Rattle.std.proofs.Common.{◌∙◌}
use Rattle.postings.proofs.LookUpLemmas.{rows_with_value, value_listed}
use Rattle.postings.proofs.index.Indexes.by_value.Goals as goal

-- there is a list of rows by value for each concept
pub of-requires : goal.of-requires
of-requires c = value_listed c.self.inside c.self.invariant c.args.self.now c.self.view_is c.args.concept c.requires

-- the list of a concept by value has the rows whose value it is
pub returns : goal.returns
returns c = c.of.ensures
    ∙ rows_with_value c.self.inside c.self.invariant c.args.self.now c.self.view_is c.args.concept c.requires
