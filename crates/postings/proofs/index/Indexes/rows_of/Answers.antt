use Rattle.std.proofs.Common.{◌∙◌, arith}
use Rattle.postings.proofs.LookUpLemmas.{long_numbers, rows_with_source, starts_end, starts_rise, starts_within}
use Rattle.postings.proofs.index.Indexes.rows_of.Goals as goal

-- the list of starts has a start for the concept, and one after it
pub of_source-requires-clause-starts : goal.of_source-requires-clause-starts
of_source-requires-clause-starts c =
    omega (arith, starts_within c.self.inside c.self.invariant c.args.self.now c.self.view_is c.args.concept c.requires)

-- the groups of a concept start no later than those of the next concept
pub of_source-requires-clause-rise : goal.of_source-requires-clause-rise
of_source-requires-clause-rise c =
    starts_rise c.self.inside c.self.invariant c.args.self.now c.self.view_is c.args.concept c.requires

-- the groups of a concept end no later than all groups
pub of_source-requires-clause-end : goal.of_source-requires-clause-end
of_source-requires-clause-end c =
    starts_end c.self.inside c.self.invariant c.args.self.now c.self.view_is c.args.concept c.requires

-- the indexes keep as many row numbers as all groups have rows
pub of_source-requires-clause-long : goal.of_source-requires-clause-long
of_source-requires-clause-long c =
    omega (arith, long_numbers c.self.inside c.self.invariant c.args.self.now c.self.view_is c.args.concept c.requires)

-- the rows of the source are those whose source is the concept
pub returns : goal.returns
returns c =
    c.of_source.ensures ∙ rows_with_source c.self.inside c.self.invariant c.args.self.now c.self.view_is c.args.concept
    c.requires
