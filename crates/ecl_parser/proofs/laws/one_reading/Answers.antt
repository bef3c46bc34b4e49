use Rattle.ecl_parser.proofs.EitherLemmas.{tree_or_refusal}
use Rattle.ecl_parser.proofs.ParseLemmas.{constraint_not_refused, same_refusal, same_tree, trees_equal}
use Rattle.ecl_parser.proofs.laws.one_reading.Goals as goal

-- tokens have at most one tree
pub returns-clause-tokens : goal.returns-clause-tokens
returns-clause-tokens c = trees_equal

-- a text has at most one tree
pub returns-clause-tree : goal.returns-clause-tree
returns-clause-tree c = same_tree

-- a text has at most one refusal
pub returns-clause-refusal : goal.returns-clause-refusal
returns-clause-refusal c = same_refusal

-- a text that is a constraint has no refusal
pub returns-clause-not_both : goal.returns-clause-not_both
returns-clause-not_both c = constraint_not_refused

-- every text is a constraint or has a refusal
pub returns-clause-either : goal.returns-clause-either
returns-clause-either c = tree_or_refusal
