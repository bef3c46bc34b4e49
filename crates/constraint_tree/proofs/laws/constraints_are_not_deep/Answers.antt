use Rattle.constraint_tree.proofs.MostDeepLemmas.{most_deep_of}
use Rattle.constraint_tree.proofs.laws.constraints_are_not_deep.Goals as goal

-- the tree of a constraint has at most depth `most_deep`
pub returns : goal.returns
returns c = most_deep_of
