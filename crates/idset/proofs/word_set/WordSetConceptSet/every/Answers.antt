use Rattle.idset.proofs.WordLemmas.{marked_every}
use Rattle.idset.proofs.word_set.WordSetConceptSet.every.Goals as goal

-- the bits of all numbers below `bound` hold the range below `bound`
pub returns-clause-items : goal.returns-clause-items
returns-clause-items c = marked_every c.args.bound c.in_ok-words.words.items c.in_ok-words.ensures
