use Rattle.std.proofs.Common.{◌∙◌}
use Rattle.idset.specs.Words.{is_set}
use Rattle.idset.proofs.WordLemmas.{has_marked}
use Rattle.idset.proofs.word_set.WordSetConceptSet.has.Goals as goal

-- the bit of a number is set exactly if the number is in the set
pub returns : goal.returns
returns c = c.is_marked.ensures ∙ (λ i. is_set (c.deref.ensures.value i) c.args.number)
    ∙ has_marked c.args.self.now.bound c.args.self.now.words.items c.args.number c.args.self.now.held
