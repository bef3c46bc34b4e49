use Rattle.std.proofs.Common.{ℕ, List, ◌∙◌, sym, subst}
use Rattle.std.proofs.lemmas.Result.{IfOk-weaker}
use Rattle.number_lists.specs.Rising.{IsRisingBelow, numbers_where}
use Rattle.idset.specs.Words.{AreWordsBelow, is_set}
use Rattle.walks.specs.Families.{lists_of}
use Rattle.walks.proofs.JoinedLemmas.{all_joined}
use Rattle.walks.proofs.walks.union.Goals as goal

-- the words of what was found mark numbers below the bound of `operand`
pub from_words-requires : goal.from_words-requires
from_words-requires g c =
    subst (λ (count : ℕ). AreWordsBelow count c.words.result.now) (c.in_ok-found.ensures.bound ∙ sym c.bound.ensures)
    c.words.ensures.below

-- the numbers that the words mark are the joined lists of the set
pub returns-clause-items : goal.returns-clause-items
returns-clause-items g c =
    let count = g.S.ConceptSet.bound_of c.args.operand.now in
    let found = c.in_ok-found.found in
    let items : List ℕ = numbers_where found.bound (is_set found.words.items) in
    IfOk-weaker c.from_words.result _ _
    (λ set same.
    same
    ∙ (λ i. numbers_where ((c.bound.ensures ∙ sym c.in_ok-found.ensures.bound) i) (is_set c.words.result.now))
    ∙ sym c.words.ensures.items
    ∙ all_joined count (lists_of c.args.reader.indexes.now.hierarchy c.args.family)
    (g.S.ConceptSet.items_of c.args.operand.now) items
    (subst (λ (n : ℕ). IsRisingBelow n items) c.in_ok-found.ensures.bound found.rising) c.in_ok-found.ensures.joined)
    c.from_words.ensures.items
