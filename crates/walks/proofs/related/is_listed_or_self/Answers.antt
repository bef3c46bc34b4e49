use Rattle.std.proofs.Common.{◌≡◌, ◌∙◌, ◌||◌, true, false, sym}
use Rattle.number_lists.specs.Members.{has}
use Rattle.walks.specs.Related.{joined}
use Rattle.walks.specs.Families.{lists_of}
use Rattle.walks.proofs.RelatedLemmas.{asked_or_self}
use Rattle.walks.proofs.related.is_listed_or_self.Goals as goal

-- a concept of the set is in the union of the set and its joined lists
pub returns-then-has-clause-related : goal.returns-then-has-clause-related
returns-then-has-clause-related g c =
    let count = g.S.ConceptSet.bound_of c.args.operand.now in
    let items = g.S.ConceptSet.items_of c.args.operand.now in
    let own : has items c.args.concept ≡ true = sym c.has.ensures ∙ c.if-has.true in
    c.if-has.true
    ∙ sym (λ i. own i || has (joined count (lists_of c.args.reader.indexes.now.hierarchy c.args.family) items)
    c.args.concept)
    ∙ asked_or_self count c.args.reader.indexes.now.hierarchy c.requires.over items
    (g.met.S.ConceptSet.rising c.args.operand.now) c.args.family c.args.concept c.requires.below

-- a concept that is not in the set is in the union exactly if the joined lists of the set have it
pub returns-else-has-clause-related : goal.returns-else-has-clause-related
returns-else-has-clause-related g c =
    let count = g.S.ConceptSet.bound_of c.args.operand.now in
    let items = g.S.ConceptSet.items_of c.args.operand.now in
    let own : has items c.args.concept ≡ false = sym c.has.ensures ∙ c.if-has.false in
    c.is_listed.ensures.related
    ∙ sym (λ i. own i || has (joined count (lists_of c.args.reader.indexes.now.hierarchy c.args.family) items)
    c.args.concept)
    ∙ asked_or_self count c.args.reader.indexes.now.hierarchy c.requires.over items
    (g.met.S.ConceptSet.rising c.args.operand.now) c.args.family c.args.concept c.requires.below
