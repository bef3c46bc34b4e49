use Rattle.std.proofs.Common.{ℕ, List, ◌∙◌, sym, subst, arith}
use Rattle.std.proofs.lemmas.Result.{IfOk-weaker}
use Rattle.number_lists.specs.Rising.{IsRisingBelow}
use Rattle.idset.specs.Words.{AreWordsBelow}
use Rattle.walks.specs.Families.{lists_of}
use Rattle.walks.proofs.JoinedLemmas.{list_joined, over_length, over_rising, words_joined}
use Rattle.walks.proofs.walks.list_of_one.Goals as goal

-- the concept has a list in the family, whose words may be asked for
pub words-requires : goal.words-requires
words-requires g c = omega (
  arith,
  c.requires.below,
  over_length c.args.count c.args.reader.indexes.now.hierarchy c.requires.over
      c.args.family,
)

-- the words of the list mark numbers below `count`
pub from_words-requires : goal.from_words-requires
from_words-requires g c =
    subst (λ (count : ℕ). AreWordsBelow count c.in-Some.words.now)
    (over_length c.args.count c.args.reader.indexes.now.hierarchy c.requires.over c.args.family)
    c.in-Some.ensures.some.below

-- the concept has a list in the family, whose length may be asked for
pub length-requires : goal.length-requires
length-requires g c = omega (
  arith,
  c.requires.below,
  over_length c.args.count c.args.reader.indexes.now.hierarchy c.requires.over
      c.args.family,
)

-- the concept has a list in the family, which the estimate reads
pub list-list-requires : goal.list-list-requires
list-list-requires g c =
    omega (
      arith,
      c.requires.below,
      over_length c.args.count c.args.reader.indexes.now.hierarchy c.requires.over
          c.args.family,
    )

-- the concept has a list in the family, which is read without words
pub list-list-requires-in-None : goal.list-list-requires-in-None
list-list-requires-in-None g c =
    omega (
      arith,
      c.requires.below,
      over_length c.args.count c.args.reader.indexes.now.hierarchy c.requires.over
          c.args.family,
    )

-- the list that is read without words rises below `count`
pub from_items-requires-in-None : goal.from_items-requires-in-None
from_items-requires-in-None g c =
    subst (λ (list : List ℕ). IsRisingBelow c.args.count list) (sym c.list-list-in-None.ensures.items)
    (over_rising c.args.count c.args.reader.indexes.now.hierarchy c.requires.over c.args.family c.args.concept
    c.requires.below)

-- the words of the list have the joined list of the single concept
pub returns-in-Some-clause-items : goal.returns-in-Some-clause-items
returns-in-Some-clause-items g c = IfOk-weaker c.from_words.result _ _
    (λ found items. items ∙ words_joined c.args.count
    (lists_of c.args.reader.indexes.now.hierarchy c.args.family) c.args.concept c.in-Some.words.now
    c.in-Some.ensures.some.marked)
    c.from_words.ensures.items

-- the list that is read without words is the joined list of the single concept
pub returns-in-None-clause-items : goal.returns-in-None-clause-items
returns-in-None-clause-items g c = IfOk-weaker c.from_items-in-None.result _ _
    (λ found items.
    items
    ∙ list_joined c.args.count (lists_of c.args.reader.indexes.now.hierarchy c.args.family) c.args.concept
    c.list-list-in-None.result.now
    (subst (λ (list : List ℕ). IsRisingBelow c.args.count list) (sym c.list-list-in-None.ensures.items)
    (over_rising c.args.count c.args.reader.indexes.now.hierarchy c.requires.over c.args.family c.args.concept
    c.requires.below))
    c.list-list-in-None.ensures.items)
    c.from_items-in-None.ensures.items

-- the list that the estimate reads rises below `count`
pub from_items-requires : goal.from_items-requires
from_items-requires g c =
    subst (λ (list : List ℕ). IsRisingBelow c.args.count list)
    (sym (c.as_slice.ensures.value ∙ c.in_ok-own.ensures.items ∙ c.list-list.ensures.items))
    (over_rising c.args.count c.args.reader.indexes.now.hierarchy c.requires.over c.args.family c.args.concept
    c.requires.below)

-- the list that the estimate reads is the joined list of the single concept
pub returns-then-asks_for-clause-items : goal.returns-then-asks_for-clause-items
returns-then-asks_for-clause-items g c = IfOk-weaker c.from_items.result _ _
    (λ found items.
    items
    ∙ list_joined c.args.count (lists_of c.args.reader.indexes.now.hierarchy c.args.family) c.args.concept
    c.as_slice.result.now
    (subst (λ (list : List ℕ). IsRisingBelow c.args.count list)
    (sym (c.as_slice.ensures.value ∙ c.in_ok-own.ensures.items ∙ c.list-list.ensures.items))
    (over_rising c.args.count c.args.reader.indexes.now.hierarchy c.requires.over c.args.family c.args.concept
    c.requires.below))
    (c.as_slice.ensures.value ∙ c.in_ok-own.ensures.items ∙ c.list-list.ensures.items))
    c.from_items.ensures.items
