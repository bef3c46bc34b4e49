use Rattle.std.proofs.Common.{ℕ, List, ◌≡◌, ◌∙◌, sym, subst, arith}
use Rattle.std.proofs.lemmas.Result.{on_ok_weaker}
use Rattle.number_lists.specs.Rising.{IsRisingBelow}
use Rattle.idset.specs.Words.{AreWordsBelow}
use Rattle.number_lists.specs.KeyedLists.{list_of}
use Rattle.walks.specs.Families.{lists_of}
use Rattle.walks.proofs.JoinedLemmas.{join_list, over_length, over_rising, words_list}
use Rattle.walks.proofs.walks.add_list.Goals as goal

-- the concept has a list in the family, whose words may be asked for
pub words-requires : goal.words-requires
words-requires g c = omega (
  arith,
  c.requires.below,
  over_length (g.S.ConceptSet.bound_of c.args.found.now) c.args.reader.indexes.now.hierarchy
      c.requires.over c.args.family,
)

-- the words of the list mark numbers below the bound of the set
pub from_words-requires : goal.from_words-requires
from_words-requires g c =
    subst (λ (count : ℕ). AreWordsBelow count c.in-Some.words.now)
    (over_length (g.S.ConceptSet.bound_of c.args.found.now) c.args.reader.indexes.now.hierarchy c.requires.over
    c.args.family ∙ sym c.bound.ensures) c.in-Some.ensures.some.below

-- the concept has a list in the family
pub list-requires : goal.list-requires
list-requires g c = omega (
  arith,
  c.requires.below,
  over_length (g.S.ConceptSet.bound_of c.args.found.now) c.args.reader.indexes.now.hierarchy
      c.requires.over c.args.family,
)

-- the list of the concept rises below the bound of the set
pub add_all-requires : goal.add_all-requires
add_all-requires g c =
    subst (λ (list : List ℕ). IsRisingBelow (g.S.ConceptSet.bound_of c.args.found.now) list) (sym c.list.ensures.items)
    (over_rising (g.S.ConceptSet.bound_of c.args.found.now) c.args.reader.indexes.now.hierarchy c.requires.over
    c.args.family c.args.concept c.requires.below)

-- the union of the set and the words of the list joins the list of the concept to the lists before
pub returns-in_ok-both-in-Some-clause-joined : goal.returns-in_ok-both-in-Some-clause-joined
returns-in_ok-both-in-Some-clause-joined g c = λ before joined.
    let count = g.S.ConceptSet.bound_of c.args.found.now in
    let lists = lists_of c.args.reader.indexes.now.hierarchy c.args.family in
    let rises = over_rising count c.args.reader.indexes.now.hierarchy c.requires.over c.args.family c.args.concept
    c.requires.below in
    let wide : g.S.ConceptSet.items_of c.in_ok-wide-in-Some.wide ≡ list_of lists c.args.concept =
    c.in_ok-wide-in-Some.ensures.items
    ∙ words_list count c.bound.result c.in-Some.words.now
    (list_of lists c.args.concept) c.bound.ensures rises c.in-Some.ensures.some.marked in
    join_list lists before (g.S.ConceptSet.items_of c.args.found.now)
    (g.S.ConceptSet.items_of c.in_ok-wide-in-Some.wide) (g.S.ConceptSet.items_of c.in_ok-both-in-Some.both) count
    c.args.concept
    (g.met.S.ConceptSet.rising c.args.found.now)
    (subst (λ (list : List ℕ). IsRisingBelow count list) (sym wide) rises) wide c.in_ok-both-in-Some.ensures.items
    joined

-- the set to which the items of the list are added joins the list of the concept to the lists before
pub returns-in-None-clause-joined : goal.returns-in-None-clause-joined
returns-in-None-clause-joined g c = on_ok_weaker c.add_all.result
    (λ added before joined.
    let count = g.S.ConceptSet.bound_of c.args.found.now in
    let lists = lists_of c.args.reader.indexes.now.hierarchy c.args.family in
    let rises = over_rising count c.args.reader.indexes.now.hierarchy c.requires.over c.args.family c.args.concept
    c.requires.below in
    join_list lists before (g.S.ConceptSet.items_of c.args.found.now) c.list.result.now
    (g.S.ConceptSet.items_of c.add_all.new.self) count c.args.concept
    (g.met.S.ConceptSet.rising c.args.found.now)
    (subst (λ (list : List ℕ). IsRisingBelow count list) (sym c.list.ensures.items) rises) c.list.ensures.items added
    joined)
    c.add_all.ensures.items
