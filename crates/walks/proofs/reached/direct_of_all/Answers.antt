use Rattle.std.proofs.Common.{ℕ, List, ◌<◌, ◌∙◌, length, get_or, take, sym, ap, subst, arith}
use Rattle.std.proofs.lemmas.List.{take_all, take_more}
use Rattle.number_lists.specs.Rising.{IsRisingBelow, numbers_where}
use Rattle.idset.specs.Sets.{all_items}
use Rattle.number_lists.specs.Members.{has}
use Rattle.idset.specs.Words.{is_set}
use Rattle.number_lists.specs.KeyedLists.{list_of}
use Rattle.walks.specs.inside.Joined.{AreJoined, direct_of}
use Rattle.walks.specs.Families.{lists_of}
use Rattle.walks.proofs.JoinedLemmas.{join_list, over_length, over_rising}
use Rattle.walks.proofs.reached.direct_of_all.Goals as goal

-- the empty set joins the lists of no concepts
pub loop-concept-init : goal.loop-concept-init
loop-concept-init c = record {
  joined = λ n. ap (λ (xs : List ℕ). has xs n) c.in_ok-found.ensures.items;
  bound = c.in_ok-found.ensures.bound;
}

-- the concept at hand has a direct list
pub of-requires : goal.of-requires
of-requires c =
    let below : get_or c.args.concepts.now c.loop-concept.concept-index 0 < c.args.count =
    c.requires.below c.loop-concept.concept-index 0 c.loop-concept-test.true in
    omega (
      arith,
      below,
      over_length c.args.count c.args.reader.indexes.now.hierarchy c.requires.over (direct_of c.args._family),
      ap (λ (lists : List (List ℕ)). length lists) c.requires.direct,
    )

-- the direct list of the concept at hand rises below the bound of the set
pub add_all-requires : goal.add_all-requires
add_all-requires c =
    let listed = c.of.ensures
    ∙ ap (λ (lists : List (List ℕ)). list_of lists (get_or c.args.concepts.now c.loop-concept.concept-index 0))
    c.requires.direct in
    subst (λ (bound : ℕ). IsRisingBelow bound c.of.result.now) (sym c.loop-concept.invariant.bound)
    (subst (λ (list : List ℕ). IsRisingBelow c.args.count list) (sym listed)
    (over_rising c.args.count c.args.reader.indexes.now.hierarchy c.requires.over (direct_of c.args._family)
    (get_or c.args.concepts.now c.loop-concept.concept-index 0)
    (c.requires.below c.loop-concept.concept-index 0 c.loop-concept-test.true)))

-- with the direct list of the concept at hand, the set joins the direct lists of one concept more
pub loop-concept-preserved : goal.loop-concept-preserved
loop-concept-preserved c =
    let lists = lists_of c.args.reader.indexes.now.hierarchy (direct_of c.args._family) in
    let concepts = c.args.concepts.now in
    let k = c.loop-concept.concept-index in
    let listed = c.of.ensures ∙ ap (λ (lists : List (List ℕ)). list_of lists (get_or concepts k 0)) c.requires.direct in
    let found : List ℕ = numbers_where c.loop-concept.found.bound (is_set c.loop-concept.found.words.items) in
    let next : List ℕ = numbers_where c.add_all.new.self.bound (is_set c.add_all.new.self.words.items) in
    record {
      joined =
          subst (λ (some : List ℕ). AreJoined lists some next) (sym (take_more concepts k 0 c.loop-concept-test.true))
          (join_list lists (take k concepts) found c.of.result.now next c.args.count (get_or concepts k 0)
          (subst (λ (bound : ℕ). IsRisingBelow bound found) c.loop-concept.invariant.bound c.loop-concept.found.rising)
          (subst (λ (list : List ℕ). IsRisingBelow c.args.count list) (sym listed)
          (over_rising c.args.count c.args.reader.indexes.now.hierarchy c.requires.over (direct_of c.args._family)
          (get_or concepts k 0) (c.requires.below k 0 c.loop-concept-test.true)))
          listed
          (c.in_ok-add_all.ensures.items ∙ (λ i. all_items (c.loop-concept.invariant.bound i) found c.of.result.now))
          c.loop-concept.invariant.joined);
      bound = c.in_ok-add_all.ensures.bound ∙ c.loop-concept.invariant.bound;
    }

-- after the last concept, the set joins the direct lists of all
pub returns-clause-joined : goal.returns-clause-joined
returns-clause-joined c =
    subst (λ (some : List ℕ). AreJoined (lists_of c.args.reader.indexes.now.hierarchy (direct_of c.args._family)) some
    (numbers_where c.loop-concept.found.bound (is_set c.loop-concept.found.words.items)))
    (take_all c.loop-concept.concept-index c.args.concepts.now (omega arith)) c.loop-concept.invariant.joined
