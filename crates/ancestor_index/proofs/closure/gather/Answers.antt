use Rattle.std.proofs.Common.{ℕ, List, ◌<◌, ◌∙◌, ◌++◌, ◌∷◌, [], ap, get_or, subst, sym, take}
use Rattle.std.specs.Prelude.{All}
use Rattle.std.proofs.lemmas.List.Elements.{All-push}
use Rattle.number_lists.specs.Members.{has}
use Rattle.ancestor_index.specs.inside.Gathered.{AreGathered, gathered_by, has_joined}
use Rattle.ancestor_index.proofs.GatherLemmas.{gathered_item, gathered_more}
use Rattle.ancestor_index.proofs.closure.gather.Goals as goal

-- the numbers in the list are below `count` after the concept is added
pub add_list-requires-clause-list : goal.add_list-requires-clause-list
add_list-requires-clause-list g c =
    let concept = get_or c.args.concepts.now c.loop-concept.concept-index 0 in
    subst (All (λ item. item < c.args.count)) (sym c.in_ok-push.ensures.items)
    (All-push (λ item. item < c.args.count) c.loop-concept.list.items concept c.loop-concept.invariant.below
    (c.requires.concepts c.loop-concept.concept-index 0 c.loop-concept-test.true).0)

-- one concept more is gathered, with its list
pub loop-concept-preserved : goal.loop-concept-preserved
loop-concept-preserved g c =
    let items_of = g.S.ConceptSet.items_of in
    let concept = get_or c.args.concepts.now c.loop-concept.concept-index 0 in
    let before = gathered_by c.args.places.now c.args.lists.now
    (take c.loop-concept.concept-index c.args.concepts.now) in
    let pushed : AreGathered items_of c.args.count (before ++ concept ∷ []) c.push.new.self.items
    c.loop-concept.joined =
    subst (λ (list : List ℕ). AreGathered items_of c.args.count (before ++ concept ∷ []) list c.loop-concept.joined)
    (sym c.in_ok-push.ensures.items)
    (λ number below. gathered_item before c.loop-concept.list.items concept number
    (has_joined items_of c.loop-concept.joined number) (c.loop-concept.invariant.gathered number below)) in
    record {
      gathered = λ number below.
          ap (λ (all : List ℕ). has all number)
          (gathered_more c.args.places.now c.args.lists.now c.args.concepts.now c.loop-concept.concept-index
          c.loop-concept-test.true)
          ∙ ap (λ (own : List ℕ). has ((before ++ concept ∷ []) ++ own) number) (sym c.of.ensures)
          ∙ c.in_ok-joined.ensures.gathered (before ++ concept ∷ []) pushed number below;
      below = c.in_ok-joined.ensures.below;
      bound = c.in_ok-joined.ensures.bound;
    }
