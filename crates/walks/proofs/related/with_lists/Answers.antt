use Rattle.std.proofs.Common.{ℕ, List, ◌≡◌, ◌<◌, ◌+◌, length, ◌∙◌, ◌++◌, ◌∷◌, [], take, get_or, sym, ap, append_assoc}
use Rattle.std.proofs.Common.{append-nil, arith}
use Rattle.std.specs.List.{flat_map}
use Rattle.std.proofs.lemmas.Grind.{flat_map-append}
use Rattle.std.proofs.lemmas.List.{take_all, take_more}
use Rattle.number_lists.specs.KeyedLists.{list_of}
use Rattle.walks.specs.Families.{lists_of}
use Rattle.walks.proofs.JoinedLemmas.{over_length}
use Rattle.reading.proofs.CountLemmas.{counted_all, counted_next, counted_out, counted_some}
use Rattle.walks.proofs.related.with_lists.Goals as goal

-- the concepts before concept k with their lists, then concept k, then its list are the first k + 1 concepts with their
-- lists
with_lists_more : (lists : List (List ℕ)) (concepts : List ℕ) (k : ℕ) {before pushed list next : List ℕ}
    → k < length concepts
    → before ≡ flat_map (λ concept. concept ∷ list_of lists concept) (take k concepts)
    → pushed ≡ before ++ get_or concepts k 0 ∷ [] → list ≡ list_of lists (get_or concepts k 0) → next ≡ pushed ++ list
    → next ≡ flat_map (λ concept. concept ∷ list_of lists concept) (take (k + 1) concepts)
with_lists_more lists concepts k within so_far with_concept is with_list =
    let entries : ℕ → List ℕ = λ concept. concept ∷ list_of lists concept in
    let concept : ℕ = get_or concepts k 0 in
    with_list
    ∙ (λ i. (with_concept ∙ (λ j. so_far j ++ concept ∷ [])) i ++ is i)
    ∙ append_assoc (flat_map entries (take k concepts)) (concept ∷ []) (list_of lists concept)
    ∙ ap (λ (own : List ℕ). flat_map entries (take k concepts) ++ concept ∷ own)
    (sym (append-nil (list_of lists concept)))
    ∙ sym (flat_map-append entries (take k concepts) (concept ∷ []))
    ∙ ap (flat_map entries) (sym (take_more concepts k 0 within))

-- the concept at hand has a list in the family
pub list-requires : goal.list-requires
list-requires c =
    omega (
      arith,
      c.requires.below c.loop-concept.concept-index 0 c.loop-concept-test.true,
      over_length c.args._count c.args.reader.indexes.now.hierarchy c.requires.over c.args.family,
    )

-- the concept at hand and its list come after those of the earlier concepts, and its list is counted
pub loop-concept-preserved : goal.loop-concept-preserved
loop-concept-preserved c =
    let lists = lists_of c.args.reader.indexes.now.hierarchy c.args.family in
    let k = c.loop-concept.concept-index in
    record {
      numbers = with_lists_more lists c.args.concepts.now k c.loop-concept-test.true c.loop-concept.invariant.numbers
          c.in_ok-push.ensures.items c.list.ensures.items c.in_ok-extend_from_slice.ensures.items;
      counted = counted_next (λ concept. length (list_of lists concept)) c.args.concepts.now k c.loop-concept-test.true
          c.loop-concept.invariant.counted (counted_out c.list.ensures.counted (omega arith));
    }

-- if memory is refused for a concept, the lists of the earlier concepts are counted
pub returns-in_err-push-clause-counted : goal.returns-in_err-push-clause-counted
returns-in_err-push-clause-counted c =
    counted_all (λ concept. length (list_of (lists_of c.args.reader.indexes.now.hierarchy c.args.family) concept))
    c.args.concepts.now c.loop-concept.concept-index c.loop-concept.invariant.counted

-- if memory is refused for a list, the lists up to this one are counted
pub returns-in_err-extend_from_slice-clause-counted : goal.returns-in_err-extend_from_slice-clause-counted
returns-in_err-extend_from_slice-clause-counted c =
    counted_some (λ concept. length (list_of (lists_of c.args.reader.indexes.now.hierarchy c.args.family) concept))
    c.args.concepts.now c.loop-concept.concept-index c.loop-concept-test.true c.loop-concept.invariant.counted
    (counted_out c.list.ensures.counted (omega arith))

-- after the last concept, the lists of all are counted
pub returns-clause-counted : goal.returns-clause-counted
returns-clause-counted c =
    counted_all (λ concept. length (list_of (lists_of c.args.reader.indexes.now.hierarchy c.args.family) concept))
    c.args.concepts.now c.loop-concept.concept-index c.loop-concept.invariant.counted

-- after the last concept, `numbers` are all concepts, each followed by its list
pub returns-clause-items : goal.returns-clause-items
returns-clause-items c =
    c.loop-concept.invariant.numbers
    ∙ ap (flat_map (λ concept. concept ∷ list_of (lists_of c.args.reader.indexes.now.hierarchy c.args.family) concept))
    (take_all c.loop-concept.concept-index c.args.concepts.now (omega arith))
