use Rattle.std.proofs.Common.{ℕ, Bool, Vec, ◌≡◌, ◌<◌, ◌∙◌, ◌∷◌, ◌++◌, [], All, sym, ap, subst, true, false, cond}
use Rattle.std.proofs.Common.{get_or, length, arith, take, append-nil}
use Rattle.std.specs.Prelude.{filter, not}
use Rattle.std.proofs.lemmas.List.{take_all}
use Rattle.std.proofs.lemmas.List.Elements.{All-append}
use Rattle.std.proofs.lemmas.List.Elements.{filter_more}
use Rattle.release_model.specs.Release.{Value}
use Rattle.constraint_tree.specs.Passing.{lies_in}
use Rattle.pair_sets.specs.inside.Among.{pairs_of_concept}
use Rattle.reading.proofs.CountLemmas.{counted_all, counted_next, counted_out, counted_some}
use Rattle.candidates.specs.RowCounts.{row_count_of}
use Rattle.pair_sets.proofs.TimesLemmas.{one_below}
use Rattle.candidates.specs.Numbers.{is_one_of}
use Rattle.pair_sets.specs.Tested.{passes_of}
use Rattle.pair_sets.proofs.among.concepts_among.Goals as goal
use Rattle.pair_sets.proofs.among.concepts_among.Goals.{then-lies_in+in_ok-push, else-lies_in}

-- the concept at hand is kept if `count` has the number of its pairs, and its rows are counted
pub loop-concept-preserved : goal.loop-concept-preserved
loop-concept-preserved g c =
    let indexed = c.args.reader.indexes.now in
    let one : ℕ → Bool = is_one_of indexed.concepts (g.S.ConceptSet.items_of c.args.types.now) in
    let passes : Value → Bool = passes_of g.S.ConceptSet.items_of indexed.concepts c.args.tested.now in
    let concepts = c.args.concepts.now in
    let k = c.loop-concept.concept-index in
    let concept : ℕ = get_or concepts k 0 in
    let test : ℕ → Bool =
    λ number. lies_in c.args.count (pairs_of_concept indexed c.args.back one passes number) in
    let rows : ℕ → ℕ = row_count_of indexed (not c.args.back) in
    elim c.if-lies_in.branch [
      | then-lies_in+in_ok-push w ↦ record {
        within = subst (All (λ number. number < length indexed.concepts))
            (sym (ap (λ (v : Vec ℕ _). v.items) w.kept-is ∙ w.in_ok-push.ensures.items))
            (All-append (λ number. number < length indexed.concepts) c.loop-concept.kept.items (concept ∷ [])
            c.loop-concept.invariant.within
            (one_below (length indexed.concepts) concept (c.requires.concepts k 0 c.loop-concept-test.true)));
        kept =
            let here : test concept ≡ true =
            ap (lies_in c.args.count) (sym c.pairs_of_concept-pairs.ensures.pairs) ∙ sym c.lies_in.ensures
            ∙ w.if-lies_in.true in
            ap (λ (v : Vec ℕ _). v.items) w.kept-is ∙ w.in_ok-push.ensures.items
            ∙ (λ i. c.loop-concept.invariant.kept i ++ cond (sym here i) (concept ∷ []) [])
            ∙ sym (filter_more test concepts k 0 c.loop-concept-test.true);
        counted = counted_next rows concepts k c.loop-concept-test.true c.loop-concept.invariant.counted
            (counted_out c.pairs_of_concept-pairs.ensures.counted (omega arith));
      }
      | else-lies_in w ↦ record {
        within = subst (All (λ number. number < length indexed.concepts))
            (sym (ap (λ (v : Vec ℕ _). v.items) w.kept-is)) c.loop-concept.invariant.within;
        kept =
            let here : test concept ≡ false =
            ap (lies_in c.args.count) (sym c.pairs_of_concept-pairs.ensures.pairs) ∙ sym c.lies_in.ensures
            ∙ w.if-lies_in.false in
            ap (λ (v : Vec ℕ _). v.items) w.kept-is
            ∙ c.loop-concept.invariant.kept
            ∙ sym (append-nil (filter test (take k concepts)))
            ∙ (λ i. filter test (take k concepts) ++ cond (sym here i) (concept ∷ []) [])
            ∙ sym (filter_more test concepts k 0 c.loop-concept-test.true);
        counted = counted_next rows concepts k c.loop-concept-test.true c.loop-concept.invariant.counted
            (counted_out c.pairs_of_concept-pairs.ensures.counted (omega arith));
      }
    ]

-- after the last concept, those of all are kept whose number of pairs lies in `count`
pub returns-clause-kept : goal.returns-clause-kept
returns-clause-kept g c =
    let indexed = c.args.reader.indexes.now in
    let one : ℕ → Bool = is_one_of indexed.concepts (g.S.ConceptSet.items_of c.args.types.now) in
    let passes : Value → Bool = passes_of g.S.ConceptSet.items_of indexed.concepts c.args.tested.now in
    c.loop-concept.invariant.kept
    ∙ ap (filter (λ number. lies_in c.args.count
    (pairs_of_concept c.args.reader.indexes.now c.args.back one passes number)))
    (take_all c.loop-concept.concept-index c.args.concepts.now (omega arith))

-- if memory is refused at a concept, the rows up to its own are counted
pub returns-in_err-push-clause-counted : goal.returns-in_err-push-clause-counted
returns-in_err-push-clause-counted g c =
    counted_some (row_count_of c.args.reader.indexes.now (not c.args.back)) c.args.concepts.now
    c.loop-concept.concept-index
    c.loop-concept-test.true c.loop-concept.invariant.counted
    (counted_out c.pairs_of_concept-pairs.ensures.counted (omega arith))

-- after the last concept, the rows of all are counted
pub returns-clause-counted : goal.returns-clause-counted
returns-clause-counted g c =
    counted_all (row_count_of c.args.reader.indexes.now (not c.args.back)) c.args.concepts.now
    c.loop-concept.concept-index
    c.loop-concept.invariant.counted
