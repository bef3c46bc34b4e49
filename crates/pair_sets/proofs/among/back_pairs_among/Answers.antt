use Rattle.std.proofs.Common.{ℕ, Bool, List, ◌≡◌, ◌<◌, ◌+◌, ◌∙◌, ◌&&◌, length, get_or, sym, ap, arith}
use Rattle.std.specs.Prelude.{count_by}
use Rattle.std.proofs.lemmas.List.{get_or_default, take_all}
use Rattle.std.proofs.lemmas.List.Sums.{count_by_more_no, count_by_more_yes}
use Rattle.release_model.specs.Release.{Value}
use Rattle.postings.specs.Columns.{AreSources, AreTypes, Flagged}
use Rattle.postings.specs.Entries.{Entry}
use Rattle.postings.specs.Indexed.{types_of}
use Rattle.pair_sets.specs.inside.Hits.{has_source_in, is_type_in, value_of}
use Rattle.candidates.specs.Numbers.{is_one_of}
use Rattle.pair_sets.specs.Tested.{passes_of}
use Rattle.pair_sets.proofs.HitLemmas.{a_mark, an_entry, back_told, sources_long}
use Rattle.pair_sets.proofs.TypeLemmas.{type_tells}
use Rattle.pair_sets.proofs.among.back_pairs_among.Goals as goal
use Rattle.pair_sets.proofs.among.back_pairs_among.Goals.{then-counts_back, else-counts_back}

-- the row at hand adds one to `pairs` exactly if it is the first with its pair, its type is in the set and its source
-- passes
pub loop-place-preserved : goal.loop-place-preserved
loop-place-preserved g c =
    let indexed = c.args.reader.indexes.now in
    let items = g.S.ConceptSet.items_of c.args.types.now in
    let one : ℕ → Bool = is_one_of indexed.concepts (g.S.ConceptSet.items_of c.args.types.now) in
    let passes : Value → Bool = passes_of g.S.ConceptSet.items_of indexed.concepts c.args.tested.now in
    let marks = c.args.sources.now in
    let k = c.loop-place.place in
    let here : c.index-sources-place.result ≡ get_or marks k a_mark =
    c.index-sources-place.is ∙ get_or_default marks k c.index-sources-place.result a_mark c.loop-place-test.true in
    let told : Flagged → Bool =
    λ mark. mark.is_first && (is_type_in indexed items (get_or c.args.cells.now k 0)
    && passes (value_of indexed mark.number)) in
    let counted : told (get_or marks k a_mark) ≡ c.counts_back.result = ap told (sym here)
    ∙ sym c.counts_back.ensures in
    let test : Entry → Bool = λ entry. entry.is_first && has_source_in one passes entry.row in
    let within : (entries : List Entry) → AreSources indexed.concepts entries marks → k < length entries =
    λ entries sources. omega (arith, c.loop-place-test.true, sources_long indexed.concepts entries marks sources) in
    let tells : (entries : List Entry) → AreSources indexed.concepts entries marks
    → AreTypes (types_of indexed.rows) entries c.args.cells.now
    → test (get_or entries k an_entry) ≡ c.counts_back.result =
    λ entries sources are.
    sym (back_told indexed passes entries marks sources one (is_type_in indexed items) c.args.cells.now
    (type_tells indexed items) are k
    (within entries sources))
    ∙ counted in
    elim c.if-counts_back.branch [
      | then-counts_back w ↦ record {
        few = omega (arith, w.pairs-is);
        pairs = λ entries sources are.
            w.pairs-is ∙ ap (λ (n : ℕ). n + 1) (c.loop-place.invariant.pairs entries sources are)
            ∙ sym (count_by_more_yes test entries k an_entry (within entries sources) (tells entries sources are
            ∙ w.if-counts_back.true));
      }
      | else-counts_back w ↦ record {
        few = omega (arith, w.pairs-is);
        pairs = λ entries sources are.
            w.pairs-is ∙ c.loop-place.invariant.pairs entries sources are
            ∙ sym (count_by_more_no test entries k an_entry (within entries sources) (tells entries sources are
            ∙ w.if-counts_back.false));
      }
    ]

-- after the last row, `pairs` is how many of all rows count
pub returns : goal.returns
returns g c = λ entries sources are.
    let indexed = c.args.reader.indexes.now in
    let one : ℕ → Bool = is_one_of indexed.concepts (g.S.ConceptSet.items_of c.args.types.now) in
    let passes : Value → Bool = passes_of g.S.ConceptSet.items_of indexed.concepts c.args.tested.now in
    c.loop-place.invariant.pairs entries sources are
    ∙ ap (count_by (λ (entry : Entry). entry.is_first && has_source_in one passes entry.row))
    (take_all c.loop-place.place entries (omega (
      arith,
      sources_long indexed.concepts entries c.args.sources.now
          sources,
    )))
