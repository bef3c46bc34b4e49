use Rattle.std.proofs.Common.{ℕ, Bool, ◌≡◌, ◌+◌, ◌∙◌, sym, ap, get_or, arith}
use Rattle.std.specs.Prelude.{slice_get}
use Rattle.std.proofs.lemmas.List.{take_all}
use Rattle.std.proofs.lemmas.List.Sums.{count_by_more_no, count_by_more_yes}
use Rattle.release_model.specs.Release.{Value}
use Rattle.postings.specs.Entries.{entries_of}
use Rattle.pair_sets.specs.inside.Among.{at_entry, pair_counts, pairs_among}
use Rattle.pair_sets.specs.inside.Hits.{is_type_in}
use Rattle.candidates.specs.Numbers.{is_one_of}
use Rattle.pair_sets.specs.Tested.{passes_of}
use Rattle.pair_sets.proofs.AmongLemmas.{row_counts}
use Rattle.pair_sets.proofs.TypeLemmas.{type_tells}
use Rattle.pair_sets.proofs.among.pairs_among.Goals as goal
use Rattle.pair_sets.proofs.among.pairs_among.Goals.{then-counts, else-counts}

-- the row at hand adds one to `pairs` exactly if it counts as a pair
pub loop-n-preserved : goal.loop-n-preserved
loop-n-preserved g c =
    let indexed = c.args.reader.indexes.now in
    let items = g.S.ConceptSet.items_of c.args.types.now in
    let one : ℕ → Bool = is_one_of indexed.concepts (g.S.ConceptSet.items_of c.args.types.now) in
    let passes : Value → Bool = passes_of g.S.ConceptSet.items_of indexed.concepts c.args.tested.now in
    let counts_at : ℕ → Bool =
    λ n. at_entry (pair_counts c.args.grouped one passes) (slice_get (entries_of indexed.rows) n) in
    let row : ℕ = get_or c.args.rows.now c.loop-n.n-index 0 in
    let here : counts_at row ≡ c.counts.result =
    sym (row_counts indexed c.args.grouped one passes (is_type_in indexed items) (type_tells indexed items)
    c.cells-row.result row
    (c.requires.rows c.loop-n.n-index 0 c.loop-n-test.true) c.cells-row.ensures)
    ∙ sym c.counts.ensures in
    elim c.if-counts.branch [
      | then-counts w ↦ record {
        few = omega (arith, w.pairs-is);
        pairs = w.pairs-is ∙ ap (λ (n : ℕ). n + 1) c.loop-n.invariant.pairs
            ∙ sym (count_by_more_yes counts_at c.args.rows.now c.loop-n.n-index 0 c.loop-n-test.true (here
            ∙ w.if-counts.true));
      }
      | else-counts w ↦ record {
        few = omega (arith, w.pairs-is);
        pairs = w.pairs-is ∙ c.loop-n.invariant.pairs
            ∙ sym (count_by_more_no counts_at c.args.rows.now c.loop-n.n-index 0 c.loop-n-test.true (here
            ∙ w.if-counts.false));
      }
    ]

-- after the last row, `pairs` is how many of all rows count
pub returns : goal.returns
returns g c =
    let indexed = c.args.reader.indexes.now in
    let one : ℕ → Bool = is_one_of indexed.concepts (g.S.ConceptSet.items_of c.args.types.now) in
    let passes : Value → Bool = passes_of g.S.ConceptSet.items_of indexed.concepts c.args.tested.now in
    c.loop-n.invariant.pairs
    ∙ ap (pairs_among indexed c.args.grouped one passes) (take_all c.loop-n.n-index c.args.rows.now (omega arith))
