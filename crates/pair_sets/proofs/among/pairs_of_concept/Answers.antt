use Rattle.std.proofs.Common.{ℕ, Bool, ◌<◌, ◌==◌, ◌∙◌, All, length, get_or, sym, ap, subst}
use Rattle.std.specs.Prelude.{false}
use Rattle.release_model.specs.Release.{Attribute, Value}
use Rattle.postings.specs.Entries.{entries_with_value}
use Rattle.postings.proofs.PlaceLemmas.{places_where-within}
use Rattle.pair_sets.specs.inside.Among.{pairs_among, pairs_of_concept}
use Rattle.candidates.specs.Numbers.{is_one_of}
use Rattle.pair_sets.specs.Tested.{passes_of}
use Rattle.pair_sets.proofs.HitLemmas.{sources_long, types_long}
use Rattle.pair_sets.proofs.among.pairs_of_concept.Goals as goal

-- the rows of the concept are numbers of rows
pub pairs_among-requires-clause-rows : goal.pairs_among-requires-clause-rows
pairs_among-requires-clause-rows g c =
    subst (All (λ n. n < length c.args.reader.indexes.now.rows)) (sym c.rows_of-rows.ensures.items)
    (places_where-within (λ (row : Attribute). row.source == get_or c.args.reader.indexes.now.concepts c.args.concept 0)
    c.args.reader.indexes.now.rows)

-- there is a type for each source in the columns of the value
pub back_pairs_among-requires-clause-long : goal.back_pairs_among-requires-clause-long
back_pairs_among-requires-clause-long g c =
    let indexed = c.args.reader.indexes.now in
    let columns = c.value_columns-columns in
    sources_long indexed.concepts _ columns.result.sources.now columns.ensures.columns.sources
    ∙ sym (types_long indexed _ columns.result.types.now columns.ensures.columns.types)

-- read backwards, the rows that count are those that have the concept as their value
pub returns-then-back-clause-pairs : goal.returns-then-back-clause-pairs
returns-then-back-clause-pairs g c =
    let indexed = c.args.reader.indexes.now in
    let one : ℕ → Bool = is_one_of indexed.concepts (g.S.ConceptSet.items_of c.args.types.now) in
    let passes : Value → Bool = passes_of g.S.ConceptSet.items_of indexed.concepts c.args.tested.now in
    c.back_pairs_among.ensures (entries_with_value indexed.rows (get_or indexed.concepts c.args.concept 0))
    c.value_columns-columns.ensures.columns.sources c.value_columns-columns.ensures.columns.types
    ∙ ap (λ (back : Bool). pairs_of_concept indexed back one passes c.args.concept) (sym c.if-back.true)

-- the rows of its own that count are those that have the concept as their source
pub returns-else-back-clause-pairs : goal.returns-else-back-clause-pairs
returns-else-back-clause-pairs g c =
    let indexed = c.args.reader.indexes.now in
    let one : ℕ → Bool = is_one_of indexed.concepts (g.S.ConceptSet.items_of c.args.types.now) in
    let passes : Value → Bool = passes_of g.S.ConceptSet.items_of indexed.concepts c.args.tested.now in
    c.pairs_among.ensures
    ∙ ap (pairs_among indexed false one passes) c.rows_of-rows.ensures.items
    ∙ ap (λ (back : Bool). pairs_of_concept indexed back one passes c.args.concept) (sym c.if-back.false)
