use Rattle.std.proofs.Common.{ℕ, Bool, ◌==◌, length, get_or, subst, sym}
use Rattle.std.proofs.lemmas.Result.{IfOk-weaker}
use Rattle.release_model.specs.Pairs.{value_eq}
use Rattle.release_model.specs.Release.{concept_value}
use Rattle.constraint_tree.specs.Passing.{is_within}
use Rattle.postings.specs.Entries.{Entry, entries_of}
use Rattle.pair_sets.specs.inside.Hits.{AreHits, counts_for_concept}
use Rattle.candidates.specs.Numbers.{is_one_of}
use Rattle.pair_sets.proofs.ChoiceLemmas.{of_sources, of_values}
use Rattle.number_lists.proofs.RisingLemmas.{all_below}
use Rattle.pair_sets.proofs.hits.hits_by_value.Goals as goal

-- rising sources are each a number of a concept
pub values_by_source-requires-clause-sources : goal.values_by_source-requires-clause-sources
values_by_source-requires-clause-sources g c =
    all_below (length c.args.reader.indexes.now.concepts) c.args.values.now c.requires.values

-- rising values are each a number of a concept
pub owners_by_value-requires-clause-values : goal.owners_by_value-requires-clause-values
owners_by_value-requires-clause-values g c =
    all_below (length c.args.reader.indexes.now.concepts) c.args.values.now c.requires.values

-- read backwards, the values of the rows of the sources are the hits of all rows that count for concepts
pub returns-then-back-clause-hits : goal.returns-then-back-clause-hits
returns-then-back-clause-hits g c =
    let indexed = c.args.reader.indexes.now in
    let count : ℕ = length indexed.concepts in
    let one : ℕ → Bool = is_one_of indexed.concepts (g.S.ConceptSet.items_of c.args.types.now) in
    IfOk-weaker c.values_by_source.result _ _
    (λ hits are.
    subst (λ (back : Bool). AreHits count (counts_for_concept back indexed.concepts one
    (is_within (is_one_of indexed.concepts c.args.values.now)))
    (entries_of indexed.rows) hits.items) (sym c.if-back.true)
    (of_sources count (λ number (entry : Entry). value_eq entry.row.value
    (concept_value (get_or indexed.concepts number 0)))
    (λ (entry : Entry). entry.is_first) indexed c.concept_count.ensures.numbers_rise one hits.items c.args.values.now
    c.requires.values
    are))
    c.values_by_source.ensures.hits

-- the sources of the rows of the values are the hits of all rows that count for concepts
pub returns-else-back-clause-hits : goal.returns-else-back-clause-hits
returns-else-back-clause-hits g c =
    let indexed = c.args.reader.indexes.now in
    let count : ℕ = length indexed.concepts in
    let one : ℕ → Bool = is_one_of indexed.concepts (g.S.ConceptSet.items_of c.args.types.now) in
    IfOk-weaker c.owners_by_value.result _ _
    (λ hits are.
    subst (λ (back : Bool). AreHits count (counts_for_concept back indexed.concepts one
    (is_within (is_one_of indexed.concepts c.args.values.now)))
    (entries_of indexed.rows) hits.items) (sym c.if-back.false)
    (of_values count (λ number (entry : Entry). entry.row.source == get_or indexed.concepts number 0)
    (λ (entry : Entry). entry.is_first) indexed c.concept_count.ensures.numbers_rise one hits.items c.args.values.now
    c.requires.values
    are))
    c.owners_by_value.ensures.hits
