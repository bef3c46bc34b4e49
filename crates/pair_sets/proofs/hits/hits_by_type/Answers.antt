use Rattle.std.proofs.Common.{ℕ, Bool, ◌==◌, length, get_or, subst, sym}
use Rattle.std.proofs.lemmas.Result.{IfOk-weaker}
use Rattle.release_model.specs.Pairs.{value_eq}
use Rattle.release_model.specs.Release.{Value, concept_value}
use Rattle.postings.specs.Entries.{Entry, entries_of}
use Rattle.pair_sets.specs.inside.Hits.{AreHits, counts_for_concept}
use Rattle.pair_sets.specs.Tested.{passes_of}
use Rattle.pair_sets.proofs.ChoiceLemmas.{of_types}
use Rattle.pair_sets.proofs.hits.hits_by_type.Goals as goal

-- read backwards, the values of the rows of the types are the hits of all rows that count for concepts
pub returns-then-back-clause-hits : goal.returns-then-back-clause-hits
returns-then-back-clause-hits g c =
    let indexed = c.args.reader.indexes.now in
    let count : ℕ = length indexed.concepts in
    let passes : Value → Bool = passes_of g.S.ConceptSet.items_of indexed.concepts c.args.tested.now in
    IfOk-weaker c.values_by_type.result _ _
    (λ hits are one ids.
    subst (λ (back : Bool). AreHits count (counts_for_concept back indexed.concepts one passes)
    (entries_of indexed.rows) hits.items) (sym c.if-back.true)
    (of_types count (λ number (entry : Entry). value_eq entry.row.value
    (concept_value (get_or indexed.concepts number 0)))
    (λ (entry : Entry). entry.is_first) (λ (entry : Entry). passes (concept_value entry.row.source)) indexed one
    hits.items
    c.args.ids.now ids are))
    c.values_by_type.ensures.hits

-- the sources of the rows of the types are the hits of all rows that count for concepts
pub returns-else-back-clause-hits : goal.returns-else-back-clause-hits
returns-else-back-clause-hits g c =
    let indexed = c.args.reader.indexes.now in
    let count : ℕ = length indexed.concepts in
    let passes : Value → Bool = passes_of g.S.ConceptSet.items_of indexed.concepts c.args.tested.now in
    IfOk-weaker c.owners_by_type.result _ _
    (λ hits are one ids.
    subst (λ (back : Bool). AreHits count (counts_for_concept back indexed.concepts one passes)
    (entries_of indexed.rows) hits.items) (sym c.if-back.false)
    (of_types count (λ number (entry : Entry). entry.row.source == get_or indexed.concepts number 0)
    (λ (entry : Entry). entry.is_first) (λ (entry : Entry). passes entry.row.value) indexed one hits.items
    c.args.ids.now ids are))
    c.owners_by_type.ensures.hits
