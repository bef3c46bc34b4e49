use Rattle.std.proofs.Common.{ℕ, Bool, length}
use Rattle.std.specs.Prelude.{slice_get}
use Rattle.std.proofs.lemmas.Result.{IfOk-weaker}
use Rattle.postings.specs.Entries.{Entry}
use Rattle.postings.specs.Groups.{groups_in}
use Rattle.pair_sets.specs.inside.Hits.{is_in_some}
use Rattle.candidates.specs.Numbers.{is_one_of}
use Rattle.pair_sets.proofs.ChoiceLemmas.{of_values}
use Rattle.number_lists.proofs.RisingLemmas.{all_below}
use Rattle.pair_sets.proofs.hits.group_hits_by_value.Goals as goal

-- rising values are each a number of a concept
pub owners_by_value-requires-clause-values : goal.owners_by_value-requires-clause-values
owners_by_value-requires-clause-values g c =
    all_below (length c.args.reader.indexes.now.concepts) c.args.values.now c.requires.values

-- the groups of the rows of the values are the hits of all rows that count for groups
pub returns-clause-hits : goal.returns-clause-hits
returns-clause-hits g c =
    let indexed = c.args.reader.indexes.now in
    let count : ℕ = length (groups_in indexed) in
    let one : ℕ → Bool = is_one_of indexed.concepts (g.S.ConceptSet.items_of c.args.types.now) in
    IfOk-weaker c.owners_by_value.result _ _
    (λ hits are.
    of_values count (λ number (entry : Entry). is_in_some (slice_get (groups_in indexed) number) entry.row)
    (λ (entry : Entry). entry.is_first_in_group) indexed c.concept_count.ensures.numbers_rise one hits.items
    c.args.values.now c.requires.values
    are)
    c.owners_by_value.ensures.hits
