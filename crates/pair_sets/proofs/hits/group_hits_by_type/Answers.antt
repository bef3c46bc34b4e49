use Rattle.std.proofs.Common.{ℕ, Bool, length}
use Rattle.std.specs.Prelude.{slice_get}
use Rattle.std.proofs.lemmas.Result.{IfOk-weaker}
use Rattle.postings.specs.Entries.{Entry}
use Rattle.postings.specs.Groups.{groups_in}
use Rattle.release_model.specs.Release.{Value}
use Rattle.pair_sets.specs.inside.Hits.{is_in_some}
use Rattle.pair_sets.specs.Tested.{passes_of}
use Rattle.pair_sets.proofs.ChoiceLemmas.{of_types}
use Rattle.pair_sets.proofs.hits.group_hits_by_type.Goals as goal

-- the groups of the rows of the types are the hits of all rows that count for groups
pub returns-clause-hits : goal.returns-clause-hits
returns-clause-hits g c =
    let indexed = c.args.reader.indexes.now in
    let count : ℕ = length (groups_in indexed) in
    let passes : Value → Bool = passes_of g.S.ConceptSet.items_of indexed.concepts c.args.tested.now in
    IfOk-weaker c.owners_by_type.result _ _
    (λ hits are one ids.
    of_types count (λ number (entry : Entry). is_in_some (slice_get (groups_in indexed) number) entry.row)
    (λ (entry : Entry). entry.is_first_in_group) (λ (entry : Entry). passes entry.row.value) indexed one hits.items
    c.args.ids.now ids are)
    c.owners_by_type.ensures.hits
