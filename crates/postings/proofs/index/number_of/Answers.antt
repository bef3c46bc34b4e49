use Rattle.std.proofs.Common.{Ok, Err, rules}
use Rattle.std.proofs.lemmas.List.Sorted.{answers_always, searched}
use Rattle.held_release.proofs.NumberingLemmas.{number_at, number_nowhere}
use Rattle.postings.proofs.NumberLemmas.{rises_on}
use Rattle.postings.proofs.index.number_of.Goals as goal

-- the place that the binary search finds is the number of the concept
pub returns-in-Ok : goal.returns-in-Ok
returns-in-Ok c =
    let concepts = c.args.concepts.now in
    let found = searched concepts c.args.id (Ok c.in-Ok.number)
    (c.in-Ok.ensures.position (λ id. id) (answers_always _ _ _ (λ f a r q called. search rules)))
    (rises_on concepts c.requires.rising) in
    number_at concepts c.requires.rising c.args.id c.in-Ok.number found.0 found.1

-- no concept has the identifier, if the binary search does not find it
pub returns-in-Err : goal.returns-in-Err
returns-in-Err c =
    let concepts = c.args.concepts.now in
    let found = searched concepts c.args.id (Err c.in-Err.field-0)
    (c.in-Err.ensures.position (λ id. id) (answers_always _ _ _ (λ f a r q called. search rules)))
    (rises_on concepts c.requires.rising) in
    number_nowhere concepts c.requires.rising c.args.id c.in-Err.field-0 found.0 found.1 found.2
