use Rattle.postings.proofs.index.typed_rows.Goals as goal

-- the identifiers of the concepts rise
pub numbers_of-requires-clause-rising : goal.numbers_of-requires-clause-rising
numbers_of-requires-clause-rising c = c.requires.rising
