use Rattle.candidates.proofs.candidates.stats_to_take.Goals as goal

-- the limits of the candidates hold for the concepts of a set that is not read
pub returns-else-may_be_read_thrice-clause-stats : goal.returns-else-may_be_read_thrice-clause-stats
returns-else-may_be_read_thrice-clause-stats g c =
    c.stats_left.ensures.concepts c.args.reader.indexes.now c.requires.candidates.stats
