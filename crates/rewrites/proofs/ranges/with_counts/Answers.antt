use Rattle.rewrites.proofs.ranges.with_counts.Goals as goal

-- `with_counts` returns the conjunction of the plan with the cardinality `one` and the plan with the cardinality
-- `other`
pub returns : goal.returns
returns c = c.both.ensures _ _ c.with_count-one.ensures c.with_count-other.ensures
