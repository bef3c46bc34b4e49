use Rattle.rewrites.proofs.group_pairs.with_counts.Goals as goal

-- `with_counts` returns the conjunction of the pairs of groups with the cardinality `one` and with the cardinality
-- `other`
pub returns : goal.returns
returns c = c.both_group_plans.ensures _ _ c.group_pairs-one.ensures c.group_pairs-other.ensures
