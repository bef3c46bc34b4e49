use Rattle.constraint_tree.proofs.WalkLemmas.{tells_in_force, tells_child, tells_below, tells_above}
use Rattle.constraint_tree.proofs.laws.walks_tell_chains.Goals as goal

-- `has_concept` holds exactly for the concepts of the release
pub returns-clause-in_force : goal.returns-clause-in_force
returns-clause-in_force c = tells_in_force

-- `is_child` holds exactly for the pairs of the is-a rows
pub returns-clause-child : goal.returns-clause-child
returns-clause-child c = tells_child

-- `is_below` holds exactly for concepts from which a chain of is-a rows leads to a member of the set in force
pub returns-clause-below : goal.returns-clause-below
returns-clause-below c = tells_below

-- `is_above` holds exactly for concepts to which a chain of is-a rows leads from a member of the set in force
pub returns-clause-above : goal.returns-clause-above
returns-clause-above c = tells_above
