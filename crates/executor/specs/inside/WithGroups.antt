-- Concepts by how many of their groups are in a set of groups (Expression Constraint Language,
-- "Cardinality").
use Rattle.std.specs.Prelude.{ℕ, List, length}
use Rattle.release_model.specs.Release.{Release}
use Rattle.number_lists.specs.Rising.{numbers_where}
use Rattle.constraint_tree.specs.Passing.{lies_in}
use Rattle.constraint_tree.specs.declared.operator.Cardinality.{Cardinality}
use Rattle.pair_sets.specs.Owned.{groups_owned}

-- the numbers of the concepts whose number of groups among `groups` lies in the cardinality `count`
abbrev pub having_groups : Release → Cardinality → List ℕ → List ℕ
having_groups release count groups = numbers_where (length release.concepts)
    (λ number. lies_in count (groups_owned release groups number))
