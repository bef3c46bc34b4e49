-- The groups of a concept's attributes (Release File Specification, "Relationship file",
-- relationshipGroup). A group is identified by its number and not by its pairs, so two groups with
-- equal pairs stay two groups. Group 0 is no group: each of its distinct pairs is a group by itself
-- (this project's choice).
use Rattle.std.specs.Prelude.{ℕ, ◌==◌, ◌++◌, not, List, [], ◌∷◌, map, filter, nat_eq}
use Rattle.release_model.specs.Release.{Release}
use Rattle.release_model.specs.Pairs.{Pair, pair_eq, pair_of, rows_of}
use Rattle.number_lists.specs.Distinct.{distinct}

-- the distinct numbers of the groups of a concept, without 0
abbrev pub group_numbers : Release → ℕ → List ℕ
group_numbers release concept =
    distinct nat_eq (filter (λ group. not (group == 0))
    (map (λ row. row.group) (rows_of release concept)))

-- the distinct pairs of those rows of a concept that have the group number `group`
abbrev pub pairs_in : Release → ℕ → ℕ → List Pair
pairs_in release concept group =
    distinct pair_eq (map pair_of (filter (λ row. row.group == group) (rows_of release concept)))

-- the groups of a concept, each the list of its pairs: first those with a number, and then one for
-- each distinct pair without a number
abbrev pub groups_of : Release → ℕ → List (List Pair)
groups_of release concept =
    map (pairs_in release concept) (group_numbers release concept)
    ++ map (λ pair. pair ∷ []) (pairs_in release concept 0)
