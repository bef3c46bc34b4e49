-- The groups of the attribute rows of a release, numbered over all its concepts (Release File
-- Specification, "Relationship file", relationshipGroup).
use Rattle.std.specs.Prelude.{ℕ, ◌==◌, ◌&&◌, ◌++◌, Bool, if◌then◌else◌, List, [], ◌∷◌, map, take}
use Rattle.std.specs.List.{flat_map}
use Rattle.release_model.specs.Groups.{group_numbers, pairs_in}
use Rattle.release_model.specs.Pairs.{Pair, pair_eq, pair_of}
use Rattle.release_model.specs.Release.{Attribute, Release}
use Rattle.number_lists.specs.RisingOrder.{rising}
use Rattle.postings.specs.Indexed.{Indexed}
use Rattle.postings.specs.Places.{places_where}

-- what identifies a group within its concept: its relationship group number, or, for rows without a
-- number (group 0), their pair
pub data GroupKey : Type 0 where
  numbered : ℕ → GroupKey
  ungrouped : Pair → GroupKey

-- a group of a concept
pub record ConceptGroup : Type 0 where
  -- the identifier of the concept
  pub concept : ℕ
  -- the key, which distinguishes the group from the other groups of its concept
  pub key : GroupKey

-- the keys of the groups of the concept with the identifier `concept`: first the group numbers,
-- rising, then each distinct pair of the rows without a number, in the order of the first row of
-- each
abbrev pub keys_of : Release → ℕ → List GroupKey
keys_of release concept =
    map numbered (rising (group_numbers release concept))
    ++ map ungrouped (pairs_in release concept 0)

-- the groups of `concepts`, which are identifiers, concept by concept
abbrev pub groups_among : Release → List ℕ → List ConceptGroup
groups_among release concepts =
    flat_map (λ concept. map (λ key. record { concept = concept; key = key })
    (keys_of release concept)) concepts

-- the groups of all concepts of a release; a group's number is its place in this list
abbrev pub all_groups : Release → List ConceptGroup
all_groups release = groups_among release release.concepts

-- the key of the group that `row` belongs to
abbrev pub key_of : Attribute → GroupKey
key_of row = if row.group == 0 then ungrouped (pair_of row) else numbered row.group

-- the group that `row` belongs to
abbrev pub group_of : Attribute → ConceptGroup
group_of row = record { concept = row.source; key = key_of row }

-- whether `row` has the group number of a key; for the key of a pair, whether the row has group
-- number 0 and that pair
abbrev pub has_key : GroupKey → Attribute → Bool
has_key (numbered number) row = row.group == number
has_key (ungrouped pair) row = (row.group == 0) && pair_eq (pair_of row) pair

-- whether a row belongs to `group`: it has the concept of the group as its source, and the key
abbrev pub is_in_group : ConceptGroup → Attribute → Bool
is_in_group group row = (row.source == group.concept) && has_key group.key row

-- the distinct pairs of a group
abbrev pub pairs_of_group : Release → ConceptGroup → List Pair
pairs_of_group release group = pairs_with group.key
  where
    pairs_with : GroupKey → List Pair
    pairs_with (numbered number) = pairs_in release group.concept number
    pairs_with (ungrouped pair) = pair ∷ []

-- a release with `concepts` and the attribute rows `rows`, and nothing else
abbrev pub rows_alone : List ℕ → List Attribute → Release
rows_alone concepts rows =
    record { concepts = concepts; isa = []; attributes = rows; members = []; names = [] }

-- the groups of all concepts of the indexes; a group's number is its place in this list
abbrev pub groups_in : Indexed → List ConceptGroup
groups_in indexed = all_groups (rows_alone indexed.concepts indexed.rows)

-- the groups of the concepts whose numbers are below `concept`
abbrev pub groups_before : Indexed → ℕ → List ConceptGroup
groups_before indexed concept =
    groups_among (rows_alone indexed.concepts indexed.rows) (take concept indexed.concepts)

-- the numbers of the rows of `group`, in rising order
abbrev pub rows_of_group : Indexed → ConceptGroup → List ℕ
rows_of_group indexed group = places_where (is_in_group group) indexed.rows
