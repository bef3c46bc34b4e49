-- Laws on the flags of rows: distinct pairs can be counted as the rows that are the first with
-- their pair.
use Rattle.std.specs.Prelude.{ℕ, ◌==◌, ◌≡◌, ◌&&◌, Bool, true, All, Contains, List, [], ◌∷◌, count_by, filter, map}
use Rattle.std.specs.List.Sorted.{IsStrictlyIncreasing}
use Rattle.release_model.specs.Groups.{groups_of}
use Rattle.release_model.specs.Pairs.{Pair, in_pairs, out_pairs, pair_of, reverse_pair_of, value_eq}
use Rattle.release_model.specs.Release.{Attribute, Release, concept_value}
use Rattle.held_release.specs.AttributesBySource.{attributes_by_source}
use Rattle.number_lists.specs.Members.{has}
use Rattle.postings.specs.Entries.{Entry, entries_of}
use Rattle.postings.specs.Groups.{ConceptGroup, all_groups, groups_among, is_in_group, pairs_of_group, rows_alone}

-- the distinct pairs of a concept in force are the pairs of its rows that are the first with their
-- pair in the concept, in the order of the rows
abbrev pub AreFirstOfConcept : Type 0
AreFirstOfConcept =
    (release : Release) → IsStrictlyIncreasing release.concepts → (concept : ℕ)
    → Contains release.concepts concept
    → out_pairs release concept
    ≡ map (λ (entry : Entry). pair_of entry.row)
    (filter (λ (entry : Entry). (entry.row.source == concept) && entry.is_first)
    (entries_of (attributes_by_source release)))

-- the distinct pairs of a group are the pairs of its rows that are the first with their pair in the
-- group, in the order of the rows
abbrev pub AreFirstOfGroup : Type 0
AreFirstOfGroup =
    (release : Release) → IsStrictlyIncreasing release.concepts → (group : ConceptGroup)
    → Contains (all_groups (rows_alone release.concepts (attributes_by_source release))) group
    → pairs_of_group release group
    ≡ map (λ (entry : Entry). pair_of entry.row)
    (filter (λ (entry : Entry). is_in_group group entry.row && entry.is_first_in_group)
    (entries_of (attributes_by_source release)))

-- for each test and each concept as a value: the distinct pairs read backwards (type and source)
-- that pass are as many as the rows with this value that are the first with their pair in their
-- source and whose pair read backwards passes
abbrev pub CountsFirstBack : Type 0
CountsFirstBack =
    (release : Release) → All (λ (row : Attribute). has release.concepts row.source ≡ true)
    release.attributes
    → (test : Pair → Bool) (concept : ℕ)
    → count_by test (in_pairs release concept)
    ≡ count_by test (map (λ (entry : Entry). reverse_pair_of entry.row)
    (filter (λ (entry : Entry). value_eq entry.row.value (concept_value concept) && entry.is_first)
    (entries_of (attributes_by_source release))))

-- for each test and each concept: as many groups pass by their distinct pairs in the numbered list
-- `groups_among` as in the definition `groups_of`
abbrev pub CountsGroups : Type 0
CountsGroups =
    (release : Release) (test : List Pair → Bool) (concept : ℕ)
    → count_by test (map (pairs_of_group release) (groups_among release (concept ∷ [])))
    ≡ count_by test (groups_of release concept)
