-- For which concept or group an attribute row counts when distinct pairs are counted (Expression
-- Constraint Language, "Cardinality").
use Rattle.std.specs.Prelude.{ℕ, ◌≡◌, ◌<◌, ◌==◌, ◌&&◌, Bool, true, false, if◌then◌else◌, All, List, [], ◌∷◌, Option}
use Rattle.std.specs.Prelude.{None, Some}
use Rattle.std.specs.Prelude.{count_by, length, slice_get, slice_index}
use Rattle.std.specs.List.{flat_map}
use Rattle.release_model.specs.Pairs.{value_eq}
use Rattle.release_model.specs.Release.{Attribute, Value, concept_value}
use Rattle.number_lists.specs.Members.{has, times}
use Rattle.postings.specs.Columns.{AreGroups, AreSources, Flagged}
use Rattle.postings.specs.Entries.{Entry, entries_where, entries_with_type, entries_with_value}
use Rattle.postings.specs.Groups.{ConceptGroup, groups_in, is_in_group}
use Rattle.postings.specs.Indexed.{Indexed, types_of, value_at, values_of}
use Rattle.candidates.specs.Numbers.{is_one_of}
use Rattle.pair_sets.specs.declared.hits.Owner.{Owner}
use Rattle.pair_sets.specs.declared.hits.Owner.TheVariants as owners

-- at each place where `kept` passes a mark and its cell, the number that `number` makes of them, in
-- order
abbrev pub picked : (Flagged → ℕ → Bool) → (Flagged → ℕ → ℕ) → List Flagged → List ℕ → List ℕ
picked kept number [] cells = []
picked kept number (mark ∷ marks) [] = []
picked kept number (mark ∷ marks) (cell ∷ cells) =
    if kept mark cell then number mark cell ∷ picked kept number marks cells else picked kept number
    marks cells

-- whether a row has a type that passes `one` and a value that passes `passes`
abbrev pub has_pair_in : (ℕ → Bool) → (Value → Bool) → Attribute → Bool
has_pair_in one passes row = one row.type_id && passes row.value

-- whether a row has a type that passes `one` and a source that passes `passes`
abbrev pub has_source_in : (ℕ → Bool) → (Value → Bool) → Attribute → Bool
has_source_in one passes row = one row.type_id && passes (concept_value row.source)

-- whether a row counts for the concept with the number `number` as its source: it passes `kept`,
-- and is the first with its pair
abbrev pub counts_for_source : List ℕ → (Attribute → Bool) → ℕ → Entry → Bool
counts_for_source concepts kept number entry =
    (entry.row.source == slice_index concepts number) && (entry.is_first && kept entry.row)

-- whether a row counts for the concept with the number `number` as its value: it passes `kept`, and
-- is the first with its pair in its source
abbrev pub counts_for_value : List ℕ → (Attribute → Bool) → ℕ → Entry → Bool
counts_for_value concepts kept number entry =
    value_eq entry.row.value (concept_value (slice_index concepts number))
    && (entry.is_first && kept entry.row)

-- whether a row counts for the concept with the number `number`: as its source, or, if the `Bool`
-- is true, read backwards as its value
abbrev pub counts_for_concept : Bool → List ℕ → (ℕ → Bool) → (Value → Bool) → ℕ → Entry → Bool
counts_for_concept true concepts one passes number entry =
    counts_for_value concepts (has_source_in one passes) number entry
counts_for_concept false concepts one passes number entry =
    counts_for_source concepts (has_pair_in one passes) number entry

-- whether a row is in a group; false if there is no group
abbrev pub is_in_some : Option ConceptGroup → Attribute → Bool
is_in_some None row = false
is_in_some (Some group) row = is_in_group group row

-- whether a row counts for the group with the number `number`: it is in the group, passes `kept`,
-- and is the first with its pair there
abbrev pub counts_for_group : List ConceptGroup → (Attribute → Bool) → ℕ → Entry → Bool
counts_for_group groups kept number entry =
    is_in_some (slice_get groups number) entry.row && (entry.is_first_in_group && kept entry.row)

-- how many owners there are: all concepts, or all groups
abbrev pub owner_count : Owner → Indexed → ℕ
owner_count owners.Source indexed = length indexed.concepts
owner_count owners.Group indexed = length (groups_in indexed)

-- whether a row counts for the owner with the number `number`: its source, or its group
abbrev pub counts_for_owner : Owner → Indexed → (Attribute → Bool) → ℕ → Entry → Bool
counts_for_owner owners.Source indexed kept number entry =
    counts_for_source indexed.concepts kept number entry
counts_for_owner owners.Group indexed kept number entry =
    counts_for_group (groups_in indexed) kept number entry

-- `marks` is the column of the owners of `entries`: their sources, or their groups
abbrev pub AreOwners : Owner → Indexed → List Entry → List Flagged → Type 0
AreOwners owners.Source indexed entries marks = AreSources indexed.concepts entries marks
AreOwners owners.Group indexed entries marks = AreGroups (groups_in indexed) entries marks

-- the entries that have one of the types `ids`, type by type
abbrev pub entries_with_types : List Attribute → List ℕ → List Entry
entries_with_types rows ids = flat_map (entries_with_type rows) ids

-- the entries that have one of the concepts `numbers` as value, concept by concept
abbrev pub entries_with_values : Indexed → List ℕ → List Entry
entries_with_values indexed numbers =
    flat_map (λ number. entries_with_value indexed.rows (slice_index indexed.concepts number))
    numbers

-- the entries that have one of the concepts `numbers` as source, concept by concept
abbrev pub entries_with_sources : Indexed → List ℕ → List Entry
entries_with_sources indexed numbers =
    flat_map (λ number. entries_where (λ row. row.source == slice_index indexed.concepts number)
    indexed.rows) numbers

-- `hits` has each number below `bound` as often as entries count for it by `counts`, and no other
-- number
pub record AreHits (bound : ℕ) (counts : ℕ → Entry → Bool) (entries : List Entry) (hits : List ℕ) :
    Type 0 where
  -- each number in `hits` is below `bound`
  pub within : All (λ number. number < bound) hits
  -- `hits` has a number as often as entries count for it
  pub times : (number : ℕ) → number < bound → times number hits ≡ count_by (counts number) entries

-- whether a type is one of the concepts `numbers`; false if there is no type
abbrev pub is_one_at : List ℕ → List ℕ → Option ℕ → Bool
is_one_at concepts numbers None = false
is_one_at concepts numbers (Some id) = is_one_of concepts numbers id

-- whether the type at `place` in the list of types is one of the concepts `numbers`
abbrev pub is_type_in : Indexed → List ℕ → ℕ → Bool
is_type_in indexed numbers place =
    is_one_at indexed.concepts numbers (slice_get (types_of indexed.rows) place)

-- `told` says for each place in the list of types whether the type there passes `one`
abbrev pub TellsTypes : List Attribute → (ℕ → Bool) → (ℕ → Bool) → Type 0
TellsTypes rows one told =
    (place : ℕ) → place < length (types_of rows)
    → told place ≡ one (slice_index (types_of rows) place)

-- the value with the number `number` in the indexes
abbrev pub value_of : Indexed → ℕ → Value
value_of indexed number = value_at (values_of indexed) number

-- `places` has the places, in the list of types, of the types that are one of `concepts`
pub record ArePlacesOf (indexed : Indexed) (concepts places : List ℕ) : Type 0 where
  -- each place is below the number of types
  pub within : All (λ place. place < length (types_of indexed.rows)) places
  -- `places` has a place exactly if the type there is one of the concepts
  pub told : (place : ℕ) → place < length (types_of indexed.rows)
      → has places place ≡ is_one_of indexed.concepts concepts
      (slice_index (types_of indexed.rows) place)
