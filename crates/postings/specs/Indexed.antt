-- What the indexes of a release hold. A concept's number is its place, from 0, in the rising list
-- of the concepts in force. Attribute rows are numbered by source, and the rows of one source in
-- the order of the files and their lines.
use Rattle.std.specs.Prelude.{Bool, ℕ, ℤ, ◌≡◌, ◌==◌, List, Option, None, Some, length, not}
use Rattle.std.specs.Prelude.{slice_index}
use Rattle.number_lists.specs.KeyedLists.{list_of}
use Rattle.number_lists.specs.Rising.{numbers_where}
use Rattle.release_model.specs.Pairs.{value_eq}
use Rattle.release_model.specs.Release.{Attribute, Release, Value, concept_value}
use Rattle.held_release.specs.AttributesBySource.{attributes_by_source}
use Rattle.held_release.specs.Numbering.{concept_number}
use Rattle.ancestor_index.specs.HierarchyLists.{Hierarchy, hierarchy_of, is_child, lists_where}
pub use Rattle.held_release.specs.CodedRows.{types_of, value_at, values_among}
use Rattle.postings.specs.Places.{places_where}
use Rattle.held_release.specs.RowValues.{AreTablesOf}

-- what the indexes of a release hold: concepts, their hierarchy, attribute rows, the members of
-- reference sets, and the values of rows that are not concepts
pub record Indexed : Type 0 where
  -- the identifiers of the concepts in force, rising; a concept's number is its place here
  pub concepts : List ℕ
  -- the lists of ancestors, descendants, parents and children of each concept
  pub hierarchy : Hierarchy
  -- the attribute rows; a row's number is its place here
  pub rows : List Attribute
  -- for each concept, the numbers of the components of the reference set that the concept is
  pub members : List (List ℕ)
  -- the decimals among the values of the rows, in units of 10^-18, rising and each once
  pub decimals : List ℤ
  -- the values of the rows that are neither concepts nor decimals, rising by their bytes and each
  -- once
  pub texts : List (List ℕ)

-- for each concept, the numbers of the components of the member rows whose reference set is the
-- concept, in rising order and each once
abbrev pub members_of : Release → List (List ℕ)
members_of release =
    let id : ℕ → ℕ = slice_index release.concepts in
    lists_where (length release.concepts)
    (λ refset component. is_child release.members (id refset) (id component))

-- `indexed` holds exactly what `release` has
pub record IsIndexOf (indexed : Indexed) (release : Release) : Type 0 where
  -- the concepts are those of the release
  pub concepts : indexed.concepts ≡ release.concepts
  -- the hierarchy is that of the release
  pub hierarchy : indexed.hierarchy ≡ hierarchy_of release
  -- the rows are the release's attribute rows, ordered by source
  pub rows : indexed.rows ≡ attributes_by_source release
  -- the members are the components of the reference sets of the release
  pub members : indexed.members ≡ members_of release
  -- the decimals and the texts are those among the values of the release's attribute rows
  pub values : AreTablesOf (attributes_by_source release) indexed.decimals indexed.texts

-- whether the concept with the number `concept` has members as a reference set
abbrev pub has_members : List (List ℕ) → ℕ → Bool
has_members members concept = not (length (list_of members concept) == 0)

-- the concepts whose list in `members` is not empty, by number in rising order
abbrev pub with_members : List (List ℕ) → List ℕ
with_members members = numbers_where (length members) (has_members members)

-- the concepts that are the reference set of at least one member row, by number in rising order
abbrev pub reference_sets_of : Indexed → List ℕ
reference_sets_of indexed = with_members indexed.members

-- each of the hierarchy's four tables (ancestors, descendants, parents, children) has a list for
-- each of `count` concepts
pub record HasListsFor (count : ℕ) (hierarchy : Hierarchy) : Type 0 where
  -- there is a list of ancestors for each concept
  pub ancestors : length hierarchy.ancestors ≡ count
  -- there is a list of descendants for each concept
  pub descendants : length hierarchy.descendants ≡ count
  -- there is a list of parents for each concept
  pub parents : length hierarchy.parents ≡ count
  -- there is a list of children for each concept
  pub children : length hierarchy.children ≡ count

-- the numbers of the rows whose type is `id`, in rising order
abbrev pub rows_by_type : Indexed → ℕ → List ℕ
rows_by_type indexed id = places_where (λ (row : Attribute). row.type_id == id) indexed.rows

-- the numbers of the rows whose value is the concept with the number `concept`, in rising order
abbrev pub rows_by_value : Indexed → ℕ → List ℕ
rows_by_value indexed concept =
    places_where (λ (row : Attribute). value_eq row.value
    (concept_value (slice_index indexed.concepts concept))) indexed.rows

-- the numbers of the rows whose source is the concept with the number `concept`, in rising order
abbrev pub rows_by_source : Indexed → ℕ → List ℕ
rows_by_source indexed concept =
    places_where (λ (row : Attribute). row.source == slice_index indexed.concepts concept)
    indexed.rows

-- the number of the concept in force that has a type's identifier; none if no type is given, or if
-- no concept in force has the identifier
abbrev pub concept_of_type : Indexed → Option ℕ → Option ℕ
concept_of_type indexed None = None
concept_of_type indexed (Some id) = concept_number indexed.concepts id

-- the values that rows of the indexes can have; a value's number is its place in this list
abbrev pub values_of : Indexed → List Value
values_of indexed = values_among indexed.concepts indexed.decimals indexed.texts
