-- Lemmas on the lists in the indexes, read as identifiers of concepts.
use Rattle.std.proofs.Common.{◌≡◌, ◌∙◌, ℕ, ◌<◌, ◌==◌, ◌&&◌, not, refl, Bool, List, [], ◌∷◌, All, length, get_or, map}
use Rattle.std.proofs.Common.{sym, ap, subst, arith}
use Rattle.std.specs.List.{filter, range_with_len}
use Rattle.std.specs.List.Sorted.{IsStrictlyIncreasing}
use Rattle.number_lists.specs.KeyedLists.{list_of}
use Rattle.number_lists.specs.Members.{has}
use Rattle.number_lists.specs.Rising.{numbers_where}
use Rattle.number_lists.proofs.BlockLemmas.{filter-map, items_by_place}
use Rattle.number_lists.proofs.RisingLemmas.{all_below, numbers_where-rising}
use Rattle.number_lists.proofs.WhereLemmas.{filter-numbers_where, has-numbers_where, numbers_where-agree}
use Rattle.std.proofs.lemmas.Bool.{ne_eqb}
use Rattle.std.proofs.lemmas.List.Elements.{Contains-get_or}
use Rattle.number_lists.specs.Rising.{IsRisingBelow}
use Rattle.release_model.specs.Pairs.{rows_of}
use Rattle.release_model.specs.Release.{Attribute, Release}
use Rattle.held_release.specs.AttributesBySource.{attributes_by_source}
use Rattle.ancestor_index.specs.HierarchyLists.{Hierarchy, is_child, lists_where}
use Rattle.ancestor_index.proofs.ClosureLemmas.{length-where, list_of-where}
use Rattle.postings.specs.Indexed.{Indexed, IsIndexOf, has_members, rows_by_source, with_members}
use Rattle.postings.specs.Places.{places_where}
use Rattle.postings.proofs.AgainLemmas.{rows_of_again}
use Rattle.postings.proofs.PlaceLemmas.{places_where-rising, rows_at_places}
use Rattle.concept_printer.specs.ConceptText.{children_of, parents_of, reference_sets_with}
use Rattle.concept_printer.specs.inside.GroupKeys.{no_row, row_numbered}

-- the identifiers of the numbers whose concept passes `test` are the concepts that pass `test`
pub listed : (concepts : List ℕ) (test : ℕ → Bool)
    → map (λ k. get_or concepts k 0) (numbers_where (length concepts) (λ k. test (get_or concepts k 0)))
    ≡ filter test concepts
listed concepts test =
    sym (filter-map test (λ k. get_or concepts k 0) (range_with_len 0 (length concepts)))
    ∙ ap (filter test) (sym (items_by_place concepts 0))

-- if each list of an index has the numbers that `test` relates its concept to, then the identifiers in the list of
-- `concept` are the concepts that `test` relates `concept` to
pub listed_of : (concepts : List ℕ) (test : ℕ → ℕ → Bool) (concept : ℕ) → concept < length concepts
    → map (λ k. get_or concepts k 0)
    (list_of (lists_where (length concepts) (λ one other. test (get_or concepts one 0) (get_or concepts other 0)))
    concept)
    ≡ filter (test (get_or concepts concept 0)) concepts
listed_of concepts test concept below =
    ap (map (λ k. get_or concepts k 0))
    (list_of-where (length concepts) (λ one other. test (get_or concepts one 0) (get_or concepts other 0)) concept
    below)
    ∙ listed concepts (test (get_or concepts concept 0))

-- in an index of lists made by `test`, the list of `concept` has only numbers below `count`
pub listed_below : (count : ℕ) (test : ℕ → ℕ → Bool) (concept : ℕ) → concept < count
    → All (λ other. other < count) (list_of (lists_where count test) concept)
listed_below count test concept below =
    subst (All (λ other. other < count)) (sym (list_of-where count test concept below))
    (all_below count (numbers_where count (test concept)) (numbers_where-rising count (test concept)))

-- if each list of an index has the numbers that `test` relates its concept to, then the identifiers of the lists with
-- `concept` are the concepts that `test` relates to `concept`
pub listed_with : (concepts : List ℕ) (test : ℕ → ℕ → Bool) (concept : ℕ) → concept < length concepts
    → map (λ k. get_or concepts k 0)
    (numbers_where (length concepts)
    (λ list. has
    (list_of (lists_where (length concepts) (λ one other. test (get_or concepts one 0) (get_or concepts other 0))) list)
    concept))
    ≡ filter (λ one. test one (get_or concepts concept 0)) concepts
listed_with concepts test concept below =
    let count = length concepts in
    let stands : ℕ → ℕ → Bool = λ one other. test (get_or concepts one 0) (get_or concepts other 0) in
    ap (map (λ k. get_or concepts k 0))
    (numbers_where-agree count (λ list. has (list_of (lists_where count stands) list) concept)
    (λ list. stands list concept)
    (λ list within.
    ap (λ (items : List ℕ). has items concept) (list_of-where count stands list within)
    ∙ has-numbers_where count (stands list) concept below))
    ∙ listed concepts (λ one. test one (get_or concepts concept 0))

-- ---- the lists of a concept, over the indexes of a release
module _ (indexed : Indexed) (release : Release) (is : IsIndexOf indexed release) (concept : ℕ)
    (below : concept < length release.concepts) where
  -- whether the concept number `other` is a parent of `one`
  abbrev is_parent : ℕ → ℕ → Bool
  is_parent one other = is_child release.isa (get_or release.concepts one 0) (get_or release.concepts other 0)

  -- whether the concept number `other` is a child of `one`
  abbrev is_below : ℕ → ℕ → Bool
  is_below one other = is_child release.isa (get_or release.concepts other 0) (get_or release.concepts one 0)

  -- whether the concept number `other` is a member of the reference set `one`
  abbrev is_component : ℕ → ℕ → Bool
  is_component one other = is_child release.members (get_or release.concepts one 0) (get_or release.concepts other 0)

  -- the index of parents has a list for `concept`
  pub parents_fit : concept < length indexed.hierarchy.parents
  parents_fit =
      omega (
        arith,
        ap (λ (hierarchy : Hierarchy). length hierarchy.parents) is.hierarchy,
        length-where (length release.concepts) is_parent,
      )

  -- the index of children has a list for `concept`
  pub children_fit : concept < length indexed.hierarchy.children
  children_fit =
      omega (
        arith,
        ap (λ (hierarchy : Hierarchy). length hierarchy.children) is.hierarchy,
        length-where (length release.concepts) is_below,
      )

  -- the numbers of the parents of `concept` are below the count of concepts
  pub parents_below : All (λ other. other < length release.concepts) (list_of indexed.hierarchy.parents concept)
  parents_below =
      subst
      (λ (hierarchy : Hierarchy). All (λ other. other < length release.concepts) (list_of hierarchy.parents concept))
      (sym is.hierarchy) (listed_below (length release.concepts) is_parent concept below)

  -- the numbers of the children of `concept` are below the count of concepts
  pub children_below : All (λ other. other < length release.concepts) (list_of indexed.hierarchy.children concept)
  children_below =
      subst
      (λ (hierarchy : Hierarchy). All (λ other. other < length release.concepts) (list_of hierarchy.children concept))
      (sym is.hierarchy) (listed_below (length release.concepts) is_below concept below)

  -- the identifiers in the list of parents of `concept` are the parents that the release gives it
  pub parents_are : map (λ k. get_or release.concepts k 0) (list_of indexed.hierarchy.parents concept)
      ≡ parents_of release (get_or release.concepts concept 0)
  parents_are =
      ap (λ (hierarchy : Hierarchy). map (λ k. get_or release.concepts k 0) (list_of hierarchy.parents concept))
      is.hierarchy
      ∙ listed_of release.concepts (is_child release.isa) concept below

  -- the identifiers in the list of children of `concept` are the children that the release gives it
  pub children_are : map (λ k. get_or release.concepts k 0) (list_of indexed.hierarchy.children concept)
      ≡ children_of release (get_or release.concepts concept 0)
  children_are =
      ap (λ (hierarchy : Hierarchy). map (λ k. get_or release.concepts k 0) (list_of hierarchy.children concept))
      is.hierarchy
      ∙ listed_of release.concepts (λ one other. is_child release.isa other one) concept below

  -- the numbers of the rows with the source `concept` rise and are below the count of attribute rows
  pub rows_rise : length (attributes_by_source release) ≡ length release.attributes
      → IsRisingBelow (length release.attributes) (rows_by_source indexed concept)
  rows_rise counted =
      subst (λ (count : ℕ). IsRisingBelow count (rows_by_source indexed concept))
      (ap (λ (rows : List Attribute). length rows) is.rows ∙ counted)
      (places_where-rising (λ (row : Attribute). row.source == get_or indexed.concepts concept 0) indexed.rows)

  -- the rows with the source `concept` in the index are the attribute rows that the release gives it
  pub rows_are : IsStrictlyIncreasing release.concepts
      → map (row_numbered release) (rows_by_source indexed concept)
      ≡ rows_of release (get_or release.concepts concept 0)
  rows_are rising =
      ap
      (λ (rows : List Attribute).
      map (λ place. get_or rows place no_row)
      (places_where (λ (row : Attribute). row.source == get_or indexed.concepts concept 0) indexed.rows))
      (sym is.rows)
      ∙ rows_at_places (λ (row : Attribute). row.source == get_or indexed.concepts concept 0) indexed.rows no_row
      ∙ ap (λ (concepts : List ℕ). filter (λ (row : Attribute). row.source == get_or concepts concept 0) indexed.rows)
      is.concepts
      ∙ rows_of_again release rising indexed.rows is.rows (get_or release.concepts concept 0)
      (Contains-get_or release.concepts concept 0 below)

  -- the numbers of the lists of members that have `concept`
  abbrev pub with_concept : List (List ℕ) → List ℕ
  with_concept members = numbers_where (length members) (λ set. has (list_of members set) concept)

  -- the index has a list of members for each concept
  members_counted : length indexed.members ≡ length release.concepts
  members_counted =
      ap (λ (members : List (List ℕ)). length members) is.members ∙ length-where (length release.concepts) is_component

  -- the reference sets with `concept` have numbers below the count of concepts
  pub sets_below : All (λ other. other < length release.concepts) (with_concept indexed.members)
  sets_below =
      subst (λ (count : ℕ). All (λ other. other < count) (with_concept indexed.members)) members_counted
      (all_below (length indexed.members) (with_concept indexed.members)
      (numbers_where-rising (length indexed.members) (λ set. has (list_of indexed.members set) concept)))

  -- the identifiers of the lists of members that have `concept` are the reference sets that it is in
  pub sets_are : map (λ k. get_or release.concepts k 0) (with_concept indexed.members)
      ≡ reference_sets_with release (get_or release.concepts concept 0)
  sets_are =
      ap
      (λ (count : ℕ).
      map (λ k. get_or release.concepts k 0) (numbers_where count (λ set. has (list_of indexed.members set) concept)))
      members_counted
      ∙ ap
      (λ (members : List (List ℕ)).
      map (λ k. get_or release.concepts k 0)
      (numbers_where (length release.concepts) (λ set. has (list_of members set) concept)))
      is.members
      ∙ listed_with release.concepts (is_child release.members) concept below

-- a list that has `component` is not empty, so a test for members beside it changes nothing
had_members : (members : List (List ℕ)) (component set : ℕ)
    → (has_members members set && has (list_of members set) component) ≡ has (list_of members set) component
had_members members component set = by (list_of members set)
  where
    by : (list : List ℕ) → (not (length list == 0) && has list component) ≡ has list component
    by [] = refl
    by (item ∷ items) =
        λ i. not (ne_eqb (length (item ∷ items)) 0 (λ none. absurd (omega arith)) i) && has (item ∷ items) component

-- looking for `component` only in lists with members finds the same lists as looking in all lists
pub members_kept : (members : List (List ℕ)) (component : ℕ)
    → filter (λ set. has (list_of members set) component) (with_members members)
    ≡ numbers_where (length members) (λ set. has (list_of members set) component)
members_kept members component =
    filter-numbers_where (length members) (has_members members) (λ set. has (list_of members set) component)
    ∙ numbers_where-agree (length members)
    (λ set. has_members members set && has (list_of members set) component)
    (λ set. has (list_of members set) component)
    (λ set within. had_members members component set)
