-- From the rows by numbers to the indexes of the rows.
use Rattle.std.proofs.Common.{ℕ, ◌+◌, ◌-◌, ◌==◌, ◌≡◌, ◌≤◌, ◌<◌, ◌^◌, ◌∙◌, Bool, List}
use Rattle.std.proofs.Common.{length, get_or, map, nat_eq, take, refl, sym, ap, subst, arith}
use Rattle.std.specs.List.{IsDistinct, range_with_len}
use Rattle.std.specs.List.Sorted.{IsStrictlyIncreasing}
use Rattle.std.proofs.lemmas.List.{length-map, take_all}
use Rattle.release_model.specs.Pairs.{value_eq}
use Rattle.release_model.specs.Release.{Attribute, Release, Value}
use Rattle.number_lists.proofs.DistinctLemmas.{keeps_each_number_once}
use Rattle.held_release.specs.AttributesBySource.{attributes_by_source}
use Rattle.number_lists.proofs.ListLemmas.{same_maps}
use Rattle.held_release.specs.CodedRows.{AreCodedRows, IsCoded}
use Rattle.postings.specs.inside.Coded.{AreRowMarks, IsBySource, all_group_marks}
use Rattle.postings.specs.inside.Coded.{all_source_marks}
use Rattle.held_release.specs.CodedRows.{row_coded}
use Rattle.postings.specs.Columns.{AreGroups, AreSources, Flagged}
use Rattle.postings.specs.Entries.{entries_of}
use Rattle.postings.specs.Groups.{ConceptGroup, all_groups, groups_among, is_in_group, rows_alone}
use Rattle.postings.specs.Indexed.{value_at}
use Rattle.postings.specs.Places.{places_by, places_where}
use Rattle.postings.specs.inside.RowIndexes.{has_source, has_type, has_value}
use Rattle.held_release.specs.CodedRows.{values_in}
use Rattle.postings.specs.declared.groups.RowMarks.{RowMarks}
use Rattle.held_release.specs.declared.coded_rows.CodedRow.{CodedRow}
use Rattle.held_release.specs.declared.coded_rows.CodedRows.{CodedRows}
use Rattle.postings.proofs.AgainLemmas.{by_source_again}
use Rattle.postings.proofs.CodeLemmas.{same_type}
use Rattle.postings.proofs.GroupsToldLemmas.{group_rows_told, groups_told, starts_told}
use Rattle.postings.proofs.IndexLemmas.{length-groups, length-sources}
use Rattle.postings.proofs.PlaceLemmas.{places_where-agree, places_where-map}
use Rattle.postings.proofs.SourceLemmas.{groups_ahead-le}
use Rattle.postings.proofs.SourcesToldLemmas.{by_source_coded, sources_told}
use Rattle.held_release.proofs.ValueLemmas.{rising_apart, value_of_concept, values_exact}

module _ (release : Release) (rises : IsStrictlyIncreasing release.concepts) (coded : CodedRows)
    (are : AreCodedRows release.concepts (attributes_by_source release) coded) where
  -- the attribute rows of the release by source
  abbrev pub rows : List Attribute
  rows = attributes_by_source release

  -- the attribute rows as rows of numbers
  abbrev pub codes : List CodedRow
  codes = coded.rows.items

  -- the table of types
  abbrev pub types : List ℕ
  types = coded.types.items

  -- all values, in the order of their numbers
  abbrev pub all : List Value
  all = values_in release.concepts coded.values

  -- no type is there twice
  pub once : IsDistinct nat_eq types
  once = subst (λ (xs : List ℕ). IsDistinct nat_eq xs) (sym are.types)
      (keeps_each_number_once (map (λ (row : Attribute). row.type_id) rows)).0

  exact : (v w : ℕ) → v < length all → w < length all → value_eq (value_at all v) (value_at all w) ≡ (v == w)
  exact = values_exact release.concepts coded.values rises are.tables.rising

  -- the coded rows are ordered by source
  pub is_sorted : IsBySource (length release.concepts) codes
  is_sorted = by_source_coded release.concepts types all rises once exact codes are.within rows (sym are.stand_for)
      (by_source_again release rises rows refl)

  -- there are as many coded rows as attribute rows
  pub length-codes : length codes ≡ length rows
  length-codes = sym (length-map codes (row_coded release.concepts types all))
      ∙ ap (λ (xs : List Attribute). length xs) are.stand_for

  -- there are fewer than 2^31 coded rows
  pub few_codes : length codes < 2 ^ 31
  few_codes = omega (arith, length-codes, are.few)

  -- the marks of the coded rows with their sources are a column of sources for the attribute rows
  pub sources_are : AreSources release.concepts (entries_of rows) (all_source_marks codes (length release.concepts))
  sources_are = sources_told release.concepts types all rises once exact codes are.within rows (sym are.stand_for)
      is_sorted

  -- the marks of the coded rows with their groups are a column of groups for the attribute rows
  pub groups_are : AreGroups (all_groups (rows_alone release.concepts rows)) (entries_of rows)
      (all_group_marks codes (length release.concepts))
  groups_are = groups_told release.concepts types all rises once exact codes are.within rows (sym are.stand_for)
      is_sorted

  -- there is one mark with a source for each coded row
  pub length-source_marks : length (all_source_marks codes (length release.concepts)) ≡ length codes
  length-source_marks = length-sources release.concepts rows (all_source_marks codes (length release.concepts))
      sources_are
      ∙ sym length-codes

  -- there is one mark with a group for each coded row
  pub length-group_marks : length (all_group_marks codes (length release.concepts)) ≡ length codes
  length-group_marks = length-groups (all_groups (rows_alone release.concepts rows)) rows
      (all_group_marks codes (length release.concepts))
      groups_are ∙ sym length-codes

  -- the places by a key are those of the rows that pass a test, if the test tells the key
  by_key : (key : CodedRow → ℕ) (count : ℕ) (test : ℕ → Attribute → Bool)
      → ((k : ℕ) (row : CodedRow) → k < count → IsCoded release.concepts types all row
      → (key row == k) ≡ test k (row_coded release.concepts types all row))
      → places_by count (map key codes) ≡ map (λ k. places_where (test k) rows) (range_with_len 0 count)
  by_key key count test tells =
      same_maps (λ k. places_where (λ other. other == k) (map key codes)) (λ k. places_where (test k) rows) 0 count
      (λ k from below.
      places_where-map key (λ other. other == k) codes
      ∙ places_where-agree (λ (row : CodedRow). key row == k)
      (λ (row : CodedRow). test k (row_coded release.concepts types all row))
      codes (λ i d inside. tells k (get_or codes i d) (omega (arith, below)) (are.within i d inside))
      ∙ sym (places_where-map (row_coded release.concepts types all) (test k) codes)
      ∙ ap (places_where (test k)) are.stand_for)

  -- listing coded rows by the numbers of their sources gives, for each concept, the numbers of the rows with it as
  -- source
  pub by_source_are : places_by (length release.concepts) (map (λ (row : CodedRow). row.source) codes)
      ≡ map (λ concept. places_where (has_source release.concepts concept) rows)
      (range_with_len 0 (length release.concepts))
  by_source_are =
      by_key (λ row. row.source) (length release.concepts) (has_source release.concepts)
      (λ k row below is. sym (rising_apart release.concepts rises row.source k is.source below))

  -- listing coded rows by the places of their types gives, for each type, the numbers of the rows with it
  pub by_type_are : places_by (length types) (map (λ (row : CodedRow). row.type_place) codes)
      ≡ map (λ place. places_where (has_type types place) rows) (range_with_len 0 (length types))
  by_type_are =
      by_key (λ row. row.type_place) (length types) (has_type types)
      (λ k row below is. sym (same_type types once row.type_place k is.type_place below))

  -- listing coded rows by the numbers of their values gives, for each concept, the numbers of the rows with it as value
  pub by_value_are : places_by (length release.concepts) (map (λ (row : CodedRow). row.value) codes)
      ≡ map (λ concept. places_where (has_value release.concepts concept) rows)
      (range_with_len 0 (length release.concepts))
  by_value_are =
      by_key (λ row. row.value) (length release.concepts) (has_value release.concepts)
      (λ k row below is. sym (value_of_concept release.concepts coded.values rises row.value k is.value below))

  -- the marks of the rows
  module _ (marks : RowMarks) (marked : AreRowMarks (length release.concepts) codes marks) where
    -- the starts of the groups of each concept
    abbrev pub starts : List ℕ
    starts = marks.starts.items

    long : length starts ≡ length release.concepts + 1
    long = omega (arith, marked.starts_len)

    -- the start of `concept` is the number of groups of the concepts before it
    pub starts_are : (concept : ℕ) → concept ≤ length release.concepts
        → get_or starts concept 0
        ≡ length (groups_among (rows_alone release.concepts rows) (take concept release.concepts))
    starts_are concept near = marked.starts concept near
        ∙ sym (starts_told release.concepts types all rises once exact codes are.within rows (sym are.stand_for) concept
        near)

    -- the last of the starts is the number of all groups
    pub starts_last : get_or starts (length starts - 1) 0 ≡ length (all_groups (rows_alone release.concepts rows))
    starts_last =
        let last : length starts - 1 ≡ length release.concepts = omega (arith, long) in
        ap (λ (n : ℕ). get_or starts n 0) last
        ∙ starts_are (length release.concepts) (omega arith)
        ∙ ap (λ (xs : List ℕ). length (groups_among (rows_alone release.concepts rows) xs))
        (take_all (length release.concepts) release.concepts (omega arith))

    -- there are at most as many groups as coded rows
    pub few_groups : length (all_groups (rows_alone release.concepts rows)) ≤ length codes
    few_groups =
        omega (
          arith,
          starts_last,
          ap (λ (n : ℕ). get_or starts n 0) (last),
          marked.starts (length release.concepts) (omega arith),
          groups_ahead-le codes (length release.concepts) (length release.concepts) is_sorted (omega arith),
        )
      where
        last : length starts - 1 ≡ length release.concepts
        last = omega (arith, long)

    -- listing the marks by their group numbers gives, for each group, the numbers of its rows
    pub group_rows_are : places_by (get_or starts (length starts - 1) 0)
        (map (λ (mark : Flagged). mark.number) (all_group_marks codes (length release.concepts)))
        ≡ map (λ (group : ConceptGroup). places_where (is_in_group group) rows)
        (all_groups (rows_alone release.concepts rows))
    group_rows_are =
        ap (λ (n : ℕ). places_by n (map (λ (mark : Flagged). mark.number)
        (all_group_marks codes (length release.concepts)))) starts_last
        ∙ group_rows_told release.concepts types all rises once exact codes are.within rows (sym are.stand_for)
        is_sorted
