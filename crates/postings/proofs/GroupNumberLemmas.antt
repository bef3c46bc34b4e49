-- What the look-ups of a row and of a group find.
use Rattle.std.proofs.Common.{ℕ, ◌==◌, ◌≡◌, ◌<◌, ◌∙◌, [], true, List, Some, length, get_or, slice_index, sym, ap, subst}
use Rattle.std.proofs.Common.{arith}
use Rattle.std.specs.Prelude.{IfSome, slice_get}
use Rattle.std.specs.List.{list_any}
use Rattle.std.proofs.lemmas.Bool.{and_parts, eqb-true}
use Rattle.std.proofs.lemmas.List.{get_or_default, get_or-map, length-map}
use Rattle.release_model.specs.Release.{Attribute}
use Rattle.number_lists.specs.KeyedLists.{list_of}
use Rattle.held_release.specs.CodedRows.{IsCoded, row_coded}
use Rattle.postings.specs.Groups.{ConceptGroup, groups_in, group_of, has_key, is_in_group, numbered, rows_alone}
use Rattle.postings.specs.Groups.{rows_of_group}
use Rattle.postings.specs.inside.IndexInside.{AreIndexed, indexed_in}
use Rattle.postings.specs.Indexed.{Indexed}
use Rattle.postings.specs.inside.KeptRows.{IsKept, groups_kept, mark_at, row_kept, rows_kept, group_kept}
use Rattle.postings.specs.Places.{places_where}
use Rattle.held_release.specs.CodedRows.{values_in}
use Rattle.postings.specs.declared.index.Indexes.TheInside.{Inside}
use Rattle.held_release.specs.declared.coded_rows.CodedRow.{CodedRow}
use Rattle.postings.proofs.GroupRowLemmas.{first_passes, first_within, groups_have, some_place}
use Rattle.postings.proofs.IndexLemmas.{group_at, if_there}
use Rattle.postings.proofs.KeptLemmas.{kept_at, length-kept}
use Rattle.postings.proofs.KeyLemmas.{group_with}

module _ (inside : Inside) (are : AreIndexed inside) (now : Indexed) (same : indexed_in inside ≡ now) where
  abbrev rows : List Attribute
  rows = (indexed_in inside).rows

  abbrev groups : List ConceptGroup
  groups = groups_in (indexed_in inside)

  abbrev stands : CodedRow → Attribute
  stands = row_coded inside.concepts.items inside.rows.types.numbers
      (values_in inside.concepts.items inside.rows.values)

  -- the fields of the indexes encode as many rows as they have places of types
  pub length-rows : length rows ≡ length inside.rows.type_places.items
  length-rows = length-map (rows_kept inside.rows) stands ∙ length-kept inside.rows

  -- ---- a row
  module _ (n : ℕ) (below : n < length now.rows) where
    -- a row number of the indexes is below the number of rows that the fields encode
    pub near : n < length rows
    near = subst (λ (count : ℕ). n < count) (ap (λ (indexed : Indexed). length indexed.rows) (sym same)) below

    -- the fields keep row `n`
    pub row_there : IsKept inside.rows n
    row_there = are.rows.kept n near

    -- the kept group number of row `n` is the number of the row's group
    pub group_told : (unit : ℕ) → unit ≡ group_kept inside.rows n
        → IfSome (slice_get now.rows n) (λ row. slice_get (groups_in now) unit ≡ Some (group_of row))
    group_told unit is =
        subst (λ (indexed : Indexed). IfSome (slice_get indexed.rows n)
        (λ row. slice_get (groups_in indexed) unit ≡ Some (group_of row)))
        same
        (if_there rows n near (λ (row : Attribute). slice_get groups unit ≡ Some (group_of row)) (λ row.
        ap (slice_get groups) (is ∙ sym (marked (mark_at inside.rows.by_type.groups.items 0)))
        ∙ group_at groups rows (groups_kept inside.rows) are.rows.units n row
        (mark_at inside.rows.by_type.groups.items 0) near))
      where
        marked : (d : _) → (get_or (groups_kept inside.rows) n d).number ≡ group_kept inside.rows n
        marked d = ap (λ mark. mark.number)
            (get_or-map (mark_at inside.rows.by_type.groups.items) inside.rows.places.items n 0 d
            row_there.place)

  -- ---- a row by its place
  -- decoding the kept row with the number `n` gives attribute row `n`
  pub row_at : (n : ℕ) (d : Attribute) → n < length rows → get_or rows n d ≡ stands (row_kept inside.rows n)
  row_at n d below =
      let row : CodedRow = row_kept inside.rows n in
      get_or-map stands (rows_kept inside.rows) n row d (omega (arith, below, length-rows, length-kept inside.rows))
      ∙ ap stands (kept_at inside.rows n row (omega (arith, below, length-rows)))

  -- the numbers of a kept row are within the tables of concepts, types and values
  pub row_coded_within : (n : ℕ) → n < length rows
      → IsCoded inside.concepts.items inside.rows.types.numbers (values_in inside.concepts.items inside.rows.values)
      (row_kept inside.rows n)
  row_coded_within n below =
      let row : CodedRow = row_kept inside.rows n in
      subst (IsCoded inside.concepts.items inside.rows.types.numbers
      (values_in inside.concepts.items inside.rows.values))
      (kept_at inside.rows n row (omega (arith, below, length-rows)))
      (are.rows.coded.within n row (omega (arith, below, length-rows, length-kept inside.rows)))

  -- ---- a group
  module _ (unit : ℕ) (below : unit < length (groups_in now)) where
    here : unit < length groups
    here = subst (λ (count : ℕ). unit < count) (ap (λ (indexed : Indexed). length (groups_in indexed)) (sym same)) below

    abbrev none : ConceptGroup
    none = group_with 0 (numbered 0)

    abbrev group : ConceptGroup
    group = get_or groups unit none

    long : length inside.rows.groups.rows ≡ length groups
    long = ap (λ (xs : List (List ℕ)). length xs) are.rows.groups.each
        ∙ length-map groups (λ (group : ConceptGroup). places_where (is_in_group group) rows)

    -- each group number has a list of rows
    pub group_listed : unit < length inside.rows.groups.rows
    group_listed = omega (arith, here, long)

    unit_rows : list_of inside.rows.groups.rows unit ≡ places_where (is_in_group group) rows
    unit_rows =
        ap (λ (xs : List (List ℕ)). list_of xs unit) are.rows.groups.each
        ∙ get_or-map (λ (group : ConceptGroup). places_where (is_in_group group) rows) groups unit none [] here

    -- the list of rows of the group with the number `unit` has the numbers of the group's rows
    pub rows_told : (found : List ℕ) → found ≡ list_of inside.rows.groups.rows unit
        → IfSome (slice_get (groups_in now) unit) (λ group. found ≡ rows_of_group now group)
    rows_told found is =
        let own : ConceptGroup → List ℕ = λ group. places_where (is_in_group group) rows in
        subst (λ (indexed : Indexed).
        IfSome (slice_get (groups_in indexed) unit) (λ group. found ≡ rows_of_group indexed group)) same
        (if_there groups unit here (λ (group : ConceptGroup). found ≡ own group) (λ other.
        is ∙ unit_rows ∙ ap own (get_or_default groups unit none other here)))

    has : list_any (is_in_group group) rows ≡ true
    has = groups_have (rows_alone inside.concepts.items rows) inside.concepts.items unit none here

    -- the list of rows of a group is not empty
    pub has_first : 0 < length (list_of inside.rows.groups.rows unit)
    has_first = omega (arith, ap (λ (xs : List ℕ). length xs) unit_rows, some_place (is_in_group group) rows has)

    module _ (first d : ℕ) (is : first ≡ get_or (list_of inside.rows.groups.rows unit) 0 d) where
      at : first ≡ get_or (places_where (is_in_group group) rows) 0 d
      at = is ∙ ap (λ (xs : List ℕ). get_or xs 0 d) unit_rows

      first_there : first < length rows
      first_there = subst (λ (n : ℕ). n < length rows) (sym at) (first_within (is_in_group group) rows has d)

      -- the fields keep the first row of a group
      pub first_kept : IsKept inside.rows first
      first_kept = are.rows.kept first first_there

      -- the source of a group's first row is below the number of concepts
      pub source_within : (row_kept inside.rows first).source < length inside.concepts.items
      source_within = (row_coded_within first first_there).source

      source_is : slice_index inside.concepts.items (row_kept inside.rows first).source ≡ group.concept
      source_is =
          let row : Attribute = get_or rows first (stands (row_kept inside.rows first)) in
          let passes : is_in_group group row ≡ true =
          subst (λ (n : ℕ). is_in_group group (get_or rows n (stands (row_kept inside.rows first))) ≡ true) (sym at)
          (first_passes (is_in_group group) rows has d (stands (row_kept inside.rows first))) in
          ap (λ (found : Attribute). found.source)
          (sym (row_at first (stands (row_kept inside.rows first)) first_there))
          ∙ eqb-true row.source group.concept (and_parts (row.source == group.concept) (has_key group.key row) passes).0

      -- the source of a group's first row is the number of the group's concept
      pub concept_told : (concept : ℕ) → concept ≡ (row_kept inside.rows first).source
          → IfSome (slice_get (groups_in now) unit) (λ group. slice_index now.concepts concept ≡ group.concept)
      concept_told concept told =
          subst (λ (indexed : Indexed). IfSome (slice_get (groups_in indexed) unit)
          (λ group. slice_index indexed.concepts concept ≡ group.concept))
          same
          (if_there groups unit here (λ (group : ConceptGroup). slice_index inside.concepts.items concept
          ≡ group.concept) (λ other.
          ap (slice_index inside.concepts.items) told ∙ source_is
          ∙ ap (λ (found : ConceptGroup). found.concept) (get_or_default groups unit none other here)))
