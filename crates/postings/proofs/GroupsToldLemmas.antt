-- What the marks of coded rows tell of the groups: the group of each row, where the groups of a source begin, and the
-- rows of each group.
use Rattle.std.proofs.Common.{ℕ, ◌+◌, ◌==◌, ◌≡◌, ◌≢◌, ◌<◌, ◌≤◌, ◌&&◌, ◌++◌, ◌∷◌, []}
use Rattle.std.proofs.Common.{◌∙◌, not, ⊎_elim, List, length, get_or, map, take, Bool, true, false, cond, nat_eq}
use Rattle.std.proofs.Common.{Option, Some}
use Rattle.std.proofs.Common.{refl, sym, ap, subst, arith, le_of_lt}
use Rattle.std.specs.Prelude.{All, Contains, slice_get}
use Rattle.std.specs.List.{IsDistinct, filter, flat_map, range_with_len}
use Rattle.std.specs.List.Sorted.{IsStrictlyIncreasing}
use Rattle.std.proofs.lemmas.Bool.{and_right, cases_Bool, cases_eq, eq-eqb, ne_eqb}
use Rattle.std.proofs.lemmas.List.{get_or-map, length-map}
use Rattle.std.proofs.lemmas.List.Concat.{get_or-flat_map}
use Rattle.std.proofs.lemmas.List.Elements.{All-contains, All-filter, All-get_or, All-map, All-nil, All-weaker}
use Rattle.std.proofs.lemmas.List.Elements.{Contains-get_or}
use Rattle.std.proofs.lemmas.List.Folds.{length-flat_map-take}
use Rattle.std.proofs.lemmas.Option.{get_or_from_slice_get, slice_get-get_or, slice_get_within}
use Rattle.std.proofs.lemmas.Simd.{map-map}
use Rattle.number_lists.specs.Distinct.{distinct}
use Rattle.release_model.specs.Pairs.{pair_eq, pair_of, value_eq}
use Rattle.release_model.specs.Release.{Attribute, Value}
use Rattle.number_lists.specs.RisingOrder.{rising}
use Rattle.held_release.specs.CodedRows.{IsCoded}
use Rattle.postings.specs.inside.Coded.{IsBySource, all_group_marks, code_eq, group_codes, group_marks}
use Rattle.postings.specs.inside.Coded.{groups_ahead, has_same_in_group}
use Rattle.postings.specs.inside.Coded.{has_same_pair, ungrouped_pairs, of_source, pair_code, place_in_source}
use Rattle.held_release.specs.CodedRows.{row_coded}
use Rattle.postings.specs.Columns.{AreGroups, Flagged}
use Rattle.postings.specs.Entries.{Entry, entries_of, is_alike_in_group}
use Rattle.postings.specs.Groups.{ConceptGroup, GroupKey, all_groups, group_of, groups_among, is_in_group, key_of}
use Rattle.postings.specs.Groups.{keys_of, numbered}
use Rattle.postings.specs.Groups.{rows_alone, ungrouped}
use Rattle.postings.specs.Indexed.{value_at}
use Rattle.postings.specs.Places.{places_from, places_where}
use Rattle.held_release.specs.declared.coded_rows.CodedRow.{CodedRow}
use Rattle.number_lists.proofs.BlockLemmas.{All-range, blocks-long, blocks-same, blocks_before, filter-map}
use Rattle.number_lists.proofs.BlockLemmas.{items_by_place, map-flat_map, map-within}
use Rattle.postings.proofs.CodeLemmas.{alike_in_group_coded, same_type}
use Rattle.postings.proofs.EntryLemmas.{firsts_in_group, firsts_of_marks, numbers_of_marks, rows_of_entries}
use Rattle.postings.proofs.FlagLemmas.{flags-map, flags_after}
use Rattle.postings.proofs.GroupKeyLemmas.{key_at_place, keys_coded, length-keys_coded, pair_at, rising_distinct}
use Rattle.postings.proofs.KeyLemmas.{IsTold, group_with, groups_at, groups_once, groups_told_apart, in_one_group}
use Rattle.postings.proofs.KeyLemmas.{in_own_group}
use Rattle.number_lists.proofs.ListLemmas.{IsOnce, same_place}
use Rattle.held_release.proofs.DistinctPlaceLemmas.{distinct-map}
use Rattle.postings.proofs.SourcesToldLemmas.{apart_by_source, flags_by_source, rows_of_source, same_by_source}
use Rattle.postings.proofs.SourcesToldLemmas.{source_of_block}

-- ---- lists alone

-- item `j` of a block stands among the items of all blocks at the start of the block plus `j`
block_place : {X K : Type 0} (f : K → List X) (keys : List K) (k : ℕ) (e : K) (block : List X) (start j : ℕ) (x : X)
    → k < length keys → f (get_or keys k e) ≡ block → length (flat_map f (take k keys)) ≡ start → j < length block
    → get_or block j x ≡ x
    → slice_get (flat_map f keys) (start + j) ≡ Some x
block_place f keys k e block start j x within is begins inside here =
    let own : j < length (f (get_or keys k e)) = subst (λ xs. j < length xs) (sym is) inside in
    let long = length-flat_map-take f keys k e within in
    let all : start + j < length (flat_map f keys) = omega (arith, own, long, begins) in
    slice_get-get_or (flat_map f keys) (start + j) x all
    ∙ ap Some (ap (λ (n : ℕ). get_or (flat_map f keys) (n + j) x) (sym begins)
    ∙ get_or-flat_map f keys k j e x within own
    ∙ ap (λ xs. get_or xs j x) is ∙ here)

-- group `j` of a concept has key `j` of its keys
group_in_block : (concept : ℕ) (keys : List GroupKey) (j : ℕ) (key : GroupKey) (d : ConceptGroup) → j < length keys
    → get_or keys j key ≡ key
    → (j < length (map (group_with concept) keys))
    × (get_or (map (group_with concept) keys) j d ≡ group_with concept key)
group_in_block concept keys j key d within here = (
  omega (arith, within, length-map keys (group_with concept)),
  get_or-map (group_with concept) keys j key d within
      ∙ ap (group_with concept) here,
)

-- a group by its place among all
module _ (all : List ConceptGroup) (once : IsOnce all) (told : All (λ (group : ConceptGroup). IsTold group.key) all)
    (u : ℕ)
    (d : ConceptGroup) (within : u < length all) where
  -- the number of a row's group is `u` exactly if the row is in group `u`
  number_tells : (n : ℕ) (row : Attribute) → slice_get all n ≡ Some (group_of row)
      → (n == u) ≡ is_in_group (get_or all u d) row
  number_tells n row is = ⊎_elim
      (λ (same : n ≡ u).
      eq-eqb n u same
      ∙ sym (ap (λ group. is_in_group group row) (sym (ap (λ k. get_or all k d) same)
      ∙ get_or_from_slice_get all n (group_of row) d is) ∙ in_own_group row))
      (λ (other : n ≢ u).
      ne_eqb n u other
      ∙ sym (⊎_elim
      (λ (passes : is_in_group (get_or all u d) row ≡ true).
      absurd (other (same_place all once n u d (slice_get_within all n (group_of row) is) within
      (get_or_from_slice_get all n (group_of row) d is
      ∙ sym (in_one_group (get_or all u d) row (All-get_or (λ (group : ConceptGroup). IsTold group.key) all u d within
      told) passes)))))
      (λ (fails : is_in_group (get_or all u d) row ≡ false). fails)
      (cases_Bool (is_in_group (get_or all u d) row))))
      (cases_eq n u)

  -- the places of the number `u` among the group numbers of some rows are the places of the rows of group `u`
  rows_at_number : (place : ℕ) (numbers : List ℕ) (rows : List Attribute)
      → map (slice_get all) numbers ≡ map (λ row. Some (group_of row)) rows
      → places_from place (λ number. number == u) numbers ≡ places_from place (is_in_group (get_or all u d)) rows
  rows_at_number place [] [] are = refl
  rows_at_number place [] (row ∷ rows) are = absurd (cc)
  rows_at_number place (n ∷ numbers) [] are = absurd (cc)
  rows_at_number place (n ∷ numbers) (row ∷ rows) are =
      let first : slice_get all n ≡ Some (group_of row) = cc in
      let others : map (slice_get all) numbers ≡ map (λ row. Some (group_of row)) rows = cc in
      let here = number_tells n row first in
      let rest = rows_at_number (place + 1) numbers rows others in
      λ i. cond (here i) (place ∷ rest i) (rest i)

-- ---- coded rows
module _ (concepts types : List ℕ) (values : List Value) (increases : IsStrictlyIncreasing concepts)
    (once : IsDistinct nat_eq types)
    (exact : (v w : ℕ) → v < length values → w < length values
    → value_eq (value_at values v) (value_at values w) ≡ (v == w))
    (coded : List CodedRow) (within : All (IsCoded concepts types values) coded) (rows : List Attribute)
    (are : rows ≡ map (row_coded concepts types values) coded) where
  -- the group numbers of a concept are those of the rows of numbers of its source
  numbers_are : (k : ℕ) → k < length concepts
      → rising (distinct nat_eq (filter (λ group. not (group == 0))
      (map (λ (row : Attribute). row.group) (filter (λ (row : Attribute). row.source == get_or concepts k 0) rows))))
      ≡ rising (filter (λ group. not (group == 0)) (map (λ (row : CodedRow). row.group) (of_source coded k)))
  numbers_are k below =
      ap (λ (own : List Attribute). rising (distinct nat_eq
      (filter (λ group. not (group == 0)) (map (λ (row : Attribute). row.group) own))))
      (rows_of_source concepts types values increases once exact coded within rows are k below)
      ∙ ap (λ groups. rising (distinct nat_eq (filter (λ group. not (group == 0)) groups)))
      (map-map (λ (row : Attribute). row.group) (row_coded concepts types values) (of_source coded k))
      ∙ rising_distinct (filter (λ group. not (group == 0)) (map (λ (row : CodedRow). row.group) (of_source coded k)))

  -- the pairs without a group number of a concept are those of the rows of numbers of its source
  pairs_are : (k : ℕ) → k < length concepts
      → distinct pair_eq (map pair_of (filter (λ (row : Attribute). row.group == 0)
      (filter (λ (row : Attribute). row.source == get_or concepts k 0) rows)))
      ≡ map (pair_at types values) (ungrouped_pairs (of_source coded k))
  pairs_are k below =
      let ungrouped_own = filter (λ (row : CodedRow). row.group == 0) (of_source coded k) in
      ap (λ (own : List Attribute). distinct pair_eq (map pair_of (filter (λ (row : Attribute). row.group == 0) own)))
      (rows_of_source concepts types values increases once exact coded within rows are k below)
      ∙ ap (λ (own : List Attribute). distinct pair_eq (map pair_of own))
      (filter-map (λ (row : Attribute). row.group == 0) (row_coded concepts types values) (of_source coded k))
      ∙ ap (distinct pair_eq) (map-map pair_of (row_coded concepts types values) ungrouped_own
      ∙ sym (map-map (pair_at types values) pair_code ungrouped_own))
      ∙ distinct-map pair_eq (pair_at types values) code_eq (λ (code : ℕ × ℕ). (code.0 < length types)
      × (code.1 < length values))
      (λ x y near far i. same_type types once x.0 y.0 near.0 far.0 i && exact x.1 y.1 near.1 far.1 i)
      (map pair_code ungrouped_own)
      (All-map (λ (code : ℕ × ℕ). (code.0 < length types) × (code.1 < length values)) pair_code ungrouped_own
      (All-weaker (IsCoded concepts types values) (λ (row : CodedRow). (row.type_place < length types)
      × (row.value < length values))
      (λ row is. (is.type_place, is.value)) ungrouped_own
      (All-filter (λ (row : CodedRow). row.group == 0) (IsCoded concepts types values) (of_source coded k)
      (All-filter (λ (row : CodedRow). row.source == k) (IsCoded concepts types values) coded within))))

  -- the keys of the groups of concept number `k` are the keys made from the coded rows whose source is `k`
  pub keys_are : (k : ℕ) → k < length concepts
      → keys_of (rows_alone concepts rows) (get_or concepts k 0) ≡ keys_coded types values (of_source coded k)
  keys_are k below = λ i. map numbered (numbers_are k below i) ++ map ungrouped (pairs_are k below i)

  -- the first `s` concepts have as many groups as the coded rows of their sources have
  pub starts_told : (s : ℕ) → s ≤ length concepts
      → length (groups_among (rows_alone concepts rows) (take s concepts)) ≡ groups_ahead coded s
  starts_told s within =
      ap length (blocks_before (groups_at (rows_alone concepts rows)) concepts 0 s within)
      ∙ blocks-long (λ k. groups_at (rows_alone concepts rows) (get_or concepts k 0))
      (λ k. group_codes (of_source coded k)) 0 s
      (λ k below. length-map (keys_of (rows_alone concepts rows) (get_or concepts k 0))
      (group_with (get_or concepts k 0))
      ∙ ap length (keys_are k (omega arith))
      ∙ length-keys_coded types values (of_source coded k))

  -- the group of a row stands among all groups at its place in its source, counted after the groups of the sources
  -- before
  group_at_place : (k : ℕ) → k < length concepts → (row : CodedRow) → Contains (of_source coded k) row
      → slice_get (all_groups (rows_alone concepts rows))
      (groups_ahead coded k + place_in_source (of_source coded k) row)
      ≡ Some (group_of (row_coded concepts types values row))
  group_at_place k below row there =
      let at = key_at_place types values concepts (of_source coded k) row there in
      let key : GroupKey = key_of (row_coded concepts types values row) in
      let group : ConceptGroup = group_of (row_coded concepts types values row) in
      let inside = group_in_block (get_or concepts k 0) (keys_coded types values (of_source coded k))
      (place_in_source (of_source coded k) row) key group at.0 (at.1 key) in
      let source : row.source ≡ k =
      All-contains (λ (row : CodedRow). row.source ≡ k) (of_source coded k) row (source_of_block coded k)
      there in
      block_place (groups_at (rows_alone concepts rows)) concepts k 0
      (map (group_with (get_or concepts k 0)) (keys_coded types values (of_source coded k))) (groups_ahead coded k)
      (place_in_source (of_source coded k) row) group
      below (ap (map (group_with (get_or concepts k 0))) (keys_are k below)) (starts_told k (le_of_lt below)) inside.0
      (inside.1 ∙ (λ i. group_with (get_or concepts (sym source i) 0) key))

  module _ (sorted : IsBySource (length concepts) coded) where
    -- looking up the group numbers of the marks gives the group of each row
    pub group_numbers_told : map (slice_get (all_groups (rows_alone concepts rows)))
        (map (λ (mark : Flagged). mark.number) (all_group_marks coded (length concepts)))
        ≡ map (λ (row : Attribute). Some (group_of row)) rows
    group_numbers_told =
        ap (map (slice_get all)) (map-flat_map (λ (mark : Flagged). mark.number) marks range)
        ∙ map-flat_map (slice_get all) (λ source. map (λ (mark : Flagged). mark.number) (marks source)) range
        ∙ blocks-same (λ source. map (slice_get all) (map (λ (mark : Flagged). mark.number) (marks source)))
        (λ source. map own (of_source coded source)) 0 (length concepts) (λ k below. block k below)
        ∙ sym (map-flat_map own (of_source coded) range)
        ∙ ap (map own) (sym sorted)
        ∙ sym (map-map (λ (row : Attribute). Some (group_of row)) (row_coded concepts types values) coded)
        ∙ ap (map (λ (row : Attribute). Some (group_of row))) (sym are)
      where
        all : List ConceptGroup
        all = all_groups (rows_alone concepts rows)

        range : List ℕ
        range = range_with_len 0 (length concepts)

        marks : ℕ → List Flagged
        marks source = group_marks (groups_ahead coded source) (of_source coded source)

        own : CodedRow → Option ConceptGroup
        own row = Some (group_of (row_coded concepts types values row))

        block : (k : ℕ) → k < 0 + length concepts
            → map (slice_get all) (map (λ (mark : Flagged). mark.number) (marks k))
            ≡ map own (of_source coded k)
        block k below =
            let number : CodedRow → ℕ = λ row. groups_ahead coded k + place_in_source (of_source coded k) row in
            ap (map (slice_get all)) (numbers_of_marks has_same_in_group number [] (of_source coded k))
            ∙ map-map (slice_get all) number (of_source coded k)
            ∙ map-within (λ row. slice_get all (number row)) own (of_source coded k)
            (λ j d inside. group_at_place k (near k below) (get_or (of_source coded k) j d)
            (Contains-get_or (of_source coded k) j d inside))
          where
            near : (k : ℕ) → k < 0 + length concepts → k < length concepts
            near k below = omega arith

    -- the flags of the marks by group are those of the entries
    group_firsts : map (λ (mark : Flagged). mark.is_first) (all_group_marks coded (length concepts))
        ≡ map (λ (entry : Entry). entry.is_first_in_group) (entries_of rows)
    group_firsts =
        map-flat_map (λ (mark : Flagged). mark.is_first)
        (λ source. group_marks (groups_ahead coded source) (of_source coded source))
        (range_with_len 0 (length concepts))
        ∙ blocks-same (λ source. map (λ (mark : Flagged). mark.is_first)
        (group_marks (groups_ahead coded source) (of_source coded source)))
        (λ source. flags_after has_same_in_group [] (of_source coded source)) 0 (length concepts)
        (λ k below. firsts_of_marks has_same_in_group
        (λ (row : CodedRow). groups_ahead coded k + place_in_source (of_source coded k) row)
        [] (of_source coded k))
        ∙ sym (flags_by_source coded (length concepts) has_same_in_group
        (λ a b. (a.group == b.group) && ((a.source == b.source) && has_same_pair a b))
        (λ a b less. and_right (a.group == b.group) ((a.source == b.source) && has_same_pair a b)
        (apart_by_source a b (has_same_pair a b) less))
        (λ a b same. ap (λ (rest : Bool). (a.group == b.group) && rest) (same_by_source a b (has_same_pair a b) same))
        sorted)
        ∙ sym (flags-map (IsCoded concepts types values) (row_coded concepts types values) is_alike_in_group
        (λ a b. (a.group == b.group) && ((a.source == b.source) && has_same_pair a b))
        (alike_in_group_coded concepts types values increases once exact) [] coded
        (All-nil (IsCoded concepts types values)) within)
        ∙ ap (flags_after is_alike_in_group []) (sym are)
        ∙ sym (firsts_in_group [] rows)

    -- the marks of coded rows by group are a column of groups for the rows that they encode
    pub groups_told : AreGroups (all_groups (rows_alone concepts rows)) (entries_of rows)
        (all_group_marks coded (length concepts))
    groups_told = record {
      groups = sym (map-map (slice_get (all_groups (rows_alone concepts rows))) (λ (mark : Flagged). mark.number)
          (all_group_marks coded (length concepts)))
          ∙ group_numbers_told
          ∙ ap (map (λ (row : Attribute). Some (group_of row))) (sym (rows_of_entries [] rows))
          ∙ map-map (λ (row : Attribute). Some (group_of row)) (λ (entry : Entry). entry.row) (entries_of rows);
      firsts = group_firsts;
    }

    -- for each group number, the places of the marks that have it are the numbers of the group's rows
    pub group_rows_told : map (λ u. places_where (λ number. number == u)
        (map (λ (mark : Flagged). mark.number) (all_group_marks coded (length concepts))))
        (range_with_len 0 (length (all_groups (rows_alone concepts rows))))
        ≡ map (λ (group : ConceptGroup). places_where (is_in_group group) rows) (all_groups (rows_alone concepts rows))
    group_rows_told =
        map-within (λ u. places_where (λ number. number == u) numbers)
        (λ u. places_where (is_in_group (get_or all u some)) rows)
        (range_with_len 0 (length all))
        (All-range (λ u. places_where (λ number. number == u) numbers
        ≡ places_where (is_in_group (get_or all u some)) rows) 0
        (length all)
        (λ u above below. rows_at_number all (groups_once (rows_alone concepts rows) increases)
        (groups_told_apart (rows_alone concepts rows) concepts) u some (near u (length all) below) 0 numbers rows
        group_numbers_told))
        ∙ sym (map-map (λ (group : ConceptGroup). places_where (is_in_group group) rows) (λ u. get_or all u some)
        (range_with_len 0 (length all)))
        ∙ ap (map (λ (group : ConceptGroup). places_where (is_in_group group) rows)) (sym (items_by_place all some))
      where
        all : List ConceptGroup
        all = all_groups (rows_alone concepts rows)

        numbers : List ℕ
        numbers = map (λ (mark : Flagged). mark.number) (all_group_marks coded (length concepts))

        some : ConceptGroup
        some = group_with 0 (numbered 0)

        near : (u n : ℕ) → u < 0 + n → u < n
        near u n below = omega arith
