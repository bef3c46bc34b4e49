use Rattle.std.proofs.Common.{ℕ, ◌-◌, ◌≡◌, ◌<◌, ◌^◌, ◌∙◌, List, Some, length, get_or, map, nat_eq, take, vec_len}
use Rattle.std.proofs.Common.{sym, ap, subst, arith}
use Rattle.std.specs.Prelude.{All, slice_get, slice_index}
use Rattle.std.specs.List.{IsDistinct, concat, range_with_len}
use Rattle.std.proofs.lemmas.List.{length-map}
use Rattle.held_release.specs.AttributesBySource.{attributes_by_source}
use Rattle.postings.specs.inside.Cells.{AreRowLists}
use Rattle.postings.specs.inside.Coded.{AreRowMarks, IsBySource}
use Rattle.postings.specs.Columns.{Flagged}
use Rattle.postings.specs.inside.KeptRows.{AreNumbersOf, HaveOneNumber}
use Rattle.postings.specs.Places.{places_by}
use Rattle.postings.specs.inside.RowIndexes.{AreByType}
use Rattle.held_release.specs.CodedRows.{values_among}
use Rattle.release_model.specs.Release.{Value}
use Rattle.postings.specs.declared.row_indexes.RowIndexes.{RowIndexes}
use Rattle.held_release.specs.declared.coded_rows.CodedRow.{CodedRow}
use Rattle.postings.proofs.IndexLemmas.{few_types}
use Rattle.postings.proofs.KeptLemmas.{coded_kept, each_kept, many_groups, marked_are, one_number, group_numbers_are}
use Rattle.postings.proofs.KeptLemmas.{groups_below}
use Rattle.postings.proofs.RowIndexLemmas.{by_source_are, few_codes, is_sorted, once, starts_last}
use Rattle.postings.proofs.RowListLemmas.{by_type_told, by_value_told, group_lists_told, of_one_length}
use Rattle.postings.proofs.RowListLemmas.{type_places_below}
use Rattle.postings.proofs.SourceRangeLemmas.{sources_in_turn}
use Rattle.postings.proofs.SourceRowLemmas.{ahead_told, start_within}
use Rattle.postings.proofs.row_indexes.row_indexes.Goals as goal
use Rattle.postings.proofs.row_indexes.row_indexes.Goals.{In_ok-keys, In_ok-marks}

-- the marks are those of the rows of all concepts
marked : (c : In_ok-marks)
    → AreRowMarks (length c.args.snapshot.now.release.concepts) c.coded_rows-coded.result.now.rows.items
    c.in_ok-marks.marks
marked c =
    subst (λ (rows : List CodedRow). AreRowMarks (length c.args.snapshot.now.release.concepts) rows c.in_ok-marks.marks)
    c.as_slice-rows.ensures.value
    (subst (λ (n : ℕ). AreRowMarks n c.as_slice-rows.result.now c.in_ok-marks.marks)
    c.concept_count-count.ensures.count c.in_ok-marks.ensures)

-- the places of types that serve as keys are those of the rows
typed : (c : In_ok-keys)
    → c.in_ok-keys.keys.type_places.items
    ≡ map (λ (row : CodedRow). row.type_place) c.coded_rows-coded.result.now.rows.items
typed c = c.in_ok-keys.ensures.types ∙ ap (map (λ (row : CodedRow). row.type_place)) c.as_slice-rows.ensures.value

-- the numbers of values that serve as keys are those of the rows
valued : (c : In_ok-keys)
    → c.in_ok-keys.keys.values.items ≡ map (λ (row : CodedRow). row.value) c.coded_rows-coded.result.now.rows.items
valued c = c.in_ok-keys.ensures.values ∙ ap (map (λ (row : CodedRow). row.value)) c.as_slice-rows.ensures.value

-- there are less than 2^31 rows of numbers
pub row_marks-requires-clause-few : goal.row_marks-requires-clause-few
row_marks-requires-clause-few c =
    let rises = c.concept_count-count.ensures.rising in
    subst (λ (rows : List CodedRow). length rows < 2 ^ 31) (sym c.as_slice-rows.ensures.value)
    (few_codes c.args.snapshot.now.release rises c.coded_rows-coded.result.now c.coded_rows-coded.ensures)

-- the rows of numbers stand source by source
pub row_marks-requires-clause-sorted : goal.row_marks-requires-clause-sorted
row_marks-requires-clause-sorted c =
    let release = c.args.snapshot.now.release in
    subst (λ (n : ℕ). IsBySource n c.as_slice-rows.result.now) (sym c.concept_count-count.ensures.count)
    (subst (λ (rows : List CodedRow). IsBySource (length release.concepts) rows) (sym c.as_slice-rows.ensures.value)
    (is_sorted release c.concept_count-count.ensures.rising c.coded_rows-coded.result.now c.coded_rows-coded.ensures))

-- there are less than 2^32 rows of numbers
pub group_lists-requires-clause-few : goal.group_lists-requires-clause-few
group_lists-requires-clause-few c =
    let rises = c.concept_count-count.ensures.rising in
    let few : length c.coded_rows-coded.result.now.rows.items < 2 ^ 31 =
    few_codes c.args.snapshot.now.release rises c.coded_rows-coded.result.now c.coded_rows-coded.ensures in
    subst (λ (rows : List CodedRow). length rows < 2 ^ 32) (sym c.as_slice-rows.ensures.value) (omega (arith, few))

-- there is a mark with the group for each row
pub group_lists-requires-clause-long : goal.group_lists-requires-clause-long
group_lists-requires-clause-long c =
    omega (
      arith,
      c.as_slice-rows.ensures.len,
      many_groups c.args.snapshot.now.release c.concept_count-count.ensures.rising c.coded_rows-coded.result.now
          c.coded_rows-coded.ensures
          c.in_ok-marks.marks (marked (goal.at.group_lists-requires-clause-long c).In_ok-marks),
    )

-- the number of each mark with a group is below the last start
pub group_lists-requires-clause-within : goal.group_lists-requires-clause-within
group_lists-requires-clause-within c =
    let starts = c.in_ok-marks.marks.starts.items in
    let last : length starts - 1 ≡ vec_len c.in_ok-marks.marks.starts - 1 = omega arith in
    subst (λ (n : ℕ). All (λ (mark : Flagged). mark.number < get_or starts n 0) c.in_ok-marks.marks.groups.items) last
    (groups_below c.args.snapshot.now.release c.concept_count-count.ensures.rising c.coded_rows-coded.result.now
    c.coded_rows-coded.ensures
    c.in_ok-marks.marks (marked (goal.at.group_lists-requires-clause-within c).In_ok-marks))

-- rows of one group have one group number
pub group_lists-requires-clause-one : goal.group_lists-requires-clause-one
group_lists-requires-clause-one c =
    subst (λ (rows : List CodedRow). HaveOneNumber c.in_ok-marks.marks.groups.items rows)
    (sym c.as_slice-rows.ensures.value)
    (one_number c.args.snapshot.now.release c.concept_count-count.ensures.rising c.coded_rows-coded.result.now
    c.coded_rows-coded.ensures
    c.in_ok-marks.marks (marked (goal.at.group_lists-requires-clause-one c).In_ok-marks))

-- there are fewer than 2^32 types
pub type_table-requires-clause-few : goal.type_table-requires-clause-few
type_table-requires-clause-few c =
    omega (
      arith,
      ap (λ (xs : List ℕ). length xs) (c.as_slice.ensures.value ∙ c.coded_rows-coded.ensures.types),
      few_types (attributes_by_source c.args.snapshot.now.release),
      c.coded_rows-coded.ensures.few,
    )

-- no type is there twice
pub type_table-requires-clause-once : goal.type_table-requires-clause-once
type_table-requires-clause-once c =
    subst (λ (types : List ℕ). IsDistinct nat_eq types) (sym c.as_slice.ensures.value)
    (once c.args.snapshot.now.release c.concept_count-count.ensures.rising c.coded_rows-coded.result.now
    c.coded_rows-coded.ensures)

-- 32 bits hold the number of types
pub overflow_cast-len : goal.overflow_cast-len
overflow_cast-len c =
    omega (
      arith,
      c.len.ensures,
      ap (λ (xs : List ℕ). length xs) (c.in_ok-types.ensures.ids ∙ c.as_slice.ensures.value),
      ap (λ (xs : List ℕ). length xs) c.coded_rows-coded.ensures.types,
      few_types (attributes_by_source c.args.snapshot.now.release),
      c.coded_rows-coded.ensures.few,
    )

-- each row has a place of its type, a number of its value, and marks
pub lists_by_keys-requires-clause-long : goal.lists_by_keys-requires-clause-long
lists_by_keys-requires-clause-long c =
    let at = goal.at.lists_by_keys-requires-clause-long c in
    of_one_length c.args.snapshot.now.release c.concept_count-count.ensures.rising c.coded_rows-coded.result.now
    c.coded_rows-coded.ensures
    c.in_ok-marks.marks (marked at.In_ok-marks) c.in_ok-keys.keys.type_places.items c.in_ok-keys.keys.values.items
    (λ row. row.type_place) (λ row. row.value) (typed at.In_ok-keys) (valued at.In_ok-keys)

-- the place of each row's type is below the number of types
pub lists_by_keys-requires-clause-types : goal.lists_by_keys-requires-clause-types
lists_by_keys-requires-clause-types c =
    subst (λ (xs : List ℕ). All (λ key. key < c.len.result) xs)
    (sym (typed (goal.at.lists_by_keys-requires-clause-types c).In_ok-keys))
    (type_places_below c.args.snapshot.now.release c.concept_count-count.ensures.rising c.coded_rows-coded.result.now
    c.coded_rows-coded.ensures
    c.len.result (omega (
      arith,
      c.len.ensures,
      ap (λ (xs : List ℕ). length xs) (c.in_ok-types.ensures.ids ∙ c.as_slice.ensures.value),
    )))

-- the indexes are those of the attribute rows
pub returns : goal.returns
returns c =
    let at = goal.at.returns c in
    let release = c.args.snapshot.now.release in
    let rises = c.concept_count-count.ensures.rising in
    let coded = c.coded_rows-coded.result.now in
    let are = c.coded_rows-coded.ensures in
    let codes : List CodedRow = coded.rows.items in
    let marks = c.in_ok-marks.marks in
    let marks_are = marked at.In_ok-marks in
    let starts = marks.starts.items in
    let last : vec_len marks.starts - 1 ≡ length starts - 1 = omega arith in
    let keys = c.in_ok-keys.keys in
    let keys_are = typed at.In_ok-keys in
    let cells_are = valued at.In_ok-keys in
    let lists = c.in_ok-lists.lists in
    let listed = c.in_ok-lists.ensures in
    let indexes : RowIndexes = record {
      types = c.in_ok-types.types;
      values = c.in_ok-values.values;
      type_places = keys.type_places;
      places = lists.places;
      row_numbers = c.in_ok-row_numbers.row_numbers;
      by_type = lists.by_type;
      by_value = lists.by_value;
      groups = c.in_ok-groups.groups;
    } in
    let by_type : AreRowLists c.len.result indexes.type_places.items (map (λ (row : CodedRow). row.value) codes) marks
    indexes.by_type =
    subst (λ (cells : List ℕ). AreRowLists c.len.result indexes.type_places.items cells marks indexes.by_type) cells_are
    listed.by_type in
    let many : vec_len keys.type_places ≡ length codes =
    omega (arith, ap (λ (xs : List ℕ). length xs) keys_are, length-map codes (λ (row : CodedRow). row.type_place)) in
    let places_len : length indexes.places.items ≡ length codes = omega (arith, many, listed.len) in
    let found : (n : ℕ) → n < length codes
    → slice_get (concat indexes.by_type.rows) (slice_index indexes.places.items n) ≡ Some n =
    λ n below. listed.found n (omega (arith, below, many)) in
    let kept_len : length indexes.groups.numbers.items ≡ get_or starts (length starts - 1) 0 =
    omega (arith, c.in_ok-groups.ensures.len, ap (λ (n : ℕ). get_or starts n 0) last) in
    let numbers_len = kept_len ∙ starts_last release rises coded are marks marks_are in
    let numbers : AreNumbersOf marks.groups.items codes indexes.groups.numbers.items =
    subst (λ (rows : List CodedRow). AreNumbersOf marks.groups.items rows indexes.groups.numbers.items)
    c.as_slice-rows.ensures.value
    c.in_ok-groups.ensures.numbers in
    let count = c.len.result in
    let sources = by_source_are release rises coded are in
    let numbered : indexes.types.numbers ≡ coded.types.items =
    c.in_ok-types.ensures.numbers ∙ c.as_slice.ensures.value in
    record {
      coded = coded_kept release rises coded are marks marks_are indexes count keys_are by_type places_len found
          numbers_len numbers
          numbered c.in_ok-values.ensures.decimals c.in_ok-values.ensures.texts;
      ids = c.in_ok-types.ensures.ids ∙ sym c.in_ok-types.ensures.numbers;
      kept = each_kept release rises coded are marks marks_are indexes count keys_are by_type places_len found
          numbers_len numbers;
      units = group_numbers_are release rises coded are marks marks_are indexes count keys_are by_type places_len found
          numbers_len numbers;
      marked = marked_are release rises coded are marks marks_are indexes count keys_are by_type places_len found
          numbers_len numbers;
      row_numbers = c.in_ok-row_numbers.ensures
          ∙ ap (λ (rows : List CodedRow). range_with_len 0 (length rows)) c.as_slice-rows.ensures.value
          ∙ sym (sources_in_turn codes (length release.concepts) (is_sorted release rises coded are))
          ∙ ap concat sources;
      ahead = λ concept within.
          (λ i. length (concat (take (get_or (c.in_ok-groups.ensures.starts i) concept 0)
          (c.in_ok-groups.ensures.rows i))))
          ∙ ahead_told release rises coded are marks marks_are concept within
          (get_or starts (vec_len marks.starts - 1) 0)
          (omega (
            arith,
            start_within release rises coded are marks marks_are concept within,
            starts_last release rises coded are marks marks_are,
            ap (λ (n : ℕ). get_or starts n 0) last,
          ))
          ∙ ap (λ (lists : List (List ℕ)). length (concat (take concept lists))) sources;
      by_type = subst (λ (values : List Value). AreByType release.concepts values
          (attributes_by_source release) indexes.by_type)
          (λ i. values_among release.concepts (sym c.in_ok-values.ensures.decimals i)
          (sym c.in_ok-values.ensures.texts i))
          (by_type_told release rises coded are marks marks_are lists.by_type c.len.result keys.type_places.items
          keys.values.items listed.by_type
          (omega (
            arith,
            c.len.ensures,
            ap (λ (xs : List ℕ). length xs) (c.in_ok-types.ensures.ids ∙ c.as_slice.ensures.value),
          ))
          keys_are cells_are);
      by_value = by_value_told release rises coded are marks marks_are lists.by_value c.concept_count-count.result
          keys.values.items keys.type_places.items listed.by_value c.concept_count-count.ensures.count cells_are
          keys_are;
      groups = group_lists_told release rises coded are marks marks_are c.in_ok-groups.groups kept_len
          c.in_ok-groups.ensures.starts
          (c.in_ok-groups.ensures.rows
          ∙ ap (λ (n : ℕ). places_by (get_or starts n 0) (map (λ (mark : Flagged). mark.number) marks.groups.items))
          last);
    }
