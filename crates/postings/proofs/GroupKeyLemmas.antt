-- The groups of coded rows are the groups of the rows that they stand for: their keys, their numbers, and the rows that
-- each has.
use Rattle.std.proofs.Common.{ℕ, ◌+◌, ◌-◌, ◌==◌, ◌≡◌, ◌<◌, ◌++◌, ◌∙◌, not, List, length, get_or, map}
use Rattle.std.proofs.Common.{Bool, true, false, cond, nat_eq, refl, sym, ap, arith, length-append}
use Rattle.std.specs.Prelude.{Contains}
use Rattle.std.specs.List.{filter, list_any, position_or_len}
use Rattle.std.proofs.lemmas.Bool.{and_from, and_parts, eq-eqb, eqb-true}
use Rattle.std.proofs.lemmas.List.{get_or-map, get_or-append_right, get_or_append_left, length-map}
use Rattle.std.proofs.lemmas.List.Sums.{passes_at_first}
use Rattle.release_model.specs.Pairs.{Pair, pair_of}
use Rattle.number_lists.specs.Distinct.{distinct}
use Rattle.release_model.specs.Release.{Value}
use Rattle.number_lists.proofs.DistinctLemmas.{keeps_each_number_once}
use Rattle.number_lists.specs.Members.{has}
use Rattle.number_lists.proofs.WhereLemmas.{numbers_where-agree}
use Rattle.number_lists.specs.RisingOrder.{rising}
use Rattle.number_lists.proofs.ListLemmas.{both_ways, some_item_passes}
use Rattle.number_lists.proofs.MemberLemmas.{contains_had, had_contained}
use Rattle.postings.specs.inside.Coded.{code_eq, group_codes, ungrouped_pairs, numbers_of_groups, pair_code}
use Rattle.held_release.specs.CodedRows.{row_coded}
use Rattle.postings.specs.inside.Coded.{place_in_source}
use Rattle.postings.specs.Groups.{GroupKey, key_of, numbered, ungrouped}
use Rattle.postings.specs.Indexed.{value_at}
use Rattle.held_release.specs.declared.coded_rows.CodedRow.{CodedRow}
use Rattle.number_lists.proofs.BlockLemmas.{Contains-filter, Contains-map}
use Rattle.held_release.proofs.DistinctPlaceLemmas.{All-distinct}
use Rattle.postings.proofs.OnceLemmas.{distinct-keeps, position-within}
use Rattle.postings.proofs.RisingLemmas.{rising_is_listed, some_bound}
use Rattle.number_lists.proofs.RisingOrderLemmas.{has-rising}

-- bringing `numbers` into rising order, each once, gives the same if repeats are removed first
pub rising_distinct : (numbers : List ℕ) → rising (distinct nat_eq numbers) ≡ rising numbers
rising_distinct numbers =
    let bound = some_bound numbers in
    let low = All-distinct nat_eq (λ id. id < bound.0) numbers bound.1 in
    rising_is_listed bound.0 (distinct nat_eq numbers) low
    ∙ numbers_where-agree bound.0 (has (distinct nat_eq numbers)) (has numbers)
    (λ number less. both_ways (has (distinct nat_eq numbers) number) (has numbers number)
    (λ told. had_contained numbers number (((keeps_each_number_once numbers).1 number).0
    (contains_had (distinct nat_eq numbers) number told)))
    (λ told. had_contained (distinct nat_eq numbers) number
    (((keeps_each_number_once numbers).1 number).1 (contains_had numbers number told))))
    ∙ sym (rising_is_listed bound.0 numbers bound.1)

-- two pairs of numbers that `code_eq` finds the same are equal
same_code : (one other : ℕ × ℕ) → code_eq one other ≡ true → one ≡ other
same_code one other told =
    let parts = and_parts (one.0 == other.0) (one.1 == other.1) told in
    λ i. (eqb-true one.0 other.0 parts.0 i, eqb-true one.1 other.1 parts.1 i)

-- a pair of numbers is the same as itself
code_itself : (one : ℕ × ℕ) → code_eq one one ≡ true
code_itself one = and_from (one.0 == one.0) (one.1 == one.1) (eq-eqb one.0 one.0 refl) (eq-eqb one.1 one.1 refl)

-- ---- the places of groups in a source

-- a row with a group number has it among the numbers of its source
number_place : (rows : List CodedRow) (row : CodedRow) → Contains rows row → (row.group == 0) ≡ false
    → (position_or_len (λ group. row.group == group) (numbers_of_groups rows) < length (numbers_of_groups rows))
    × (get_or (numbers_of_groups rows) (position_or_len (λ group. row.group == group) (numbers_of_groups rows)) 0
    ≡ row.group)
number_place rows row there some =
    let numbers = filter (λ group. not (group == 0)) (map (λ (row : CodedRow). row.group) rows) in
    let among : Contains numbers row.group =
    Contains-filter (λ group. not (group == 0)) (map (λ (row : CodedRow). row.group) rows)
    row.group (ap not some) (Contains-map (λ (row : CodedRow). row.group) rows row there) in
    let listed : has (numbers_of_groups rows) row.group ≡ true =
    has-rising numbers row.group ∙ had_contained numbers row.group among in
    let found : list_any (λ group. row.group == group) (numbers_of_groups rows) ≡ true =
    some_item_passes (λ group. row.group == group) (numbers_of_groups rows) row.group
    (contains_had (numbers_of_groups rows) row.group listed)
    (eq-eqb row.group row.group refl) in
    let within = position-within (λ group. row.group == group) (numbers_of_groups rows) found in (
      within,
      sym (eqb-true row.group (get_or (numbers_of_groups rows)
          (position_or_len (λ group. row.group == group) (numbers_of_groups rows)) 0)
          (passes_at_first (λ group. row.group == group) (numbers_of_groups rows) 0 within)),
    )

-- a row without a group number has its pair among the pairs of its source that have none
pair_place : (rows : List CodedRow) (row : CodedRow) → Contains rows row → (row.group == 0) ≡ true
    → (position_or_len (code_eq (pair_code row)) (ungrouped_pairs rows) < length (ungrouped_pairs rows))
    × (get_or (ungrouped_pairs rows) (position_or_len (code_eq (pair_code row)) (ungrouped_pairs rows)) (0, 0)
    ≡ pair_code row)
pair_place rows row there none =
    let ungrouped_own = filter (λ (row : CodedRow). row.group == 0) rows in
    let among : Contains (ungrouped_pairs rows) (pair_code row) =
    distinct-keeps code_eq same_code (map pair_code ungrouped_own) (pair_code row)
    (Contains-map pair_code ungrouped_own row (Contains-filter (λ (row : CodedRow). row.group == 0) rows row none
    there)) in
    let found : list_any (code_eq (pair_code row)) (ungrouped_pairs rows) ≡ true =
    some_item_passes (code_eq (pair_code row)) (ungrouped_pairs rows) (pair_code row) among
    (code_itself (pair_code row)) in
    let within = position-within (code_eq (pair_code row)) (ungrouped_pairs rows) found in (
      within,
      sym (same_code (pair_code row) (get_or (ungrouped_pairs rows)
          (position_or_len (code_eq (pair_code row)) (ungrouped_pairs rows)) (0, 0))
          (passes_at_first (code_eq (pair_code row)) (ungrouped_pairs rows) (0, 0) within)),
    )

-- ---- the keys that codes stand for
module _ (types : List ℕ) (values : List Value) where
  -- the pair that numbers stand for
  abbrev pub pair_at : ℕ × ℕ → Pair
  pair_at code = record { type_id = get_or types code.0 0; value = value_at values code.1 }

  -- the keys of the groups with `numbers`, and then of the groups of `pairs`
  abbrev pub keys_with : List ℕ → List (ℕ × ℕ) → List GroupKey
  keys_with numbers pairs = map numbered numbers ++ map ungrouped (map pair_at pairs)

  -- the codes of the groups with `numbers`, and then of the groups of `pairs`
  abbrev pub codes_with : List ℕ → List (ℕ × ℕ) → List (ℕ × (ℕ × ℕ))
  codes_with numbers pairs = map (λ group. (group, (0, 0))) numbers ++ map (λ (pair : ℕ × ℕ). (0, pair)) pairs

  -- there are as many keys as numbers and pairs
  length-keys_with : (numbers : List ℕ) (pairs : List (ℕ × ℕ))
      → length (keys_with numbers pairs) ≡ length numbers + length pairs
  length-keys_with numbers pairs =
      omega (
        arith,
        length-append (map numbered numbers) (map ungrouped (map pair_at pairs)),
        length-map {B = GroupKey} numbers numbered,
        length-map {B = GroupKey} (map pair_at pairs) ungrouped,
        length-map {B = Pair} pairs pair_at,
      )

  -- there are as many codes as numbers and pairs
  length-codes_with : (numbers : List ℕ) (pairs : List (ℕ × ℕ))
      → length (codes_with numbers pairs) ≡ length numbers + length pairs
  length-codes_with numbers pairs =
      omega (
        arith,
        length-append {A = ℕ × (ℕ × ℕ)} (map (λ group. (group, (0, 0))) numbers)
            (map (λ (pair : ℕ × ℕ). (0, pair)) pairs),
        length-map {B = ℕ × (ℕ × ℕ)} numbers (λ group. (group, (0, 0))),
        length-map {B = ℕ × (ℕ × ℕ)} pairs (λ (pair : ℕ × ℕ). (0, pair)),
      )

  -- the key of a row's group stands at its place among the keys
  key_at : (concepts numbers : List ℕ) (pairs : List (ℕ × ℕ)) (row : CodedRow)
      → ((row.group == 0) ≡ false → (position_or_len (λ group. row.group == group) numbers < length numbers)
      × (get_or numbers (position_or_len (λ group. row.group == group) numbers) 0 ≡ row.group))
      → ((row.group == 0) ≡ true → (position_or_len (code_eq (pair_code row)) pairs < length pairs)
      × (get_or pairs (position_or_len (code_eq (pair_code row)) pairs) (0, 0) ≡ pair_code row))
      → (cond (row.group == 0) (length numbers + position_or_len (code_eq (pair_code row)) pairs)
      (position_or_len (λ group. row.group == group) numbers) < length (keys_with numbers pairs))
      × ((d : GroupKey) → get_or (keys_with numbers pairs)
      (cond (row.group == 0) (length numbers + position_or_len (code_eq (pair_code row)) pairs)
      (position_or_len (λ group. row.group == group) numbers)) d
      ≡ key_of (row_coded concepts types values row))
  key_at concepts numbers pairs row of_number of_pair = by (row.group == 0) refl
    where
      by : (b : Bool) → (row.group == 0) ≡ b
          → (cond b (length numbers + position_or_len (code_eq (pair_code row)) pairs)
          (position_or_len (λ group. row.group == group) numbers) < length (keys_with numbers pairs))
          × ((d : GroupKey) → get_or (keys_with numbers pairs)
          (cond b (length numbers + position_or_len (code_eq (pair_code row)) pairs)
          (position_or_len (λ group. row.group == group) numbers)) d
          ≡ cond b (ungrouped (pair_of (row_coded concepts types values row))) (numbered row.group))
      by true none =
          let p = position_or_len (code_eq (pair_code row)) pairs in
          let found = of_pair none in (
            omega (arith, found.0, length-keys_with numbers pairs),
            λ d. get_or-append_right (map numbered numbers) (map ungrouped (map pair_at pairs)) (length numbers)
                (length numbers + p) d
                (length-map {B = GroupKey} numbers numbered) (omega arith)
                ∙ ap (λ (n : ℕ). get_or (map ungrouped (map pair_at pairs)) n d) (past (length numbers) p)
                ∙ get_or-map ungrouped (map pair_at pairs) p (pair_at (0, 0)) d
                (omega (arith, found.0, length-map {B = Pair} pairs pair_at))
                ∙ ap ungrouped (get_or-map pair_at pairs p (0, 0) (pair_at (0, 0)) found.0 ∙ ap pair_at found.1),
          )
        where
          past : (size p : ℕ) → size + p - size ≡ p
          past size p = omega arith
      by false some =
          let q = position_or_len (λ group. row.group == group) numbers in
          let found = of_number some in (
            omega (arith, found.0, length-keys_with numbers pairs),
            λ d. get_or_append_left (map numbered numbers) (map ungrouped (map pair_at pairs)) d q
                (omega (arith, found.0, length-map {B = GroupKey} numbers numbered))
                ∙ get_or-map numbered numbers q 0 d found.0
                ∙ ap numbered found.1,
          )

  -- the keys of the groups of one source
  abbrev pub keys_coded : List CodedRow → List GroupKey
  keys_coded rows = keys_with (numbers_of_groups rows) (ungrouped_pairs rows)

  -- the rows of one source have as many group keys as group codes
  pub length-keys_coded : (rows : List CodedRow) → length (keys_coded rows) ≡ length (group_codes rows)
  length-keys_coded rows = length-keys_with (numbers_of_groups rows) (ungrouped_pairs rows)
      ∙ sym (length-codes_with (numbers_of_groups rows) (ungrouped_pairs rows))

  -- among the group keys of one source's `rows`, the key of the group of `row` is at the place of that group in its
  -- source
  pub key_at_place : (concepts : List ℕ) (rows : List CodedRow) (row : CodedRow) → Contains rows row
      → (place_in_source rows row < length (keys_coded rows))
      × ((d : GroupKey) → get_or (keys_coded rows) (place_in_source rows row) d
      ≡ key_of (row_coded concepts types values row))
  key_at_place concepts rows row there =
      key_at concepts (numbers_of_groups rows) (ungrouped_pairs rows) row (number_place rows row there)
      (pair_place rows row there)
