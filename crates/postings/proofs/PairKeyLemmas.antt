-- The pairs of rows as numbers: the number of a pair tells it.
use Rattle.std.proofs.Common.{ℕ, ◌+◌, ◌*◌, ◌^◌, ◌==◌, ◌≡◌, ◌≢◌, ◌&&◌, ◌||◌, ◌++◌, ◌∷◌, [], ◌∙◌, Bool, inl, inr, cond}
use Rattle.std.proofs.Common.{not}
use Rattle.std.proofs.Common.{List, length, map, nat_eq, refl, sym, ap, arith}
use Rattle.std.specs.Prelude.{All}
use Rattle.std.specs.List.{filter, list_any, position_or_len}
use Rattle.std.proofs.lemmas.Bool.{cases_eq, eq-eqb, ne_eqb}
use Rattle.std.proofs.lemmas.Cmp.{nat_eq_equiv}
use Rattle.std.proofs.lemmas.List.{append-nil, length-map, map-append}
use Rattle.std.proofs.lemmas.Simd.{map-map}
use Rattle.std.proofs.lemmas.List.Elements.{All-filter, All-head, All-map, All-tail, filter-append}
use Rattle.key_interner.specs.KeyInterner.{keys_after}
use Rattle.number_lists.specs.Distinct.{distinct}
use Rattle.number_lists.proofs.DistinctLemmas.{any_distinct}
use Rattle.postings.specs.inside.Coded.{code_eq, has_same_in_group, has_same_pair, pair_code, ungrouped_pairs}
use Rattle.postings.specs.inside.PairKeys.{IsShort, grouped_key, key_of_code, pair_key, ungrouped_keys}
use Rattle.held_release.specs.declared.coded_rows.CodedRow.{CodedRow}
use Rattle.held_release.proofs.DistinctPlaceLemmas.{All-distinct, distinct-map, distinct-more}

-- rows whose pairs are of numbers of 32 bits
abbrev pub HaveShort : List CodedRow → Type 0
HaveShort rows = All (λ (row : CodedRow). IsShort (pair_code row)) rows

-- ---- two numbers put together tell each
module _ (one other : ℕ × ℕ) (short : IsShort one) (other_short : IsShort other) where
  -- two pairs of numbers below 2^32 are packed into equal keys exactly if they are equal
  pub same_code : nat_eq (key_of_code one) (key_of_code other) ≡ code_eq one other
  same_code = elim (cases_eq one.0 other.0) [
    | inl same ↦ elim (cases_eq one.1 other.1) [
      | inl both ↦
          eq-eqb (key_of_code one) (key_of_code other) (λ i. same i * 2 ^ 32 + both i)
          ∙ sym (λ i. eq-eqb one.0 other.0 same i && eq-eqb one.1 other.1 both i)
      | inr apart ↦
          ne_eqb (key_of_code one) (key_of_code other) (λ is. apart (omega (arith, is, same)))
          ∙ sym (λ i. eq-eqb one.0 other.0 same i && ne_eqb one.1 other.1 apart i)
    ]
    | inr apart ↦
        ne_eqb (key_of_code one) (key_of_code other) (λ is. apart (omega (arith, is, short.second, other_short.second)))
        ∙ sym (λ i. ne_eqb one.0 other.0 apart i && (one.1 == other.1))
  ]

module _ (one other : CodedRow) (short : IsShort (pair_code one)) (other_short : IsShort (pair_code other)) where
  -- two coded rows have equal `pair_key` exactly if their pairs are equal
  pub same_pair : nat_eq (pair_key one) (pair_key other) ≡ has_same_pair one other
  same_pair = same_code (pair_code one) (pair_code other) short other_short

  -- two coded rows have equal `grouped_key` exactly if their group numbers and their pairs are equal
  pub same_in_group : nat_eq (grouped_key one) (grouped_key other) ≡ has_same_in_group one other
  same_in_group = elim (cases_eq one.group other.group) [
    | inl same ↦ elim (cases_eq (pair_key one) (pair_key other)) [
      | inl both ↦
          eq-eqb (grouped_key one) (grouped_key other) (λ i. same i * 2 ^ 64 + both i)
          ∙ sym (λ i. eq-eqb one.group other.group same i
          && (sym same_pair ∙ eq-eqb (pair_key one) (pair_key other) both) i)
      | inr apart ↦
          ne_eqb (grouped_key one) (grouped_key other) (λ is. apart (omega (arith, is, same)))
          ∙ sym (λ i. eq-eqb one.group other.group same i
          && (sym same_pair ∙ ne_eqb (pair_key one) (pair_key other) apart) i)
    ]
    | inr apart ↦
        ne_eqb (grouped_key one) (grouped_key other)
        (λ is. apart (omega (arith, is, short.first, short.second, other_short.first, other_short.second)))
        ∙ sym (λ i. ne_eqb one.group other.group apart i && has_same_pair one other)
  ]

-- ---- the keys of rows
module _ (same : CodedRow → CodedRow → Bool) (key : CodedRow → ℕ)
    (told : (one other : CodedRow) → IsShort (pair_code one) → IsShort (pair_code other)
    → nat_eq (key one) (key other) ≡ same one other)
  where
    -- if keys are equal exactly for rows that are equal by `same`: the key of `row` is among the distinct keys of
    -- `rows` exactly if `rows` has a row that equals `row`
    pub any-key : (rows : List CodedRow) (row : CodedRow) → HaveShort rows → IsShort (pair_code row)
        → list_any (nat_eq (key row)) (distinct nat_eq (map key rows)) ≡ list_any (same row) rows
    any-key rows row short own = any_distinct nat_eq nat_eq_equiv (key row) (map key rows) ∙ by rows short
      where
        by : (rows : List CodedRow) → HaveShort rows
            → list_any (nat_eq (key row)) (map key rows) ≡ list_any (same row) rows
        by [] all = refl
        by (other ∷ rows) all = λ i.
            told row other own (All-head (λ (row : CodedRow). IsShort (pair_code row)) other rows all) i
            || by rows (All-tail (λ (row : CodedRow). IsShort (pair_code row)) other rows all) i

-- ---- the keys of the rows without a group
abbrev ungrouped_rows : List CodedRow → List CodedRow
ungrouped_rows rows = filter (λ (row : CodedRow). row.group == 0) rows

-- a row with a group number adds no key to the keys of the rows without one
pub ungrouped_keys-numbered : (before : List CodedRow) (row : CodedRow) → row.group ≢ 0
    → ungrouped_keys (before ++ row ∷ []) ≡ ungrouped_keys before
ungrouped_keys-numbered before row numbered =
    let same : ungrouped_rows (before ++ row ∷ []) ≡ ungrouped_rows before =
    filter-append (λ (row : CodedRow). row.group == 0) before (row ∷ [])
    ∙ (λ j. ungrouped_rows before ++ cond (ne_eqb row.group 0 numbered j) (row ∷ []) [])
    ∙ append-nil (ungrouped_rows before) in
    ap (λ (own : List CodedRow). distinct nat_eq (map pair_key own)) same

-- a row without a group number adds its key at the end of the keys of such rows, unless the key is there
pub ungrouped_keys-more : (before : List CodedRow) (row : CodedRow) → row.group ≡ 0
    → ungrouped_keys (before ++ row ∷ []) ≡ keys_after (ungrouped_keys before) (pair_key row)
ungrouped_keys-more before row is_zero =
    let more : ungrouped_rows (before ++ row ∷ []) ≡ ungrouped_rows before ++ row ∷ [] =
    filter-append (λ (row : CodedRow). row.group == 0) before (row ∷ [])
    ∙ (λ j. ungrouped_rows before ++ cond (eq-eqb row.group 0 is_zero j) (row ∷ []) []) in
    ap (λ (own : List CodedRow). distinct nat_eq (map pair_key own)) more
    ∙ ap (distinct nat_eq) (map-append pair_key (ungrouped_rows before) (row ∷ []))
    ∙ distinct-more nat_eq nat_eq_equiv (map pair_key (ungrouped_rows before)) (pair_key row)

module _ (rows : List CodedRow) (short : HaveShort rows) where
  short_codes : All IsShort (map pair_code (ungrouped_rows rows))
  short_codes = All-map IsShort pair_code (ungrouped_rows rows)
      (All-filter (λ (row : CodedRow). row.group == 0) (λ (row : CodedRow). IsShort (pair_code row)) rows short)

  -- the keys of the rows without a group number are those of their distinct pairs
  keys_of_pairs : ungrouped_keys rows ≡ map key_of_code (ungrouped_pairs rows)
  keys_of_pairs =
      ap (distinct nat_eq) (sym (map-map key_of_code pair_code (ungrouped_rows rows)))
      ∙ distinct-map nat_eq key_of_code code_eq IsShort same_code (map pair_code (ungrouped_rows rows)) short_codes

  -- the rows without a group number have as many distinct keys as distinct pairs
  pub length-ungrouped_keys : length (ungrouped_keys rows) ≡ length (ungrouped_pairs rows)
  length-ungrouped_keys = ap (λ (keys : List ℕ). length keys) keys_of_pairs
      ∙ length-map (ungrouped_pairs rows) key_of_code

  -- the place of a row's key among the keys of the rows without a group number is the place of its pair among their
  -- pairs
  pub place-ungrouped_keys : (row : CodedRow) → IsShort (pair_code row)
      → position_or_len (nat_eq (pair_key row)) (ungrouped_keys rows)
      ≡ position_or_len (code_eq (pair_code row)) (ungrouped_pairs rows)
  place-ungrouped_keys row own =
      ap (position_or_len (nat_eq (pair_key row))) keys_of_pairs
      ∙ by (ungrouped_pairs rows) (All-distinct code_eq IsShort (map pair_code (ungrouped_rows rows)) short_codes)
    where
      by : (codes : List (ℕ × ℕ)) → All IsShort codes
          → position_or_len (nat_eq (pair_key row)) (map key_of_code codes)
          ≡ position_or_len (code_eq (pair_code row)) codes
      by [] all = refl
      by (code ∷ codes) all = λ i.
          cond (not (same_code (pair_code row) code own (All-head IsShort code codes all) i))
          (1 + by codes (All-tail IsShort code codes all) i) 0
