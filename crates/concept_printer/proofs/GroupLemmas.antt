-- Rows whose sort keys rise are sorted by group.
use Rattle.std.proofs.Common.{◌≡◌, ◌∙◌, ℕ, zero, suc, ◌^◌, ◌%◌, ◌<◌, ◌≤◌, ◌==◌, true, false, cond}
use Rattle.std.proofs.Common.{List, [], ◌∷◌, All, Some, map, refl, sym, ap, inl, inr, arith}
use Rattle.std.specs.Bool.{⊤}
use Rattle.std.specs.Prelude.{nat_le, nat_lt, slice_get}
use Rattle.std.proofs.lemmas.Bool.{cases_Bool, leb-false, leb-true, le-ltb, lt-ltb, ne_eqb}
use Rattle.std.proofs.lemmas.Option.{get_or_from_slice_get}
use Rattle.number_lists.specs.Rising.{rises_within}
use Rattle.number_lists.specs.RisingOrder.{put, rising}
use Rattle.number_lists.proofs.RisingLemmas.{rises_on}
use Rattle.release_model.specs.Release.{Attribute, Release}
use Rattle.held_release.specs.AttributesBySource.{attributes_by_source}
use Rattle.concept_printer.specs.ConceptText.{by_group, put_row}
use Rattle.concept_printer.specs.inside.GroupKeys.{group_key, no_row, row_numbered, row_with_key}

-- if reading the rows by source at `number` gives `row`, then `row_numbered` gives it too
pub row_read : (release : Release) (number : ℕ) (row : Attribute)
    → slice_get (attributes_by_source release) number ≡ Some row → row_numbered release number ≡ row
row_read release number row is = get_or_from_slice_get (attributes_by_source release) number row no_row is

-- ---- keys of rows whose numbers are below `bound`
module _ (release : Release) (bound : ℕ) (small : bound ≤ 2 ^ 32) where
  -- `key` is the sort key of a row whose number is at least `lowest` and below `bound`
  abbrev IsKeyFrom : ℕ → ℕ → Type 0
  IsKeyFrom lowest key = (number : ℕ) × (lowest ≤ number) × (number < bound) × (key ≡ group_key release number)

  -- each key of a list is the sort key of a row whose number is at least `lowest` and below `bound`
  abbrev AreKeysFrom : ℕ → List ℕ → Type 0
  AreKeysFrom lowest [] = ⊤
  AreKeysFrom lowest (key ∷ keys) = IsKeyFrom lowest key × AreKeysFrom lowest keys

  -- the sort key of a row, modulo 2^32, is the number of the row
  key_number : (number : ℕ) → number < bound → group_key release number % 2 ^ 32 ≡ number
  key_number number below = omega (arith)

  -- the row with the sort key of a row is this row
  row_of_key : (number : ℕ) → number < bound
      → row_with_key release (group_key release number) ≡ row_numbered release number
  row_of_key number below = ap (row_numbered release) (key_number number below)

  -- inserting a key of a row from `lowest` on into keys of rows from `lowest` on gives keys of rows from `lowest` on
  put_from : (lowest key : ℕ) (keys : List ℕ) → IsKeyFrom lowest key → AreKeysFrom lowest keys
      → AreKeysFrom lowest (put key keys)
  put_from lowest key [] own none = (own, tt)
  put_from lowest key (first ∷ others) own are = elim (cases_Bool (nat_lt key first)) [
    | inl less ↦ rw less (own, are)
    | inr past ↦ elim (cases_Bool (key == first)) [
      | inl same ↦ rw past (rw same are)
      | inr other ↦ rw past (rw other (are.0, put_from lowest key others own are.1))
    ]
  ]

  -- if `numbers` rise, are at least `lowest` and below `bound`, then their sorted keys are keys of rows from `least`
  -- on, for each `least` up to `lowest`
  keys_from : (lowest least : ℕ) (numbers : List ℕ) → least ≤ lowest → rises_within lowest bound numbers ≡ true
      → AreKeysFrom least (rising (map (group_key release) numbers))
  keys_from lowest least [] fits rises = tt
  keys_from lowest least (number ∷ numbers) fits rises =
      let on = rises_on lowest bound number numbers rises in
      put_from least (group_key release number) (rising (map (group_key release) numbers))
      (number, omega (arith, on.above), on.below, refl)
      (keys_from (suc number) least numbers (omega (arith, on.above)) on.rest)

  -- if the rows of `keys` have greater numbers than `number`, then inserting the key of `number` into `keys` inserts
  -- its row before the rows of its own group and of greater groups
  put_key : (number : ℕ) (keys : List ℕ) → number < bound → AreKeysFrom (suc number) keys
      → map (row_with_key release) (put (group_key release number) keys)
      ≡ put_row (row_numbered release number) (map (row_with_key release) keys)
  put_key number [] below are = ap (λ (row : Attribute). row ∷ []) (row_of_key number below)
  put_key number (first ∷ others) below are =
      let other = are.0.0 in
      let first_is : first ≡ group_key release other = are.0.3 in
      let own : row_with_key release (group_key release number) ≡ row_numbered release number =
      row_of_key number below in
      let theirs : row_with_key release first ≡ row_numbered release other =
      ap (row_with_key release) first_is ∙ row_of_key other are.0.2 in
      let rest = map (row_with_key release) others in
      elim (cases_Bool (nat_le (row_numbered release number).group (row_numbered release other).group)) [
        | inl before ↦
            let less : nat_lt (group_key release number) first ≡ true =
            lt-ltb (group_key release number) first
            (omega (
              arith,
              first_is,
              are.0.1,
              leb-true (row_numbered release number).group (row_numbered release other).group before,
            )) in
            let leads : nat_le (row_numbered release number).group (row_with_key release first).group ≡ true =
            (λ i. nat_le (row_numbered release number).group (theirs i).group) ∙ before in
            rw less
            ((λ i. own i ∷ row_with_key release first ∷ rest)
            ∙ sym (λ i. cond (leads i) (row_numbered release number ∷ row_with_key release first ∷ rest)
            (row_with_key release first ∷ put_row (row_numbered release number) rest)))
        | inr after ↦
            let later : (row_numbered release other).group < (row_numbered release number).group =
            leb-false (row_numbered release number).group (row_numbered release other).group after in
            let past : nat_lt (group_key release number) first ≡ false =
            le-ltb (group_key release number) first (omega (arith, first_is, later, are.0.2, small)) in
            let differs : (group_key release number == first) ≡ false =
            ne_eqb (group_key release number) first
            (λ same. absurd (omega (arith, same, first_is, later, are.0.2, small))) in
            let follows : nat_le (row_numbered release number).group (row_with_key release first).group ≡ false =
            (λ i. nat_le (row_numbered release number).group (theirs i).group) ∙ after in
            rw past
            (rw differs
            (ap (λ (rows : List Attribute). row_with_key release first ∷ rows) (put_key number others below are.1)
            ∙ sym (λ i. cond (follows i) (row_numbered release number ∷ row_with_key release first ∷ rest)
            (row_with_key release first ∷ put_row (row_numbered release number) rest))))
      ]

  -- if `numbers` rise and are below `bound`, then sorting their keys and taking the rows of the keys sorts the rows
  -- by group
  pub by_rising_keys : (lowest : ℕ) (numbers : List ℕ) → rises_within lowest bound numbers ≡ true
      → map (row_with_key release) (rising (map (group_key release) numbers))
      ≡ by_group (map (row_numbered release) numbers)
  by_rising_keys lowest [] rises = refl
  by_rising_keys lowest (number ∷ numbers) rises =
      let on = rises_on lowest bound number numbers rises in
      put_key number (rising (map (group_key release) numbers)) on.below
      (keys_from (suc number) (suc number) numbers (omega arith) on.rest)
      ∙ ap (put_row (row_numbered release number)) (by_rising_keys (suc number) numbers on.rest)

  -- the row number in a key is below `bound`
  own_found : (key : ℕ) → IsKeyFrom 0 key → key % 2 ^ 32 < bound
  own_found key is = omega (arith, is.3, key_number is.0 is.2, is.2)

  -- the row number in each of the keys is below `bound`
  all_found : (keys : List ℕ) → AreKeysFrom 0 keys → All (λ key. key % 2 ^ 32 < bound) keys
  all_found [] are k d below = absurd (omega arith)
  all_found (key ∷ keys) are zero d below = own_found key are.0
  all_found (key ∷ keys) are (suc k) d below = all_found keys are.1 k d (omega arith)

  -- if `numbers` rise and are below `bound`, then each of their sorted keys has a number below `bound`
  pub numbers_found : (numbers : List ℕ) → rises_within 0 bound numbers ≡ true
      → All (λ key. key % 2 ^ 32 < bound) (rising (map (group_key release) numbers))
  numbers_found numbers rises =
      all_found (rising (map (group_key release) numbers)) (keys_from 0 0 numbers (omega arith) rises)
