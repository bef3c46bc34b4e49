-- The tabs of a line as bits: which are left after the first ones, and which is the lowest.
use Rattle.std.proofs.Common.{◌≡◌, ℕ, zero, suc, ◌+◌, ◌-◌, ◌*◌, ◌/◌, ◌^◌, ◌<◌, ◌≤◌, Bool, true, false, cond, not}
use Rattle.std.proofs.Common.{eqb, ◌==◌, List, [], ◌∷◌, ◌++◌, length, get_or, take, drop, replicate, min, refl, sym, ap}
use Rattle.std.proofs.Common.{◌∙◌, arith, length-drop, inl, inr, drop-drop}
use Rattle.std.proofs.Common.{get_or-drop, get_or-take, length-take, take_all}
use Rattle.std.proofs.Math.Nat.{div-div-eq-div-mul, mul-one, one-le-pow, pow-succ', zero-div, zero-mul, div-one}
use Rattle.std.proofs.lemmas.List.{drop-take, drop-replicate, get_or_past, take_rest}
use Rattle.std.proofs.lemmas.List.Elements.{All-from_get_or}
use Rattle.std.proofs.lemmas.List.Splits.{slice_split_none}
use Rattle.std.proofs.lemmas.List.Sums.{prefix_len-le-length, prefix_len_passes, prefix_len_stops}
use Rattle.std.proofs.lemmas.Simd.{trailing_mask_l, leading_from_mask_l}
use Rattle.std.specs.Int.Bits.{bit_and}
use Rattle.std.specs.Int.Count.{count_trailing_zeros}
use Rattle.std.specs.List.{prefix_len}
use Rattle.rf2_rows.proofs.LowestBit.{lowest_is, lowest_doubled, lowest_moved, lowest_dropped, trailing_lowest}
use Rattle.rf2_rows.specs.inside.Tabs.{NoTab, tab_bits, tabs_in, tabs_left, parts_from}
use Rattle.text_parts.proofs.Parts.{parts_cut}
use Rattle.std.proofs.lemmas.Bool.{cases_lt}
use Rattle.std.proofs.lemmas.Bool.Decides.{nat_tests}

-- halving a number drops its lowest bit
halved : (b : Bool) (n : ℕ) → (cond b 1 0 + 2 * n) / 2 ≡ n
halved x0 n = grind arith

-- `tab_bits bytes`, shifted right by `k`, has the tabs of the bytes after the first `k`
pub tab_bits-shifted : (k : ℕ) (bytes : List ℕ) → tab_bits bytes / 2 ^ k ≡ tab_bits (drop k bytes)
tab_bits-shifted zero bytes = div-one (tab_bits bytes)
tab_bits-shifted (suc k) [] = zero-div (2 ^ suc k)
tab_bits-shifted (suc k) (byte ∷ bytes) =
    let all = tab_bits (byte ∷ bytes) in
    let one : all / 2 ≡ tab_bits bytes = halved (eqb byte 9) (tab_bits bytes) in
    ap (λ n. all / n) (pow-succ' 2 k) ∙ sym (div-div-eq-div-mul all 2 (2 ^ k)) ∙ ap (λ n. n / 2 ^ k) one
    ∙ tab_bits-shifted k bytes

-- zeros after `bytes` are no tabs
tab_bits-padded : (bytes : List ℕ) (count : ℕ) → tab_bits (bytes ++ replicate count 0) ≡ tab_bits bytes
tab_bits-padded [] zero = refl
tab_bits-padded [] (suc count) = let rest = tab_bits-padded [] count in omega (arith, rest)
tab_bits-padded (byte ∷ bytes) count = ap (λ n. cond (eqb byte 9) 1 0 + 2 * n) (tab_bits-padded bytes count)

-- a block of `bytes` and zeros after them has the tabs of `bytes` alone
pub padded_block : (bytes : List ℕ) (k : ℕ) → tab_bits (bytes ++ drop k (replicate 64 0)) ≡ tab_bits bytes
padded_block bytes k = ap (λ zeros. tab_bits (bytes ++ zeros)) (drop-replicate k 64 0) ∙ tab_bits-padded bytes (64 - k)

module _ (line : List ℕ) where
  -- the bits of the tabs between `from` and `to`, shifted right by `k`, are those of the tabs between `from + k`
  -- and `to`
  pub tabs_in-shifted : (from to k : ℕ) → from + k ≤ to → tabs_in line from to / 2 ^ k ≡ tabs_in line (from + k) to
  tabs_in-shifted from to k le =
      grind (
        arith,
        (tab_bits-shifted k (take (to - from) (drop from line))),
        (drop-take k (to - (from + k)) (drop from line)),
        (drop-drop k from line),
      )

  -- if `to` is not before the end of the line, the tabs up to `to` are those up to the end
  pub tabs_in-past : (from to : ℕ) → length line ≤ to → tabs_in line from to ≡ tab_bits (drop from line)
  tabs_in-past from to past = ap tab_bits (take_all (to - from) (drop from line) (omega (arith, length-drop from line)))

  -- the tabs of the last 64 bytes, shifted by the bytes before `from`, are the tabs from `from` on
  pub tabs_in-last : (from : ℕ) → 64 ≤ length line → from < length line → length line < from + 64
      → tab_bits (take 64 (drop (length line - 64) line)) / 2 ^ (from + 64 - length line)
      ≡ tabs_in line from (from + 64)
  tabs_in-last from long in_line last =
      grind (
        arith,
        (tabs_in-shifted (length line - 64) (length line) (from + 64 - length line)),
        (tabs_in-past from (length line)),
        (tabs_in-past from (from + 64)),
      )

-- if a bit is set, a tab stands among the bytes
some_tab : (bytes : List ℕ) → 0 < tab_bits bytes → prefix_len (λ byte. not (byte == 9)) bytes < length bytes
some_tab [] some = absurd (omega arith)
some_tab (byte ∷ bytes) some = grind (arith, some_tab bytes)

-- the lowest set bit marks the first tab between `from` and `to`
record FirstTab (line : List ℕ) (from to at : ℕ) : Type 0 where
  before : at < to
  in_line : at < length line
  clear : NoTab line from at
  is : (get_or line at 0 == 9) ≡ true

-- the place of the first tab from `from` on, by the count of trailing zeros
abbrev next_tab : List ℕ → ℕ → ℕ → ℕ
next_tab line from to = from + count_trailing_zeros 64 (tabs_in line from to)

module _ (line : List ℕ) (from to : ℕ) where
  -- the slice from `from` to `to` is no longer than the rest of the line
  size : length (take (to - from) (drop from line)) ≡ min (to - from) (length line - from)
  size = length-take (to - from) (drop from line) ∙ ap (min (to - from)) (length-drop from line)

  -- byte `k` of the slice is a tab exactly if byte `from + k` of the line is
  byte_at : (k : ℕ) → k < to - from → (get_or (take (to - from) (drop from line)) k 0 == 9)
      ≡ (get_or line (from + k) 0 == 9)
  byte_at k below = ap (λ byte. byte == 9) (get_or-take (to - from) (drop from line) k 0 below
      ∙ get_or-drop from line k 0)

  -- no byte from `from` up to the first tab is a tab
  clear_front : NoTab line from (from + prefix_len (λ byte. not (byte == 9)) (take (to - from) (drop from line)))
  clear_front k above below =
      let bytes = take (to - from) (drop from line) in
      grind (
        arith,
        nat_tests,
        size,
        (prefix_len-le-length (λ byte. not (byte == 9)) bytes),
        (byte_at (k - from)),
        (prefix_len_passes (λ byte. not (byte == 9)) bytes (k - from) 0),
      )

  -- if a bit is set, `next_tab` is the first tab between `from` and `to`
  first_tab : to ≤ from + 64 → 0 < tabs_in line from to → FirstTab line from to (next_tab line from to)
  first_tab few some =
      let bytes = take (to - from) (drop from line) in
      let counted : count_trailing_zeros 64 (tabs_in line from to)
      ≡ prefix_len (λ (byte : ℕ). not (byte == 9)) bytes =
      trailing_mask_l (λ byte. byte == 9) 64 bytes (omega (arith, size)) some in
      rw counted (record {
        before = omega (arith, size, some_tab bytes some);
        in_line = omega (arith, size, some_tab bytes some);
        clear = clear_front;
        is = grind (
          arith,
          nat_tests,
          size,
          (some_tab bytes some),
          (byte_at (prefix_len (λ (byte : ℕ). not (byte == 9)) bytes)),
          (prefix_len_stops (λ (byte : ℕ). not (byte == 9)) bytes 0 (some_tab bytes some)),
        );
      })

  -- if no bit is set, no byte between `from` and `to` is a tab
  no_tab : tabs_in line from to ≡ 0 → NoTab line from (min to (length line))
  no_tab none k above below =
      clear_front k above (omega (
        arith,
        size,
        leading_from_mask_l (λ byte. byte == 9)
            (take (to - from) (drop from line)) none,
      ))

-- if there is no tab between `from` and `place`, and no bit is set for the bytes between `place` and `to`, there is
-- no tab between `from` and `to`
none_after : (line : List ℕ) (from place to : ℕ) → NoTab line from place → tabs_in line place to ≡ 0
    → NoTab line from to
none_after line from place to before none = grind (arith, cases_lt, get_or_past, no_tab, inl, inr)

-- ---- the parts of a line from a place on, up to the next tab or the end
module _ (line : List ℕ) where
  -- a tab at `at` ends the part from `start` on, and the other parts begin after it
  next_part : (start at : ℕ) → start ≤ at → at < length line → NoTab line start at → eqb (get_or line at 0) 9 ≡ true
      → parts_from line start ≡ take (at - start) (drop start line) ∷ parts_from line (at + 1)
  next_part start at le in_line clear is =
      let count = at - start in
      grind (
        arith,
        (parts_cut 9 (drop start line) count),
        (length-drop start line),
        (get_or-drop start line),
        clear,
        is,
        (drop-drop (count + 1) start line),
      )

  -- if there is no tab from `start` on, the parts of the line from `start` on are one part: the bytes from `start`
  -- to the end
  pub last_part : (start : ℕ) → start ≤ length line → NoTab line start (length line)
      → parts_from line start ≡ take (length line - start) (drop start line) ∷ []
  last_part start le clear =
      grind (
        arith,
        (slice_split_none (λ byte. byte == 9) (drop start line)),
        (All-from_get_or (λ byte. (byte == 9) ≡ false) (drop start line) 0),
        (get_or-drop start line),
        clear,
        (length-drop start line),
        (take_rest line start),
      )

-- how many bytes come before the first tab
abbrev gap : List ℕ → ℕ
gap bytes = prefix_len (λ byte. not (byte == 9)) bytes

-- the lowest bit of some bytes is that of the first tab, and above it are the bits of the bytes after this tab
split_first : (bytes : List ℕ) → 0 < tab_bits bytes
    → tab_bits bytes ≡ lowest_is (gap bytes) (tab_bits (drop (suc (gap bytes)) bytes))
split_first [] some = absurd (omega arith)
split_first (byte ∷ bytes) some = split (split_first bytes) (eqb byte 9) some
  where
    split : (0 < tab_bits bytes → tab_bits bytes ≡ lowest_is (gap bytes) (tab_bits (drop (suc (gap bytes)) bytes)))
        → (is_tab : Bool) → 0 < cond is_tab 1 0 + 2 * tab_bits bytes
        → cond is_tab 1 0 + 2 * tab_bits bytes ≡ lowest_is (cond (not is_tab) (1 + gap bytes) 0)
        (tab_bits (drop (suc (cond (not is_tab) (1 + gap bytes) 0)) (byte ∷ bytes)))
    split following true some = omega arith
    split following false some =
        let next : suc (gap bytes) ≡ 1 + gap bytes = omega arith in
        let twice : 0 + 2 * tab_bits bytes ≡ 2 * tab_bits bytes = omega arith in
        twice ∙ ap (λ n. 2 * n) (following (omega arith))
        ∙ sym (lowest_doubled (gap bytes) (tab_bits (drop (suc (gap bytes)) bytes)))
        ∙ ap (λ n. lowest_is n (tab_bits (drop n bytes))) next

module _ (line : List ℕ) (from start to : ℕ) (few : to ≤ from + 64) where
  -- how many of the bytes from `from` on are before `start`
  abbrev passed : ℕ
  passed = start - from

  -- the tabs that are left
  abbrev left : ℕ
  left = tabs_in line (from + passed) to

  -- how many bytes come before the next tab
  abbrev ahead : ℕ
  ahead = count_trailing_zeros 64 left

  -- the lowest bit of the tabs that are left is that of the next one, and above it are the bits of those after it
  left_split : 0 < left → left ≡ lowest_is ahead (tabs_in line (from + passed + (ahead + 1)) to)
  left_split some =
      let bytes : List ℕ = take (to - (from + passed)) (drop (from + passed) line) in
      let counted : ahead ≡ gap bytes =
      trailing_mask_l (λ byte. byte == 9) 64 bytes (omega (arith, size line (from + passed) to)) some in
      let tab = first_tab line (from + passed) to (omega arith) some in
      let next : suc ahead ≡ ahead + 1 = omega arith in
      let above : tab_bits (drop (suc ahead) bytes) ≡ tabs_in line (from + passed + (ahead + 1)) to =
      ap (λ n. tab_bits (drop n bytes)) next ∙ sym (tab_bits-shifted (ahead + 1) bytes)
      ∙ tabs_in-shifted line (from + passed) to (ahead + 1) (omega (arith, tab.before)) in
      split_first bytes some ∙ ap (λ c. lowest_is c (tab_bits (drop (suc c) bytes))) (sym counted)
      ∙ ap (lowest_is ahead) above

  -- the bits that are left have their lowest bit at the place of the next tab, counted from `from` on
  bits_split : 0 < left → tabs_left line from start to
      ≡ lowest_is (ahead + passed) (tabs_in line (from + passed + (ahead + 1)) to)
  unfolding tabs_left
  bits_split some =
      ap (λ n. n * 2 ^ passed) (left_split some)
      ∙ lowest_moved ahead (tabs_in line (from + passed + (ahead + 1)) to) passed

  -- if bits are left, tabs are left
  tabs_there : 0 < tabs_left line from start to → 0 < left
  unfolding tabs_left
  tabs_there some = elim (cases_lt 0 left) [
    | inl some_left ↦ some_left
    | inr none ↦
        let none_left : left ≡ 0 = omega arith in
        absurd (omega (arith, ap (λ n. n * 2 ^ passed) none_left, zero-mul (2 ^ passed)))
  ]

  -- the count of trailing zeros of the bits that are left is how many bytes come before the next tab
  zeros_left : 0 < left → count_trailing_zeros 64 (tabs_left line from start to) ≡ ahead + passed
  zeros_left some =
      let tab = first_tab line (from + passed) to (omega arith) some in
      ap (count_trailing_zeros 64) (bits_split some)
      ∙ trailing_lowest 64 (ahead + passed) (tabs_in line (from + passed + (ahead + 1)) to)
      (omega (arith, tab.before))

  -- without their lowest bit, the bits that are left are those of the tabs after the next one
  bits_after : 0 < left → bit_and (tabs_left line from start to) (tabs_left line from start to - 1)
      ≡ tabs_left line from (from + (ahead + passed) + 1) to
  unfolding tabs_left
  bits_after some =
      let passed_next : from + (ahead + passed) + 1 - from ≡ ahead + passed + 1 = omega arith in
      let place_next : from + passed + (ahead + 1) ≡ from + (ahead + passed + 1) = omega arith in
      ap (λ n. bit_and n (n - 1)) (bits_split some)
      ∙ lowest_dropped (ahead + passed) (tabs_in line (from + passed + (ahead + 1)) to)
      ∙ ap (λ place. tabs_in line place to * 2 ^ (ahead + passed + 1)) place_next
      ∙ ap (λ count. tabs_in line (from + count) to * 2 ^ count) (sym passed_next)

-- the place of the next tab that is left
abbrev next_left : List ℕ → ℕ → ℕ → ℕ → ℕ
next_left line from start to = from + count_trailing_zeros 64 (tabs_left line from start to)

-- if a bit is left, the lowest one is that of the next tab, which is before `to` and in the line, not before `start`;
-- without it, the bits are those of the tabs after it, which are fewer
pub lowest_tab : (line : List ℕ) (from start to : ℕ) → to ≤ from + 64 → 0 < tabs_left line from start to
    → (start ≤ next_left line from start to) × (next_left line from start to < to)
    × (next_left line from start to < length line)
    × (bit_and (tabs_left line from start to) (tabs_left line from start to - 1)
    ≡ tabs_left line from (next_left line from start to + 1) to)
lowest_tab line from start to few some =
    let there = tabs_there line from start to few some in
    let zeros = zeros_left line from start to few there in
    let tab = first_tab line (from + (start - from)) to (omega arith) there in (
      omega (arith, zeros),
      omega (arith, zeros, tab.before),
      omega (arith, zeros, tab.in_line),
      bits_after line from start to few there
          ∙ ap (λ count. tabs_left line from (from + count + 1) to) (sym zeros),
    )

-- if there is no tab between `start` and `from`, the parts of a line from `start` on are the bytes up to the next
-- tab that is left, followed by the parts after this tab
pub next_field : (line : List ℕ) (start from to : ℕ) → NoTab line start (from + (start - from))
    → to ≤ from + 64 → 0 < tabs_left line from start to
    → take (next_left line from start to - start) (drop start line)
    ∷ parts_from line (next_left line from start to + 1) ≡ parts_from line start
next_field line start from to clear few some =
    let there = tabs_there line from start to few some in
    let place : ℕ = from + (start - from) in
    let tab = first_tab line place to (omega arith) there in
    let next : next_left line from start to ≡ next_tab line place to =
    omega (arith, zeros_left line from start to few there) in
    ap (λ at. take (at - start) (drop start line) ∷ parts_from line (at + 1)) next
    ∙ sym (next_part line start (next_tab line place to) (omega arith) tab.in_line
    (λ k above below. elim (cases_lt k place) [
      | inl lt ↦ clear k above lt
      | inr ge ↦ tab.clear k ge below
    ]) tab.is)

-- before the first of the 64 bytes, all their tabs are left
pub all_left : (line : List ℕ) (from start to : ℕ) → start ≤ from
    → tabs_left line from start to ≡ tabs_in line from to
unfolding tabs_left
all_left line from start to ahead =
    let none : start - from ≡ 0 = omega arith in
    let here : from + 0 ≡ from = omega arith in
    ap (λ count. tabs_in line (from + count) to * 2 ^ count) none
    ∙ ap (λ place. tabs_in line place to * 1) here ∙ mul-one (tabs_in line from to)

-- if there is no tab between `start` and `from`, and no bit is left, there is no tab between `start` and `to`
pub none_left : (line : List ℕ) (from start to : ℕ) → NoTab line start (from + (start - from))
    → tabs_left line from start to ≡ 0
    → NoTab line start to
unfolding tabs_left
none_left line from start to clear none =
    none_after line start (from + (start - from)) to clear (product_none (tabs_in line (from + (start - from)) to) none)
  where
    product_none : (tabs : ℕ) → tabs * 2 ^ (start - from) ≡ 0 → tabs ≡ 0
    product_none zero none = refl
    product_none (suc tabs) none = absurd (omega (arith, one-le-pow (start - from) 2 (omega arith)))

-- rules for `grind` for the tabs of the next 64 bytes of a line
pub ruleset shifts = (tab_bits-shifted, tabs_in-last, tabs_in-past)
