-- The starts of the fields of a line: what a further start adds to them, and which ones the tabs among 64 bytes add.
use Rattle.std.proofs.Common.{◌≡◌, ℕ, ◌+◌, ◌-◌, ◌<◌, ◌≤◌, ◌==◌, List, [], ◌∷◌, ◌++◌, length, get_or, set, take, drop}
use Rattle.std.proofs.Common.{sym, ap, ◌∙◌, arith, subst, append_assoc, length-append, length-set, inl, inr}
use Rattle.std.proofs.lemmas.Bool.{cases_lt}
use Rattle.std.proofs.lemmas.List.{get_or-set_same, get_or-set_other}
use Rattle.std.proofs.lemmas.List.FromFn.{fill_by_all, get_or-map-range_with_len, length-map-range_with_len}
use Rattle.std.proofs.lemmas.List.FromFn.{map-range_with_len_more}
use Rattle.std.proofs.lemmas.List.Splits.{length-slice_split}
use Rattle.std.specs.Int.Bits.{bit_and}
use Rattle.std.specs.Int.Count.{count_trailing_zeros}
use Rattle.text_parts.specs.Parts.{parts_at}
use Rattle.rf2_rows.specs.Rows.{fields_of}
use Rattle.rf2_rows.specs.inside.Starts.{AreStarts, IsCut, IsCutAmong, IsCutUpTo, field_at, fields_at, start_at}
use Rattle.rf2_rows.specs.inside.Tabs.{parts_from, tabs_in, tabs_left}
use Rattle.rf2_rows.proofs.TabBits.{all_left, last_part, lowest_tab, next_field, none_left}

-- `count` fields of a line are `count` texts
pub length-fields_at : (line starts : List ℕ) (count : ℕ) → length (fields_at line starts count) ≡ count
length-fields_at line starts count = length-map-range_with_len (field_at line starts) 0 count

-- the text at a place of the fields of a line is that of the field at this place
pub get_or-fields_at : (line starts : List ℕ) (count index : ℕ) → index < count
    → get_or (fields_at line starts count) index [] ≡ field_at line starts index
get_or-fields_at line starts count index below =
    get_or-map-range_with_len (field_at line starts) 0 count index index [] below (omega arith)

-- the starts of `count` fields and the one after them, with one more, `next`
abbrev more_starts : List ℕ → ℕ → ℕ → List ℕ
more_starts starts count next = set starts (count + 1) next

module _ (line starts : List ℕ) (count next : ℕ) (room : count + 1 < length starts) where
  -- the starts with one more
  abbrev more : List ℕ
  more = more_starts starts count next

  -- the last start is `next`
  last_start : start_at more (count + 1) ≡ next
  last_start = get_or-set_same starts (count + 1) next 0 room

  -- the start of each of the first `count` fields stays the same, and so does the one after them
  same_start : (k : ℕ) → k ≤ count → start_at more k ≡ start_at starts k
  same_start k le = get_or-set_other starts (count + 1) k next 0 (λ is. absurd (omega (arith, is)))

  -- each of the first `count` fields stays the same
  same_field : (k : ℕ) → k < count → field_at line more k ≡ field_at line starts k
  same_field k lt =
      (λ i. take (same_start (k + 1) (omega arith) i - 1 - same_start k (omega arith) i)
      (drop (same_start k (omega arith) i) line))

  -- the list of the first `count` fields stays the same
  same_fields : fields_at line more count ≡ fields_at line starts count
  same_fields =
      fill_by_all (field_at line starts) (fields_at line more count) count []
      (length-fields_at line more count)
      (λ k below. get_or-fields_at line more count k below ∙ same_field k below)

  -- a further start adds the field that ends before it
  fields_more : fields_at line more (count + 1)
      ≡ fields_at line starts count
      ++ take (next - 1 - start_at starts count) (drop (start_at starts count) line) ∷ []
  fields_more =
      map-range_with_len_more (field_at line more) 0 count count (omega arith)
      ∙ (λ i. same_fields i ++ take (last_start i - 1 - same_start count (omega arith) i)
      (drop (same_start count (omega arith) i) line) ∷ [])

  -- if the further start is after the one before and within the line, the fields still follow one another
  starts_more : AreStarts line starts count → start_at starts count < next → next ≤ length line + 1
      → AreStarts line more (count + 1)
  starts_more are rises within k below = elim (cases_lt k count) [
    | inl before ↦
        let is = are k before in
        let here = same_start k (omega arith) in
        let after = same_start (k + 1) (omega arith) in
        (omega (arith, is.0), omega (arith, is.1))
    | inr last ↦
        let same : k ≡ count = omega arith in
        subst (λ n. (start_at more n < start_at more (n + 1)) × (start_at more (n + 1) ≤ length line + 1))
        (sym same)
        (omega (arith, last_start, same_start count (omega arith)), omega (arith, last_start))
  ]

-- a line of which 10 fields are cut has more than 10
pub too_many : (line starts : List ℕ) (count : ℕ) → IsCut line starts count → 10 ≤ count
    → 10 < length (fields_of line)
too_many line starts count cut full =
    let rest = drop (start_at starts count) line in
    omega (
      arith,
      ap length (sym cut.all),
      length-append (fields_at line starts count) (parts_at 9 rest),
      length-fields_at line starts count,
      length-slice_split (λ byte. byte == 9) rest,
    )

module _ (line starts : List ℕ) (count at : ℕ) (cut : IsCut line starts count) (few : count < 10)
    (after : start_at starts count ≤ at) (in_line : at ≤ length line) where
  -- the starts with one more, after a field that ends at `at`
  abbrev ended : List ℕ
  ended = more_starts starts count (at + 1)

  -- there is room for a further start
  fits : count + 1 < length starts
  fits = omega (arith, cut.room)

  -- the fields are then those before and the one that ends at `at`
  fields_ended : fields_at line ended (count + 1)
      ≡ fields_at line starts count ++ take (at - start_at starts count) (drop (start_at starts count) line) ∷ []
  fields_ended =
      fields_more line starts count (at + 1) fits
      ∙ ap (λ end. fields_at line starts count ++ take (end - start_at starts count)
      (drop (start_at starts count) line) ∷ []) (omega arith)

  -- the field that ends at `at` lies within the line, as those before it do
  starts_ended : AreStarts line ended (count + 1)
  starts_ended = starts_more line starts count (at + 1) fits cut.within (omega arith) (omega arith)

  -- if a tab ends the field, one field more is cut
  cut_ended : at < length line
      → take (at - start_at starts count) (drop (start_at starts count) line) ∷ parts_from line (at + 1)
      ≡ parts_from line (start_at starts count)
      → IsCut line ended (count + 1)
  cut_ended more is =
      let last : start_at ended (count + 1) ≡ at + 1 = last_start line starts count (at + 1) fits in
      record {
        room = length-set starts (count + 1) (at + 1) ∙ cut.room;
        few = omega arith;
        within = starts_ended;
        in_line = omega (arith, last);
        all = (λ i. fields_ended i ++ parts_from line (last i))
            ∙ append_assoc (fields_at line starts count)
            (take (at - start_at starts count) (drop (start_at starts count) line) ∷ []) (parts_from line (at + 1))
            ∙ ap (λ parts. fields_at line starts count ++ parts) is ∙ cut.all;
      }

-- before the first of the 64 bytes from `from` on, all their tabs are left
pub among_first : (line starts : List ℕ) (count from : ℕ) → IsCutUpTo line starts count from
    → IsCutAmong line starts count from (tabs_in line from (from + 64))
among_first line starts count from up =
    let start = start_at starts count in
    record {
      cut = up.cut;
      before = omega (arith, up.before);
      clear = λ k above below. up.clear k above (omega (arith, up.before));
      bits = sym (all_left line from start (from + 64) up.before);
    }

-- if no bit is left, the next field does not end before the end of the 64 bytes from `from` on
pub among_last : (line starts : List ℕ) (count from : ℕ) → IsCutAmong line starts count from 0
    → IsCutUpTo line starts count (from + 64)
among_last line starts count from among =
    record {
      cut = among.cut;
      before = among.before;
      clear = none_left line from (start_at starts count) (from + 64) among.clear (sym among.bits);
    }

module _ (line starts : List ℕ) (count from left : ℕ) (among : IsCutAmong line starts count from left)
    (few : count < 10) (some : 0 < left) where
  -- where the next field ends: at the tab of the lowest bit that is left
  abbrev end : ℕ
  end = from + count_trailing_zeros 64 left

  -- where the next field starts
  abbrev start : ℕ
  start = start_at starts count

  -- the lowest bit that is left is that of a tab in the line, not before `start`
  tab : (start ≤ end) × (end < from + 64) × (end < length line)
      × (bit_and left (left - 1) ≡ tabs_left line from (end + 1) (from + 64))
  tab =
      subst
      (λ bits. (start ≤ from + count_trailing_zeros 64 bits) × (from + count_trailing_zeros 64 bits < from + 64)
      × (from + count_trailing_zeros 64 bits < length line)
      × (bit_and bits (bits - 1) ≡ tabs_left line from (from + count_trailing_zeros 64 bits + 1) (from + 64)))
      (sym among.bits)
      (lowest_tab line from start (from + 64) (omega arith) (subst (λ bits. 0 < bits) among.bits some))

  -- the next start is one after this tab
  next_start : start_at (more_starts starts count (end + 1)) (count + 1) ≡ end + 1
  next_start = last_start line starts count (end + 1) (omega (arith, among.cut.room))

  -- the next start is after the one before, and not after the 64 bytes
  pub starts_rise : (start < start_at (more_starts starts count (end + 1)) (count + 1))
      × (start_at (more_starts starts count (end + 1)) (count + 1) ≤ from + 64)
  starts_rise = (omega (arith, next_start, tab.0), omega (arith, next_start, tab.1))

  -- without its lowest bit, `left` has the bits of the tabs that end the fields after the next one
  pub among_more : IsCutAmong line (more_starts starts count (end + 1)) (count + 1) from (bit_and left (left - 1))
  among_more =
      let there : 0 < tabs_left line from start (from + 64) = subst (λ bits. 0 < bits) among.bits some in
      let parts : take (end - start) (drop start line) ∷ parts_from line (end + 1) ≡ parts_from line start =
      ap (λ bits. take (from + count_trailing_zeros 64 bits - start) (drop start line)
      ∷ parts_from line (from + count_trailing_zeros 64 bits + 1)) among.bits
      ∙ next_field line start from (from + 64) among.clear (omega arith) there in
      record {
        cut = cut_ended line starts count end among.cut few tab.0 (omega (arith, tab.2)) tab.2 parts;
        before = starts_rise.1;
        clear = λ k above below. absurd (omega (arith, next_start, tab.0));
        bits = tab.3 ∙ ap (λ place. tabs_left line from place (from + 64)) (sym next_start);
      }

-- if no tab ends the next field up to the end of the line, the end of the line ends it, and it is the last one
pub line_ended : (line starts : List ℕ) (count to : ℕ) → IsCutUpTo line starts count to → length line ≤ to
    → count < 10
    → fields_at line (set starts (count + 1) (length line + 1)) (count + 1) ≡ fields_of line
line_ended line starts count to up past few =
    let start = start_at starts count in
    fields_ended line starts count (length line) up.cut few up.cut.in_line (omega arith)
    ∙ ap (λ parts. fields_at line starts count ++ parts)
    (sym (last_part line start up.cut.in_line (λ k above below. up.clear k above (omega arith))))
    ∙ up.cut.all

-- rules for `grind` for the fields that are kept by their starts
pub ruleset fields_kept = (length-fields_at, get_or-fields_at)

-- rules for `grind` for the field that the end of the line ends
pub ruleset line_ends = (line_ended, too_many)

-- rules for `grind` for the fields that a tab among 64 bytes ends
pub ruleset tabs_end = (among_first, among_last, too_many)
