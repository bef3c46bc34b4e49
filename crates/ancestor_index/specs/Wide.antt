-- Long lists, which are also kept as bitmaps: words of 64 bits with a bit for each concept.
use Rattle.std.specs.Prelude.{ℕ, ◌≡◌, ◌⊎◌, ◌*◌, ◌-◌, ◌≤◌, ◌<◌, List, length, slice_index, slice_range}
use Rattle.number_lists.specs.Members.{has}
use Rattle.idset.specs.Words.{MarkedBelow, words_for}
use Rattle.number_lists.specs.KeyedLists.{list_of}

-- a list is long: it has more than a 32nd of all `count` concepts
abbrev pub IsWide : ℕ → List ℕ → Type 0
IsWide count list = count < 32 * length list

-- `words` is the bitmap of `list`: bit `n` is set exactly if the list has the number `n`
abbrev pub AreWordsOf : ℕ → List ℕ → List ℕ → Type 0
AreWordsOf count list words = MarkedBelow count words (has list)

-- the bitmap of a long list is in `words` and ends at the place `end`; for a short list `end` is 0
abbrev pub IsKept : ℕ → List ℕ → List ℕ → ℕ → Type 0
IsKept count list words end =
    ((end ≡ 0) × (32 * length list ≤ count))
    ⊎ ((0 < end) × IsWide count list × (words_for count ≤ end) × (end ≤ length words)
    × AreWordsOf count list (slice_range words (end - words_for count) end))

-- `words` has the bitmaps of the long lists, and `ends` says for each list where its bitmap ends
pub record AreWide (count : ℕ) (lists : List (List ℕ)) (ends words : List ℕ) : Type 0 where
  -- there is one end for each list
  pub len : length ends ≡ length lists
  -- the bitmap of each list that is long ends in `words` where `ends` says, and `ends` says 0 for a
  -- short list
  pub kept : (concept : ℕ) → concept < length lists
      → IsKept count (list_of lists concept) words (slice_index ends concept)
