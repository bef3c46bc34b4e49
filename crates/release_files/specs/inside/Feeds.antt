-- The first line feed of a text, and the line feeds of a block as bits.
use Rattle.std.specs.Prelude.{ℕ, ◌≡◌, ◌<◌, ◌==◌, true, List, Option, MatchOption, length, map, slice_index}
use Rattle.std.specs.Simd.Lanes.{mask_l}
use Rattle.release_files.specs.Lines.{line_feed}

-- none of the first `place` bytes is a line feed
abbrev pub NoFeedBefore : List ℕ → ℕ → Type 0
NoFeedBefore bytes place = (k : ℕ) → k < place → ¬ ((slice_index bytes k == line_feed) ≡ true)

-- `found` is the index of the first line feed, or `None` if there is none
abbrev pub IsFirstFeed : List ℕ → Option ℕ → Type 0
IsFirstFeed bytes found =
    MatchOption found (NoFeedBefore bytes (length bytes))
    (λ at. (at < length bytes) × NoFeedBefore bytes at
    × ((slice_index bytes at == line_feed) ≡ true))

-- one bit for each byte, which is set for a line feed; the first byte has the lowest bit
abbrev pub feed_bits : List ℕ → ℕ
feed_bits bytes = mask_l (map (λ byte. byte == line_feed) bytes)
