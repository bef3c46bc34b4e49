-- The tabs of a line as bits, and the parts of a line from a place on.
use Rattle.std.specs.Prelude.{◌≡◌, ℕ, ◌+◌, ◌-◌, ◌*◌, ◌^◌, ◌<◌, ◌≤◌, ◌==◌, false, List, map, take, drop, slice_index_or}
use Rattle.std.specs.Simd.Lanes.{mask_l}
use Rattle.rf2_rows.specs.Columns.{tab}
use Rattle.text_parts.specs.Parts.{parts_at}

-- the tabs among `bytes` as bits, one to a byte; the first byte has the lowest bit
abbrev pub tab_bits : List ℕ → ℕ
tab_bits bytes = mask_l (map (λ byte. byte == tab) bytes)

-- the tabs of a line from place `from` on and before `to`, as bits, that of `from` the lowest
abbrev pub tabs_in : List ℕ → ℕ → ℕ → ℕ
tabs_in line from to = tab_bits (take (to - from) (drop from line))

-- the tabs of a line from place `start` on and before `to`, as bits, that of `from` the lowest
unfoldable pub tabs_left : List ℕ → ℕ → ℕ → ℕ → ℕ
tabs_left line from start to = tabs_in line (from + (start - from)) to * 2 ^ (start - from)

-- the fields of a line from the place `start` on: the parts between its tabs
abbrev pub parts_from : List ℕ → ℕ → List (List ℕ)
parts_from line start = parts_at tab (drop start line)

-- no byte of a line from place `from` on and before `to` is a tab
abbrev pub NoTab : List ℕ → ℕ → ℕ → Type 0
NoTab line from to = (k : ℕ) → from ≤ k → k < to → (slice_index_or line k 0 == tab) ≡ false
