-- Finding the first line feed of a text, block by block.
use Rattle.std.proofs.Common.{ℕ, ◌≡◌, ◌+◌, ◌-◌, ◌<◌, ◌≤◌, ◌==◌, ◌∙◌, ⊎_elim, true, not, eqb, List, [], ◌∷◌, ap, arith}
use Rattle.std.proofs.Common.{drop, get_or, get_or-drop, length, length-drop, length-take, sym, take}
use Rattle.std.specs.Int.Count.{count_trailing_zeros}
use Rattle.std.specs.List.{prefix_len}
use Rattle.std.proofs.lemmas.Bool.{cases_lt, false≢true}
use Rattle.std.proofs.lemmas.Simd.{none_from_empty_mask, run_in_chunk_fails, run_in_chunk_stops, trailing_mask_l}
use Rattle.release_files.specs.inside.Feeds.{feed_bits}
use Rattle.release_files.proofs.Parts.{NoFeed}

-- if a bit of a block is set, the block has a line feed
some_feed : (bytes : List ℕ) → 0 < feed_bits bytes → prefix_len (λ byte. not (byte == 10)) bytes < length bytes
some_feed [] some = absurd (omega arith)
some_feed (byte ∷ bytes) some = grind (arith, some_feed bytes)

-- if no line feed is before `place` and the block of 64 bytes from `place` on has no bit set, no line feed is before
-- `place + 64`
pub block_clear : (bytes : List ℕ) (place : ℕ) → place + 64 ≤ length bytes → NoFeed bytes place
    → feed_bits (take 64 (drop place bytes)) ≡ 0
    → NoFeed bytes (place + 64)
block_clear bytes place room before none k below is = ⊎_elim
    (λ (earlier : k < place). before k earlier is)
    (λ (later : place ≤ k). false≢true (sym (none_from_empty_mask (λ byte. byte == 10) bytes place 64 0 room none k
    later below) ∙ is))
    (cases_lt k place)

-- the first line feed of `bytes` is at index `at`
pub record IsFeed (bytes : List ℕ) (at : ℕ) : Type 0 where
  -- the index is within the bytes
  pub within : at < length bytes
  -- no line feed is before the index
  pub before : NoFeed bytes at
  -- the byte at the index is a line feed
  pub is : eqb (get_or bytes at 0) 10 ≡ true

-- if no line feed is before `place` and the block of 64 bytes from `place` on has a bit set, the first line feed is at
-- `place` plus the index of the lowest set bit
pub block_feed : (bytes : List ℕ) (place lane : ℕ) → place + 64 ≤ length bytes → NoFeed bytes place
    → 0 < feed_bits (take 64 (drop place bytes))
    → lane ≡ count_trailing_zeros 64 (feed_bits (take 64 (drop place bytes))) → IsFeed bytes (place + lane)
block_feed bytes place lane room before some is =
    let block = take 64 (drop place bytes) in
    let size : length block ≡ 64 = omega (arith, room, length-take 64 (drop place bytes), length-drop place bytes) in
    let counted : lane ≡ prefix_len (λ byte. not (byte == 10)) block =
    is ∙ trailing_mask_l (λ byte. byte == 10) 64 block (omega (arith, size)) some in
    let near : lane < 64 = omega (arith, counted, some_feed block some, size) in
    record {
      within = omega (arith, room, near);
      before = λ k below told. ⊎_elim
          (λ (earlier : k < place). before k earlier told)
          (λ (later : place ≤ k). false≢true (sym
          (run_in_chunk_fails (λ byte. byte == 10) bytes place 64 lane 0 room counted k later below) ∙ told))
          (cases_lt k place);
      is = run_in_chunk_stops (λ byte. byte == 10) bytes place 64 lane 0 room counted near;
    }

-- if no line feed is before `place`, and none is among the next `at` bytes, none is before `place + at`
pub rest_clear : (bytes : List ℕ) (place at : ℕ) → NoFeed bytes place → NoFeed (drop place bytes) at
    → NoFeed bytes (place + at)
rest_clear bytes place at before none k below is = ⊎_elim
    (λ (earlier : k < place). before k earlier is)
    (λ (later : place ≤ k).
    let step : place + (k - place) ≡ k = omega (arith, later) in
    none (k - place) (omega (arith, below, later))
    (ap (λ (byte : ℕ). eqb byte 10) (get_or-drop place bytes (k - place) 0 ∙ (λ i. get_or bytes (step i) 0)) ∙ is))
    (cases_lt k place)

-- if no line feed is before `place`, the first one from `place` on is the first of all
pub rest_feed : (bytes : List ℕ) (place at : ℕ) → place ≤ length bytes → NoFeed bytes place
    → at < length (drop place bytes) → NoFeed (drop place bytes) at
    → eqb (get_or (drop place bytes) at 0) 10 ≡ true → IsFeed bytes (place + at)
rest_feed bytes place at within before near none is = record {
  within = omega (arith, near, within, length-drop place bytes);
  before = rest_clear bytes place at before none;
  is = ap (λ (byte : ℕ). eqb byte 10) (sym (get_or-drop place bytes at 0)) ∙ is;
}
