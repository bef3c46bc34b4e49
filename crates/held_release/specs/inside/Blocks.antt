-- Blocks of identifiers, which speed up the lookup of a concept by its identifier.
use Rattle.std.specs.Prelude.{ℕ, ◌≡◌, ◌≤◌, ◌<◌, ◌+◌, ◌*◌, ◌/◌, ◌%◌, ◌^◌, List, Some, count_ones, length, slice_index}
use Rattle.std.specs.List.{slice_get}
use Rattle.held_release.specs.declared.concepts.BlockWord.{BlockWord}

-- the block of an identifier: a thousand successive identifiers
unfoldable pub block_of : ℕ → ℕ
block_of id = id / 1000

-- `start` is the index at which a block starts among rising identifiers: `start` identifiers are
-- in the blocks before it
pub record IsBlockStart (ids : List ℕ) (block start : ℕ) : Type 0 where
  -- the block starts within the identifiers or at their end
  pub within : start ≤ length ids
  -- each identifier before `start` is in an earlier block
  pub before : (place : ℕ) → place < start → block_of (slice_index ids place) < block
  -- no identifier from `start` on is in an earlier block
  pub following : (place : ℕ) → start ≤ place → place < length ids
      → block ≤ block_of (slice_index ids place)

-- a block starts at the index `start`, and has one identifier at most
pub record IsCountedBlock (ids : List ℕ) (block start : ℕ) : Type 0 where
  -- the block starts there
  pub starts : IsBlockStart ids block start
  -- each identifier after the first of the block is in a later block
  pub alone : (place : ℕ) → start < place → place < length ids
      → block < block_of (slice_index ids place)

-- how many identifiers a word counts before the block with the bit `bit`
abbrev pub start_in : BlockWord → ℕ → ℕ
start_in word bit = word.before + count_ones (word.bits % 2 ^ bit)

-- `words` count the first blocks, and `counted` identifiers are in these blocks
pub record AreBlockWords (ids : List ℕ) (words : List BlockWord) (counted : ℕ) : Type 0 where
  -- each block starts where its word says, and has one identifier at most
  pub blocks : (at bit : ℕ) (word : BlockWord) → bit < 64 → slice_get words at ≡ Some word
      → IsCountedBlock ids (at * 64 + bit) (start_in word bit)
  -- the identifiers in these blocks are counted
  pub rest : IsBlockStart ids (length words * 64) counted
