-- Bitmaps: words of 64 bits, with a bit for each number.
use Rattle.std.specs.Prelude.{ℕ, Bool, false, List, ◌==◌, ◌≡◌, ◌≤◌, ◌+◌, ◌-◌, ◌/◌, ◌%◌, length, slice_index, bit_and}
use Rattle.std.specs.Prelude.{bit_xor, filter}
use Rattle.std.specs.Int.{bit_at}
use Rattle.std.specs.List.{range_with_len}

-- whether the bit of a number is set in the bitmap `words`
abbrev pub is_set : List ℕ → ℕ → Bool
is_set words number = bit_at (slice_index words (number / 64)) (number % 64) == 1

-- how many words have a bit for each number below `bound`
abbrev pub words_for : ℕ → ℕ
words_for bound = (bound + 63) / 64

-- `words` is a bitmap of numbers below `bound`: it has as many words as `bound` takes, and no bit
-- from `bound` on is set
pub record AreWordsBelow (bound : ℕ) (words : List ℕ) : Type 0 where
  -- there are as many words as `bound` takes
  pub enough : length words ≡ words_for bound
  -- no bit from `bound` on is set
  pub clear : (number : ℕ) → bound ≤ number → is_set words number ≡ false

-- the word of the bits that are set in `one` and not in `other`
abbrev pub bit_minus : ℕ → ℕ → ℕ
bit_minus one other = bit_and one (bit_xor one other)

-- the numbers whose bits are set in `word`, whose lowest bit stands for the number `first`
unfoldable pub numbers_in : ℕ → ℕ → List ℕ
numbers_in first word = filter (λ number. bit_at word (number - first) == 1)
    (range_with_len first 64)

-- `words` is a bitmap of numbers below `bound`, and its bits are set for exactly the numbers that
-- pass `test`
pub record MarkedBelow (bound : ℕ) (words : List ℕ) (test : ℕ → Bool) : Type 0 where
  -- `words` is a bitmap of numbers below `bound`
  pub below : AreWordsBelow bound words
  -- the bit of a number is set exactly if the number passes `test`
  pub marked : (number : ℕ) → is_set words number ≡ test number
