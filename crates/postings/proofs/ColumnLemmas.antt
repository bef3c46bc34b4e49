-- Columns next to lists of places.
use Rattle.std.proofs.Common.{ℕ, zero, suc, ◌+◌, ◌==◌, ◌<◌, List, All, length, map, arith}
use Rattle.std.specs.List.{concat, range_with_len}
use Rattle.std.proofs.lemmas.List.Elements.{All-append}
use Rattle.postings.specs.Places.{places_by, places_where}
use Rattle.postings.proofs.PlaceLemmas.{places_where-within}

-- ---- the places of all keys
all_of_range : (P : ℕ → Type 0) (lists : ℕ → List ℕ) (from n : ℕ) → ((key : ℕ) → All P (lists key))
    → All P (concat (map lists (range_with_len from n)))
all_of_range P lists from zero each = λ k d within. absurd (omega arith)
all_of_range P lists from (suc n) each =
    All-append P (lists from) (concat (map lists (range_with_len (from + 1) n))) (each from)
    (all_of_range P lists (from + 1) n each)

-- each place in the lists by key is below the length of `keys`
pub places_by-within : (count : ℕ) (keys : List ℕ) → All (λ place. place < length keys) (concat (places_by count keys))
places_by-within count keys =
    all_of_range (λ place. place < length keys) (λ key. places_where (λ other. other == key) keys) 0 count
    (λ key. places_where-within (λ other. other == key) keys)
