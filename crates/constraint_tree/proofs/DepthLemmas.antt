-- The depth of a list of trees to which trees are appended.
use Rattle.std.proofs.Common.{ℕ, ◌≡◌, List, [], ◌∷◌, ◌++◌, ◌+◌, ◌<◌, max, min, length, get_or, take, arith}
use Rattle.std.proofs.lemmas.List.{take_more}

-- `deepest` is 0 for the empty list, and for a part in front of a list it is the greater of the part's depth and the
-- list's.
module _ {Part : Type 0} (depth : Part → ℕ) (deepest : List Part → ℕ) (none : deepest [] ≡ 0)
    (in_front : (part : Part) (parts : List Part) → deepest (part ∷ parts) ≡ max (depth part) (deepest parts)) where
  -- `deepest` of a list with one more part at its end is the greater of the list's and the part's depth
  deepest-push : (parts : List Part) (part : Part) → deepest (parts ++ part ∷ []) ≡ max (deepest parts) (depth part)
  deepest-push [] part = omega (arith, none, in_front part [])
  deepest-push (first ∷ rest) part =
      omega (arith, deepest-push rest part, in_front first rest, in_front first (rest ++ part ∷ []))

  -- loop step: if `so_far` is the depth of the deepest of the first `i` parts and `next` the depth of part `i`, the
  -- greater of the two is the depth of the deepest of the first `i + 1` parts, each cut off at `limit`
  pub deepest_more : (parts : List Part) (i : ℕ) (part : Part) (so_far next limit : ℕ) → i < length parts
      → part ≡ get_or parts i part
      → so_far ≡ min (deepest (take i parts)) limit → next ≡ min (depth part) limit
      → max so_far next ≡ min (deepest (take (i + 1) parts)) limit
  deepest_more parts i part so_far next limit within is so_far_is next_is =
      rw (take_more parts i part within, ← is) (omega (arith, deepest-push (take i parts) part))
