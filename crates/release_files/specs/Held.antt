-- The buffer of a reader that reads a file in pieces.
use Rattle.std.specs.Prelude.{◌≡◌, ℕ, ◌<◌, ◌≤◌, ◌+◌, List, [], ◌∷◌, ◌++◌, length, max, take, drop, ⊤, Option, None}
use Rattle.std.specs.Prelude.{Some, option_map}
use Rattle.std.specs.Io.KnownBytes.{Consumes, IsAtEnd}
use Rattle.release_files.specs.Lines.{parts}
use Rattle.release_files.specs.Source.{History}

-- the bytes of its file that a reader has in its buffer
pub record HeldBytes : Type 0 where
  -- the bytes that were taken last: the current line
  pub taken : List ℕ
  -- the bytes that were read and not yet taken
  pub bytes : List ℕ
  -- how many bytes may still be read
  pub left : ℕ

-- the bytes that a reader may still read: at most `left` of the rest of the file
unfoldable pub reachable : ℕ → Option (List ℕ) → Option (List ℕ)
reachable left rest = option_map (λ (bytes : List ℕ). take left bytes) rest

-- the bytes in the buffer grew from `old` to `new` by the next `count` bytes of a file; `before`
-- and `after` are the rest of the file. `count` is 0 only at the end of the file.
pub record GrowsBy (before after : Option (List ℕ)) (old new : List ℕ) (count : ℕ) : Type 0 where
  -- the bytes that were read
  pub piece : List ℕ
  -- the bytes that were read follow those held before
  pub held : new ≡ old ++ piece
  -- the piece has `count` bytes
  pub counted : length piece ≡ count
  -- the piece was taken from the front of the file's rest
  pub consumed : Consumes before after piece
  -- if no byte was read, the file has ended
  pub end : count ≡ 0 → IsAtEnd after

-- `part` is a whole part: the first part of each text that begins with it
abbrev pub IsEndedPart : List ℕ → Type 0
IsEndedPart part = (rest : List ℕ) → parts (part ++ rest) ≡ part ∷ parts rest

-- no byte is lost: the bytes in the buffer (`old`, `new`), followed by the rest of the file
-- (`before`, `after`), are the same before and after
abbrev pub KeepsBytes : Option (List ℕ) → Option (List ℕ) → List ℕ → List ℕ → Type 0
KeepsBytes None after old new = ⊤
KeepsBytes (Some before) None old new = ⊥
KeepsBytes (Some before) (Some after) old new = old ++ before ≡ new ++ after

-- the first part of the buffer `held`, followed by the rest of the file, has `count` bytes, all in
-- the buffer; if `count` is 0, there is no part
abbrev pub BeginsWithPart : Option (List ℕ) → List ℕ → ℕ → Type 0
BeginsWithPart None held count = ⊤
BeginsWithPart (Some rest) held count =
    (count ≡ 0 → parts (held ++ rest) ≡ [])
    × (0 < count → parts (held ++ rest) ≡ take count held ∷ parts (drop count held ++ rest))

-- the number of bytes that may be read fell from `old` to `new`, or stayed; and if the source tells
-- the bytes of the file, no more of them were read than it fell by
abbrev pub TakesWithin : Option (List ℕ) → Option (List ℕ) → ℕ → ℕ → Type 0
TakesWithin None after old new = new ≤ old
TakesWithin (Some before) None old new = ⊥
TakesWithin (Some before) (Some after) old new =
    (new ≤ old) × (length before + new ≤ length after + old)

-- a source read on in its open file, whether or not it failed. It read at most `left - still`
-- bytes: the number that may be read fell from `left` to `still`. It opened no other file, and
-- listed none.
pub record ReadsOn (old new : History) (left still : ℕ) : Type 0 where
  -- the number of bytes that may be read did not grow
  pub less : still ≤ left
  -- at most `left - still` bytes were read
  pub taken : new.taken + still ≤ old.taken + left
  -- the greatest number of bytes read between two openings is at most what it was, or what may be
  -- read of this file
  pub most : new.most ≤ max old.most (old.taken + left)
  -- the file that was opened last is the same
  pub opened : new.opened ≡ old.opened
  -- the outcome of the last listing is the same
  pub unlisted : new.unlisted ≡ old.unlisted
