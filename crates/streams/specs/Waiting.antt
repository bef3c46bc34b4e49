-- Bytes that wait in a buffer until they are written, and what was written of an answer if a fault
-- ends it.
use Rattle.std.specs.Prelude.{◌≡◌, ℕ, ◌<◌, ◌++◌, Bool, true, false, List, Option, length, take}
use Rattle.std.specs.Io.KnownBytes.{Appends}
use Rattle.streams.specs.declared.fault.AnswerFault.{AnswerFault}
use Rattle.streams.specs.declared.fault.AnswerFault.TheVariants.{Memory, Write}

-- `bytes` were appended to a buffer with the bytes `waited`: the first of all these bytes were
-- written, and the others wait
pub record Puts (before after : Option (List ℕ)) (waited bytes waits : List ℕ) : Type 0 where
  -- the bytes that were written now
  pub front : List ℕ
  -- they were written after what the output had
  pub written : Appends before after front
  -- the written bytes, followed by those that wait now, are the bytes that waited, followed by the
  -- new ones
  pub whole : front ++ waits ≡ waited ++ bytes

-- the first bytes of `bytes` were written, but not all
abbrev pub WritesFront : Option (List ℕ) → Option (List ℕ) → List ℕ → Type 0
WritesFront before after bytes =
    (place : ℕ) × (place < length bytes) × Appends before after (take place bytes)

-- the state after a fault ended an answer: after `Memory` all is as it was; after `Write` only the
-- first of the bytes that waited and of an answer were written, and not all
abbrev pub LeavesAnswer : (List ℕ → Type 0) → AnswerFault → Option (List ℕ) → Option (List ℕ)
    → List ℕ → List ℕ → Type 0
LeavesAnswer IsAnswer Memory before after waited waits = (after ≡ before) × (waits ≡ waited)
LeavesAnswer IsAnswer Write before after waited waits =
    (text : List ℕ) × IsAnswer text × WritesFront before after (waited ++ text)

-- whether the output has failed
abbrev pub is_write : AnswerFault → Bool
is_write Memory = false
is_write Write = true
