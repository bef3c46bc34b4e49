-- The lines of a file (Release File Specification, "File format": UTF-8 text with one row to a
-- line). Besides the standard's CR LF, LF alone and a last line without an end are accepted.
use Rattle.std.specs.Prelude.{◌≡◌, ◌≢◌, ◌↔◌, ℕ, ◌+◌, if◌then◌else◌, ◌==◌, List, [], ◌∷◌, ◌++◌, length, take, drop}
use Rattle.std.specs.Prelude.{bytes_eq, All}
use Rattle.std.specs.List.{onto_first, concat}
use Rattle.std.specs.Io.BufRead.{strip_last}
use Rattle.release_files.specs.declared.lines.Line.{Line}

-- the byte LF, which ends a line
abbrev pub line_feed : ℕ
line_feed = 10

-- the byte CR, which may stand before LF
abbrev pub carriage_return : ℕ
carriage_return = 13

-- the byte order mark in UTF-8
abbrev pub byte_order_mark : List ℕ
byte_order_mark = 239 ∷ 187 ∷ 191 ∷ []

-- a line of a file
pub record LineText : Type 0 where
  -- the number of the line in the file, from 1
  pub number : ℕ
  -- the offset after the line and its end
  pub end : ℕ
  -- the bytes of the line without its end
  pub bytes : List ℕ

-- the line that a `Line` of the program describes
abbrev pub line_text : Line → LineText
line_text line = record { number = line.number; end = line.end; bytes = line.bytes.now }

-- the length of the byte order mark at the front of a file, or 0 if it has none
abbrev pub mark_length : List ℕ → ℕ
mark_length bytes =
    if bytes_eq (take (length byte_order_mark) bytes) byte_order_mark then length byte_order_mark
    else 0

-- the parts of a text, each with the line feed that ends it; bytes after the last line feed are one
-- more part, unless there are none
abbrev pub parts : List ℕ → List (List ℕ)
parts [] = []
parts (byte ∷ bytes) = if byte == line_feed then (byte ∷ []) ∷ parts bytes else onto_first byte
    (parts bytes)

-- the text of a part: without its line feed, and then without one carriage return at its end
abbrev pub part_text : List ℕ → List ℕ
part_text part = strip_last carriage_return (strip_last line_feed part)

-- the lines of a file that is cut into parts, if `number` lines come before the parts and end at
-- the offset `end`
abbrev pub numbered : ℕ → ℕ → List (List ℕ) → List LineText
numbered number end [] = []
numbered number end (part ∷ parts) =
    record { number = number + 1; end = end + length part; bytes = part_text part }
    ∷ numbered (number + 1) (end + length part) parts

-- all lines of a file; a byte order mark at its front is dropped
unfoldable pub lines_of : List ℕ → List LineText
lines_of bytes = numbered 0 (mark_length bytes) (parts (drop (mark_length bytes) bytes))

-- none of the bytes is a line feed
abbrev pub HasNoFeed : List ℕ → Type 0
HasNoFeed bytes = All (λ byte. byte ≢ line_feed) bytes

-- a text that is cut into lines: each part has a line feed at its end and no other; the last one
-- may lack its line feed, but has at least one byte
pub data AreLines : List (List ℕ) → Type 0 where
  no_more : AreLines []
  unended : (byte : ℕ) (bytes : List ℕ) → HasNoFeed (byte ∷ bytes) → AreLines ((byte ∷ bytes) ∷ [])
  ended : (bytes : List ℕ) (others : List (List ℕ)) → HasNoFeed bytes → AreLines others
      → AreLines ((bytes ++ line_feed ∷ []) ∷ others)

-- `parts bytes` is the only way to cut `bytes` into lines
abbrev pub PartsAreLines : List ℕ → Type 0
PartsAreLines bytes = (cut : List (List ℕ))
    → (AreLines cut × (concat cut ≡ bytes)) ↔ (cut ≡ parts bytes)
