-- The lines of a file that is read in pieces (Release File Specification, "File format"). They are
-- the same as if the whole file were in memory.
use Rattle.std.specs.Prelude.{◌≡◌, ℕ, ◌+◌, ◌-◌, ◌^◌, min, List, [], ◌∷◌, ◌++◌, length, drop, ⊤, Option, None, Some}
use Rattle.std.specs.Prelude.{IfSome}
use Rattle.release_files.specs.declared.piece_lines.Stage.{Stage}
use Rattle.release_files.specs.declared.piece_lines.Stage.TheVariants.{Fresh, Begun, Ended}
use Rattle.release_files.specs.declared.piece_lines.PieceLines.{PieceLines}
use Rattle.release_files.specs.Lines.{LineText, mark_length, parts, part_text}

-- the sum of two counts, at most u64::MAX
abbrev pub counted : ℕ → ℕ → ℕ
counted count more = min (count + more) (2 ^ 64 - 1)

-- the lines of a file that is cut into parts, if `number` lines come before the parts and end at
-- the offset `end`; numbers and offsets stop at u64::MAX
abbrev pub counted_lines : ℕ → ℕ → List (List ℕ) → List LineText
counted_lines number end [] = []
counted_lines number end (part ∷ parts) =
    record { number = counted number 1; end = counted end (length part); bytes = part_text part }
    ∷ counted_lines (counted number 1) (counted end (length part)) parts

-- the lines of the bytes that were not cut yet; a byte order mark before the first line is dropped
abbrev pub lines_at : Stage → ℕ → ℕ → List ℕ → List LineText
lines_at Fresh number end bytes =
    counted_lines 0 (mark_length bytes) (parts (drop (mark_length bytes) bytes))
lines_at Begun number end bytes = counted_lines number end (parts bytes)
lines_at Ended number end bytes = []

-- the lines that are still to come: those of the bytes in the buffer, followed by `rest`, the rest
-- of the file
abbrev pub lines_to_come : PieceLines → List ℕ → List LineText
lines_to_come lines rest = lines_at lines.stage lines.number lines.end (lines.held.bytes ++ rest)

-- no line is to come any more, because the last one was given or a call failed
abbrev pub HasEnded : PieceLines → Type 0
HasEnded lines = lines.stage ≡ Ended

-- the lines to come are the same before and after a step; `before` and `after` are the rest of the
-- file
abbrev pub KeepsLines : PieceLines → PieceLines → Option (List ℕ) → Option (List ℕ) → Type 0
KeepsLines old new None after = ⊤
KeepsLines old new (Some before) None = ⊥
KeepsLines old new (Some before) (Some after) = lines_to_come old before ≡ lines_to_come new after

-- the line that was taken last
abbrev pub current_line : PieceLines → LineText
current_line lines = record {
  number = lines.number;
  end = lines.end;
  bytes = part_text lines.held.taken;
}

-- a call gave the next line: the first that was to come. It gave none only because none was to
-- come.
abbrev pub GivesNext : Option LineText → PieceLines → PieceLines → Option (List ℕ) → Option (List ℕ)
    → Type 0
GivesNext None old new before after =
    HasEnded new × IfSome before (λ rest. lines_to_come old rest ≡ [])
GivesNext (Some line) old new None after = ⊤
GivesNext (Some line) old new (Some before) None = ⊥
GivesNext (Some line) old new (Some before) (Some after) =
    lines_to_come old before ≡ line ∷ lines_to_come new after
