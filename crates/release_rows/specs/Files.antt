-- The files of a release as one list of places, in the order of the files and their lines.
use Rattle.std.specs.Prelude.{ℕ, ◌+◌, List, [], ◌∷◌, ◌++◌, map, Option, None, Some, Bool, true, false, is_some}
use Rattle.std.specs.List.{filter_map, list_any}
use Rattle.rf2_rows.specs.Files.{file_kind_of}
use Rattle.rf2_rows.specs.declared.kind.FileKind.{FileKind}
use Rattle.rf2_rows.specs.RowTexts.{RowText, row_text}
use Rattle.rf2_rows.specs.declared.kind.FileKind.TheVariants.{Concept}
use Rattle.release_files.specs.Lines.{LineText, lines_of}
use Rattle.release_files.specs.Source.{FileText}

-- a place in a Snapshot file: the file has no line, or the place is its first line or a later one.
-- The number is the index of the file in the list, from 0.
pub data Place : Type 0 where
  no_line : ℕ → FileKind → Place
  first_line : ℕ → FileKind → LineText → Place
  later_line : ℕ → FileKind → LineText → Place

-- the places of a file of `kind` with the given lines
abbrev pub places_of_lines : ℕ → FileKind → List LineText → List Place
places_of_lines file kind [] = no_line file kind ∷ []
places_of_lines file kind (line ∷ lines) =
    first_line file kind line ∷ map (later_line file kind) lines

-- the places of a file with the contents `bytes`; a file that is no Snapshot file by its name, and
-- so has no kind, has none
abbrev pub places_of_kind : ℕ → Option FileKind → List ℕ → List Place
places_of_kind file None bytes = []
places_of_kind file (Some kind) bytes = places_of_lines file kind (lines_of bytes)

-- the places of the file `text`, which has the index `file`
abbrev pub places_of_file : ℕ → FileText → List Place
places_of_file file text = places_of_kind file (file_kind_of text.name) text.bytes

-- the places of a list of files, if the first has the index `file`
abbrev pub places_from : ℕ → List FileText → List Place
places_from file [] = []
places_from file (text ∷ texts) = places_of_file file text ++ places_from (file + 1) texts

-- whether the kind is that of a Concept file; false if there is no kind
abbrev pub is_concept_kind : Option FileKind → Bool
is_concept_kind (Some Concept) = true
is_concept_kind other = false

-- whether the name of the file is that of a Concept file
abbrev pub is_concept_file : FileText → Bool
is_concept_file text = is_concept_kind (file_kind_of text.name)

-- whether one of `items` is a Concept file by its name; `text` gives the name of an item
abbrev pub name_concepts : {X : Type 0} → (X → List ℕ) → List X → Bool
name_concepts text items = list_any (λ item. is_concept_kind (file_kind_of (text item))) items

-- whether the file is a Snapshot file of some kind by its name
abbrev pub has_kind : FileText → Bool
has_kind text = is_some (file_kind_of text.name)

-- a row, with its file and its line
pub record RowAt : Type 0 where
  -- the index of the row's file in the list
  pub file : ℕ
  -- the number of the row's line in its file
  pub line : ℕ
  -- the kind of the row's file
  pub kind : FileKind
  -- the bytes of the row's line
  pub text : List ℕ

-- the values of the columns of a row
abbrev pub text_of_row : RowAt → RowText
text_of_row row = row_text row.kind row.text

-- the row on a line after the header; an empty line has none
abbrev pub row_on : ℕ → FileKind → ℕ → List ℕ → Option RowAt
row_on file kind line [] = None
row_on file kind line (byte ∷ bytes) =
    Some (record { file = file; line = line; kind = kind; text = byte ∷ bytes })

-- the row at a place, if the place has one
abbrev pub row_at : Place → Option RowAt
row_at (later_line file kind line) = row_on file kind line.number line.bytes
row_at other = None

-- the rows of all kinds, in the order of the files and their lines
abbrev pub rows_of : List Place → List RowAt
rows_of places = filter_map row_at places
