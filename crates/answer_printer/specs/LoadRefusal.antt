-- The line that says why a list of files was refused, or can't be read.
use Rattle.std.specs.Prelude.{ℕ, ◌++◌, List, [], ◌∷◌, codes, decimal, slice_index_or, None, Some}
use Rattle.std.specs.List.{flat_map}
use Rattle.sctid.specs.declared.IdFault.{IdFault}
use Rattle.sctid.specs.declared.IdFault.TheVariants.{Length, Digit, LeadingZero, Partition, Check}
use Rattle.rf2_rows.specs.declared.fault.RowCause.{RowCause}
use Rattle.rf2_rows.specs.declared.fault.RowCause.TheVariants.{Fields, Id, Time, Active, Group, Value, Utf8, Uuid}
use Rattle.row_lists.specs.declared.fault.LoadFault.{LoadFault}
use Rattle.row_lists.specs.declared.fault.LoadFault.TheVariants.{NoConceptFile, Header, Row, Conflict, TooMany, Cycle}
use Rattle.row_lists.specs.declared.fault.LoadFault.TheVariants.{Device, Memory}
use Rattle.answer_printer.specs.ToldName.{told_name}

-- the word for the cause why an identifier is refused
abbrev pub id_word : IdFault → List ℕ
id_word Length = codes "id-length"
id_word Digit = codes "id-digit"
id_word LeadingZero = codes "id-zero"
id_word Partition = codes "id-part"
id_word Check = codes "id-check"

-- the word for the cause why a row is refused
abbrev pub cause_word : RowCause → List ℕ
cause_word Fields = codes "fields"
cause_word (Id fault) = id_word fault
cause_word Time = codes "time"
cause_word Active = codes "active"
cause_word Group = codes "group"
cause_word Value = codes "value"
cause_word Utf8 = codes "utf8"
cause_word Uuid = codes "uuid"

-- a line of `REFUSED` and words, each after a space
abbrev pub refused_line : List (List ℕ) → List ℕ
refused_line words = (codes "REFUSED" ++ flat_map (λ word. 32 ∷ word) words) ++ 10 ∷ []

-- the printed name of the file at index `file` of `names`
abbrev pub told_at : List (List ℕ) → ℕ → List ℕ
told_at names file = told_name (slice_index_or names file [])

-- the words that describe a fault; `names` are the names of the files
abbrev pub refusal_words : List (List ℕ) → LoadFault → List (List ℕ)
refusal_words names NoConceptFile = codes "no-concept-file" ∷ []
refusal_words names (Header file) = codes "header" ∷ told_at names file ∷ []
refusal_words names (Row file line fault) =
    codes "row" ∷ told_at names file ∷ decimal line ∷ decimal fault.column ∷ cause_word fault.cause
    ∷ []
refusal_words names (Conflict file line) = codes "conflict" ∷ told_at names file ∷ decimal line ∷ []
refusal_words names (TooMany file line) = codes "too-many" ∷ told_at names file ∷ decimal line ∷ []
refusal_words names (Cycle concept) = codes "cycle" ∷ decimal concept ∷ []
refusal_words names (Device (Some file)) = codes "device" ∷ told_at names file ∷ []
refusal_words names (Device None) = codes "device" ∷ []
refusal_words names Memory = codes "memory" ∷ []

-- the line that describes a fault of a load; `names` are the names of the files
abbrev pub load_refusal : List (List ℕ) → LoadFault → List ℕ
load_refusal names fault = refused_line (refusal_words names fault)
