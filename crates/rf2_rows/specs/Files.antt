-- The kind of a file of a release, by its name (Release File Specification, "File naming
-- convention": FileType_ContentType_ContentSubType_.. and at last .txt).
use Rattle.std.specs.Prelude.{ℕ, ◌-◌, Bool, false, ◌||◌, ◌==◌, nat_eq, if◌then◌else◌, List, [], ◌∷◌, length, take}
use Rattle.std.specs.Prelude.{codes, bytes_eq, Option, None, Some, option_and_then}
use Rattle.std.specs.List.{after_last, starts_with, ends_with}
use Rattle.text_parts.specs.Parts.{parts_at}
use Rattle.rf2_rows.specs.declared.kind.FileKind.{FileKind}
use Rattle.rf2_rows.specs.declared.kind.FileKind.TheVariants.{Concept, Description, Relationship, Concrete, Member}

-- the file's name in a path: what follows the last `/`
abbrev pub file_name : List ℕ → List ℕ
file_name path = after_last (λ byte. byte == 47) path

-- the elements of a file's name: the parts between its underscores
abbrev pub elements_of : List ℕ → List (List ℕ)
elements_of name = parts_at 95 name

-- whether `word` is somewhere in a text
abbrev pub holds : List ℕ → List ℕ → Bool
holds word [] = false
holds word (byte ∷ text) = starts_with nat_eq (byte ∷ text) word || holds word text

-- whether a FileType is that of a file of components, released or in a test release
abbrev pub is_terminology : List ℕ → Bool
is_terminology file_type = bytes_eq file_type (codes "sct2") || bytes_eq file_type (codes "xsct2")

-- whether a FileType is that of a file of reference sets, released or in a test release
abbrev pub is_reference_set : List ℕ → Bool
is_reference_set file_type = bytes_eq file_type (codes "der2") || bytes_eq file_type (codes "xder2")

-- the kind of a file of components, by its ContentType, which names what the rows describe
abbrev pub component_kind : List ℕ → Option FileKind
component_kind content =
    if bytes_eq content (codes "Concept") then Some Concept
    else if bytes_eq content (codes "Description") then Some Description
    else if bytes_eq content (codes "Relationship") then Some Relationship
    else if bytes_eq content (codes "RelationshipConcreteValues") then Some Concrete
    else None

-- the kind of a file of reference sets, by its ContentType: the file of a simple reference set has
-- no letters before `Refset`, because it has no columns of its own
abbrev pub reference_set_kind : List ℕ → Option FileKind
reference_set_kind content = if bytes_eq content (codes "Refset") then Some Member else None

-- the kind of a file by the FileType and the ContentType in its name
abbrev pub kind_named : List ℕ → List ℕ → Option FileKind
kind_named file_type content =
    if is_terminology file_type then component_kind content
    else if is_reference_set file_type then reference_set_kind content
    else None

-- whether a ContentSubType has the release type Snapshot, at its end or before the code of a
-- language
abbrev pub is_snapshot : List ℕ → Bool
is_snapshot subtype = ends_with nat_eq subtype (codes "Snapshot")
    || holds (codes "Snapshot-") subtype

-- the kind of a Snapshot file by the elements of its name, or none if it is another file
abbrev pub kind_of_elements : List (List ℕ) → Option FileKind
kind_of_elements (file_type ∷ content ∷ subtype ∷ others) =
    if is_snapshot subtype then kind_named file_type content else None
kind_of_elements _ = None

-- a file's name without the extension .txt, or none if it does not end so
abbrev pub stem_of : List ℕ → Option (List ℕ)
stem_of name = if ends_with nat_eq name (codes ".txt") then Some (take (length name - 4) name)
    else None

-- the kind of a Snapshot file by its path, or none if the engine does not read the file
unfoldable pub file_kind_of : List ℕ → Option FileKind
file_kind_of path = option_and_then (λ stem. kind_of_elements (elements_of stem))
    (stem_of (file_name path))
