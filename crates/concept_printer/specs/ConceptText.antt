-- The text that describes one concept, as `describe` writes it (Release File Specification,
-- "Concept file", "Relationship file", "Relationship concrete values file" and "Simple reference
-- set"; the lines are this project's).
use Rattle.std.specs.Prelude.{ℕ, ◌++◌, if◌then◌else◌, nat_le, List, [], ◌∷◌, codes, decimal, filter, length}
use Rattle.std.specs.Prelude.{Option, None, Some}
use Rattle.std.specs.List.{flat_map}
use Rattle.number_lists.specs.Members.{has}
use Rattle.release_model.specs.Pairs.{rows_of}
use Rattle.release_model.specs.Release.{Attribute, Release, Value, concept_value, number_value, text_value}
use Rattle.constraint_tree.specs.Text.{number_text}
use Rattle.held_release.specs.Contents.{Contents}
use Rattle.held_release.specs.Line.{concept_line, name_text}
use Rattle.held_release.specs.Name.{name_of}
use Rattle.ancestor_index.specs.HierarchyLists.{is_child as has_row}
use Rattle.concept_printer.specs.NamedConcept.{identifier_cause, line_fault, named_concept}
use Rattle.concept_printer.specs.declared.named_concept.LineFault.{LineFault}
use Rattle.concept_printer.specs.declared.named_concept.LineFault.TheVariants.{Long, Utf8, Id}

-- the name of a concept, or none if the concept is not in force or has no name
abbrev pub name_in_force : Contents → ℕ → Option (List ℕ)
name_in_force contents concept =
    if has contents.release.concepts concept then name_of contents.release contents.language concept
    else None

-- a concept within a line: its identifier, and its name between bars if it has one
abbrev pub concept_words : (ℕ → Option (List ℕ)) → ℕ → List ℕ
concept_words name concept = decimal concept ++ name_text (name concept)

-- the parents of a concept, each once, in rising order
abbrev pub parents_of : Release → ℕ → List ℕ
parents_of release concept = filter (λ parent. has_row release.isa concept parent) release.concepts

-- the children of a concept, each once, in rising order
abbrev pub children_of : Release → ℕ → List ℕ
children_of release concept = filter (λ child. has_row release.isa child concept) release.concepts

-- the reference sets that have a component as a member, each once, in rising order
abbrev pub reference_sets_with : Release → ℕ → List ℕ
reference_sets_with release component =
    filter (λ refset. has_row release.members refset component) release.concepts

-- inserts a row into rows that are sorted by group: before the first row of its own or a greater
-- group
abbrev pub put_row : Attribute → List Attribute → List Attribute
put_row row [] = row ∷ []
put_row row (first ∷ others) =
    if nat_le row.group first.group then row ∷ first ∷ others else first ∷ put_row row others

-- rows sorted by group number; rows of one group keep their order
abbrev pub by_group : List Attribute → List Attribute
by_group [] = []
by_group (row ∷ rows) = put_row row (by_group rows)

-- the attribute rows of a concept, sorted by group; rows of one group keep the order of the load
abbrev pub attributes_of : Release → ℕ → List Attribute
attributes_of release concept = by_group (rows_of release concept)

-- the text of a value: a concept with its name, a number as a constraint would write it, or any
-- other text as its file has it
abbrev pub value_words : (ℕ → Option (List ℕ)) → Value → List ℕ
value_words name (concept_value concept) = concept_words name concept
value_words name (number_value number) = number_text number
value_words name (text_value text) = text

-- the line of an attribute row: its group, its type and its value
abbrev pub attribute_line : (ℕ → Option (List ℕ)) → Attribute → List ℕ
attribute_line name row =
    decimal row.group ++ 32 ∷ concept_words name row.type_id ++ 32 ∷ value_words name row.value
    ++ 10 ∷ []

-- a line with a word and the number of items, then a line for each item
abbrev pub headed : {X : Type 0} → List ℕ → (X → List ℕ) → List X → List ℕ
headed word line items = word ++ 32 ∷ decimal (length items) ++ 10 ∷ flat_map line items

-- the text for a concept in force: the concept, its parents, its children, its attribute rows and
-- the reference sets that it is in
abbrev pub concept_text : Contents → ℕ → List ℕ
concept_text contents concept =
    let name = name_in_force contents in
    codes "CONCEPT " ++ concept_line name concept
    ++ headed (codes "PARENTS") (concept_line name) (parents_of contents.release concept)
    ++ headed (codes "CHILDREN") (concept_line name) (children_of contents.release concept)
    ++ headed (codes "ATTRIBUTES") (attribute_line name) (attributes_of contents.release concept)
    ++ headed (codes "MEMBER-OF") (concept_line name) (reference_sets_with contents.release concept)

-- a line with a word and an identifier
abbrev pub identifier_line : List ℕ → ℕ → List ℕ
identifier_line word id = word ++ 32 ∷ decimal id ++ 10 ∷ []

-- what a release says of an identifier: the text of a concept in force, or that the concept is
-- inactive, or that it is unknown
abbrev pub told_of : Contents → ℕ → List ℕ
told_of contents id =
    if has contents.release.concepts id then concept_text contents id
    else if has contents.inactive id then identifier_line (codes "INACTIVE") id
    else identifier_line (codes "UNKNOWN") id

-- the line that says why a line of `describe` names no concept
abbrev pub fault_line : LineFault → List ℕ
fault_line Long = codes "ERR long\n"
fault_line Utf8 = codes "ERR utf8\n"
fault_line (Id fault) = codes "ERR id " ++ identifier_cause fault ++ 10 ∷ []

-- the answer to a line of `describe`: what the release says of the concept, or the line's fault if
-- it has one
abbrev pub told_unless : Contents → List ℕ → Option LineFault → List ℕ
told_unless contents line None = told_of contents (named_concept line)
told_unless contents line (Some fault) = fault_line fault

-- the answer to a line of `describe`: a description of the concept that it names, or why it names
-- none
abbrev pub description_text : Contents → List ℕ → List ℕ
description_text contents line = told_unless contents line (line_fault line)
