-- The contents that the fields of a `Snapshot` hold, and the invariant of these fields.
use Rattle.std.specs.Prelude.{◌≡◌, ◌<◌, ◌^◌, true, All, map, length, string_bytes}
use Rattle.std.specs.List.Sorted.{IsStrictlyIncreasing}
use Rattle.release_model.specs.Release.{Attribute}
use Rattle.held_release.specs.CodedRows.{AreCodedRows}
use Rattle.held_release.specs.Contents.{Contents}
use Rattle.held_release.specs.ValuesInForce.{is_value_among}
use Rattle.held_release.specs.Line.{concept_line}
use Rattle.held_release.specs.Name.{name_among}
use Rattle.hierarchy.specs.Hierarchy.{IsWithin}
use Rattle.held_release.specs.Numbering.{row_of_numbers}
use Rattle.hierarchy.specs.ParentsFirst.{IsParentsFirst}
use Rattle.held_release.specs.inside.Sorted.{IsSortedBySource, in_file_order, sorted_in}
use Rattle.held_release.specs.declared.held_release.Snapshot.TheInside.{Inside}

-- the contents that the fields hold
abbrev pub contents_in : Inside → Contents
contents_in inside = record {
  release = record {
    concepts = inside.concepts;
    isa = map (row_of_numbers inside.concepts) inside.isa.items;
    attributes = in_file_order (sorted_in inside.concepts inside.attributes);
    members = map (row_of_numbers inside.concepts) inside.members.items;
    names = inside.lines.names;
  };
  inactive = inside.inactive.items;
  language = string_bytes inside.language;
  files = inside.files;
  passed = inside.passed;
}

-- the invariant: the concepts rise; the numbers in rows are those of concepts; the lines are those
-- of the concepts; in `order` parents come before their children; the attribute rows are sorted by
-- source, and their values that are concepts are in force; there are fewer than 2^31 rows of each
-- kind; and the inactive concepts rise
abbrev pub IsNumbered : Inside → Type 0
IsNumbered inside =
    IsStrictlyIncreasing inside.concepts
    × IsWithin (length inside.concepts) inside.isa.items
    × IsWithin (length inside.concepts) inside.members.items
    × (inside.lines.lines ≡ map (concept_line
    (name_among (string_bytes inside.language) inside.lines.names)) inside.concepts)
    × IsParentsFirst (length inside.concepts) inside.isa.items inside.order.items
    × IsSortedBySource inside.concepts (sorted_in inside.concepts inside.attributes)
    × AreCodedRows inside.concepts (sorted_in inside.concepts inside.attributes).rows
    inside.attributes
    × All (λ (row : Attribute). is_value_among inside.concepts row.value ≡ true)
    (in_file_order (sorted_in inside.concepts inside.attributes))
    × (length inside.isa.items < 2 ^ 31)
    × (length inside.members.items < 2 ^ 31)
    × IsStrictlyIncreasing inside.inactive.items
