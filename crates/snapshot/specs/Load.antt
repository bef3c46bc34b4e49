-- The contents of the release that a list of files makes, or the first fault of the files.
use Rattle.std.specs.Prelude.{ℕ, ◌-◌, if◌then◌else◌, List, [], length, map, filter, Option, None, Some, Result, Err}
use Rattle.std.specs.List.{list_any}
use Rattle.release_files.specs.Source.{FileText}
use Rattle.row_lists.specs.InForce.{inactive_concepts, listed_count, release_of}
use Rattle.row_lists.specs.declared.fault.LoadFault.{LoadFault}
use Rattle.row_lists.specs.declared.fault.LoadFault.TheVariants.{NoConceptFile}
use Rattle.held_release.specs.Contents.{Contents, least_cyclic, unless_cyclic}
use Rattle.release_rows.specs.Faults.{first_fault}
use Rattle.release_rows.specs.Chosen.{chosen}
use Rattle.release_rows.specs.Files.{Place, places_from, rows_of, text_of_row, is_concept_file, has_kind}
use Rattle.release_rows.specs.Limits.{limits_in_force}
use Rattle.release_rows.specs.declared.limits.Limits.{Limits}

-- the contents of a release from `count` files of some kind whose places have no fault: what the
-- chosen rows make, the inactive concepts among these rows, and the number of rows that were passed
-- over
abbrev pub contents_of : List ℕ → ℕ → List Place → Contents
contents_of language count places =
    let rows = map text_of_row (chosen (rows_of places)) in
    let release = release_of rows in
    record {
      release = release;
      inactive = inactive_concepts rows;
      language = language;
      files = count;
      passed = length (rows_of places) - listed_count release;
    }

-- `fault`, if there is one; or else the fault of the least concept that is its own descendant, if
-- there is one; or else the contents
abbrev pub unless_faulty : Contents → Option LoadFault → Result Contents LoadFault
unless_faulty contents None = unless_cyclic contents (least_cyclic contents.release)
unless_faulty contents (Some fault) = Err fault

-- the contents of a release from `count` files of some kind with the given places, or the first
-- fault: that of the first faulty place, or else a cycle
abbrev pub loaded_from : Limits → List ℕ → ℕ → List Place → Result Contents LoadFault
loaded_from limits language count places =
    unless_faulty (contents_of language count places) (first_fault limits [] places)

-- the contents of the release that `files` make, or the first fault: that no file is a Concept file
-- by its name, or the first fault of their places, or a cycle
abbrev pub load_of : Limits → List ℕ → List FileText → Result Contents LoadFault
load_of limits language files =
    if list_any is_concept_file files
    then loaded_from (limits_in_force limits) language (length (filter has_kind files))
    (places_from 0 files)
    else Err NoConceptFile
