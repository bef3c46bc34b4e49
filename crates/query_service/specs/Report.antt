-- The row counts of a loaded release.
use Rattle.std.specs.Prelude.{length}
use Rattle.held_release.specs.Contents.{Contents}
use Rattle.held_release.specs.declared.report.Report.{Report}

-- the row counts of a release: its files, the lengths of its five lists, and the rows in none of
-- them
abbrev pub report_of : Contents → Report
report_of contents = record {
  files = contents.files;
  concepts = length contents.release.concepts;
  isa = length contents.release.isa;
  attributes = length contents.release.attributes;
  members = length contents.release.members;
  names = length contents.release.names;
  passed = contents.passed;
}
