use Rattle.std.proofs.Common.{refl}
use Rattle.std.specs.Str.{chars, is_utf8}
use lib.Utf8.{encode}
use Rattle.rf2_rows.specs.Columns.{header_of, cause_of}
use Rattle.rf2_rows.specs.Files.{file_kind_of}
use Rattle.rf2_rows.specs.Rows.{row_fault, concept_row, concrete_row, description_row, member_row, relationship_row}
use Rattle.release_files.specs.Lines.{lines_of}
use Rattle.uuid.specs.Text.{by_index}
use Rattle.sample_release.proofs.sample_files.Goals as goal

-- the built-in files load as the sample release, by computing the load
pub returns-clause-release : goal.returns-clause-release
unfolding header_of cause_of file_kind_of row_fault concept_row concrete_row description_row member_row relationship_row
    by_index lines_of chars is_utf8 encode
returns-clause-release c = refl
