-- Sort keys of attribute rows: rows sorted by key are sorted by group.
use Rattle.std.specs.Prelude.{ℕ, ◌+◌, ◌*◌, ◌^◌, ◌%◌, slice_index_or}
use Rattle.release_model.specs.Release.{Attribute, Release, concept_value}
use Rattle.held_release.specs.AttributesBySource.{attributes_by_source}

-- the row that a lookup returns if there is no row with the number
abbrev pub no_row : Attribute
no_row = record { source = 0; type_id = 0; group = 0; value = concept_value 0 }

-- the attribute row with a number, which counts from 0 in the order of the sources
abbrev pub row_numbered : Release → ℕ → Attribute
row_numbered release number = slice_index_or (attributes_by_source release) number no_row

-- the sort key of the row with a number: its group number in the upper bits, the row's number in
-- the lower 32
abbrev pub group_key : Release → ℕ → ℕ
group_key release number = (row_numbered release number).group * 2 ^ 32 + number

-- the row whose number is in the lower 32 bits of a key
abbrev pub row_with_key : Release → ℕ → Attribute
row_with_key release key = row_numbered release (key % 2 ^ 32)
