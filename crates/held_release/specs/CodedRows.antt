-- Attribute rows as numbers (coded rows): the number of the source, the place of the type in the
-- list of types, the relationship group number, and the number of the value.
use Rattle.std.specs.Prelude.{ℕ, ℤ, ◌≡◌, ◌<◌, ◌^◌, ◌++◌, List, [], All, length, map, nat_eq, slice_index}
use Rattle.std.specs.Prelude.{slice_index_or}
use Rattle.number_lists.specs.Distinct.{distinct}
use Rattle.release_model.specs.Release.{Attribute, Value, concept_value, number_value, text_value}
use Rattle.held_release.specs.RowValues.{AreTablesOf}
use Rattle.held_release.specs.declared.coded_rows.CodedRow.{CodedRow}
use Rattle.held_release.specs.declared.coded_rows.CodedRows.{CodedRows}
use Rattle.held_release.specs.declared.values.Values.{Values}

-- the types of `rows`, each once, in the order of the first row of each
abbrev pub types_of : List Attribute → List ℕ
types_of rows = distinct nat_eq (map (λ (row : Attribute). row.type_id) rows)

-- all values in the order of their numbers: the concepts, then the decimals, then the other texts
abbrev pub values_among : List ℕ → List ℤ → List (List ℕ) → List Value
values_among concepts decimals texts =
    map concept_value concepts ++ (map number_value decimals ++ map text_value texts)

-- all values in the order of their numbers: the concepts, then the decimals and the texts of the
-- tables
abbrev pub values_in : List ℕ → Values → List Value
values_in concepts values = values_among concepts values.decimals.items values.texts

-- the value with the number `number` among `values`
abbrev pub value_at : List Value → ℕ → Value
value_at values number = slice_index_or values number (text_value [])

-- the attribute row that a coded row encodes, by the lists `concepts`, `types` and `values`
abbrev pub row_coded : List ℕ → List ℕ → List Value → CodedRow → Attribute
row_coded concepts types values row = record {
  source = slice_index concepts row.source;
  type_id = slice_index types row.type_place;
  group = row.group;
  value = value_at values row.value;
}

-- the numbers of `row` are within their lists
pub record IsCoded (concepts types : List ℕ) (values : List Value) (row : CodedRow) : Type 0 where
  -- the number of the source is below the number of concepts
  pub source : row.source < length concepts
  -- the place of the type is below the number of types
  pub type_place : row.type_place < length types
  -- the number of the value is below the number of values
  pub value : row.value < length values

-- the attribute rows that coded rows encode, by their lists
abbrev pub rows_coded : List ℕ → List ℕ → Values → List CodedRow → List Attribute
rows_coded concepts types values rows =
    map (row_coded concepts types (values_in concepts values)) rows

-- `coded`, with its list of types and its table of values, encodes the attribute rows `rows` of
-- `concepts`
pub record AreCoded (concepts : List ℕ) (rows : List Attribute) (type_ids : List ℕ)
    (value_table : Values) (coded : List CodedRow) :
    Type 0 where
  -- the coded rows encode the attribute rows
  pub stand_for : rows_coded concepts type_ids value_table coded ≡ rows
  -- the numbers of each row are within their lists
  pub within : All (IsCoded concepts type_ids (values_in concepts value_table)) coded
  -- the types are the distinct types of the rows
  pub types : type_ids ≡ types_of rows
  -- the tables of decimals and texts have those among the values of the rows
  pub tables : AreTablesOf rows value_table.decimals.items value_table.texts
  -- there are fewer than 2^31 rows
  pub few : length rows < 2 ^ 31
  -- the number of each value fits in 32 bits
  pub few_values : length (values_in concepts value_table) < 2 ^ 32

-- `coded` encodes the attribute rows `rows` of `concepts`
abbrev pub AreCodedRows : List ℕ → List Attribute → CodedRows → Type 0
AreCodedRows concepts rows coded =
    AreCoded concepts rows coded.types.items coded.values coded.rows.items
