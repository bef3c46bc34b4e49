-- The meaning of the name rows that callers get from the lists.
use Rattle.release_model.specs.Release.{Name}
use Rattle.row_lists.specs.declared.names.ReadName.{ReadName}

-- the name row that a `ReadName` of the program means
abbrev pub name_read : ReadName → Name
name_read row = record {
  id = row.id;
  concept = row.concept;
  language = row.language.now;
  term = row.term.now;
}
