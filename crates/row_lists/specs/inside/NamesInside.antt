-- The names that the fields of a `Names` hold, and the invariant of these fields.
use Rattle.std.specs.Prelude.{ℕ, List, map, All, string_bytes}
use Rattle.release_model.specs.Release.{Name}
use Rattle.row_lists.specs.Spans.{IsTextSpanOf, text_at}
use Rattle.row_lists.specs.declared.names.NameRow.{NameRow}
use Rattle.row_lists.specs.declared.names.Names.TheInside.{Inside}

-- the name that a stored row means; `texts` is the buffer of its texts
abbrev pub name_in : List ℕ → NameRow → Name
name_in texts row = record {
  id = row.id;
  concept = row.concept;
  language = text_at texts row.language;
  term = text_at texts row.term;
}

-- the names that `inside` holds
abbrev pub names_in : Inside → List Name
names_in inside = map (name_in (string_bytes inside.texts)) inside.rows.items

-- both spans of a stored row lie within the buffer, between characters
pub record IsPlaced (texts : List ℕ) (row : NameRow) : Type 0 where
  -- the span of the language code does
  pub language : IsTextSpanOf texts row.language
  -- the span of the term does
  pub term : IsTextSpanOf texts row.term

-- both spans of each stored row lie within the buffer, between characters
abbrev pub ArePlaced : Inside → Type 0
ArePlaced inside = All (IsPlaced (string_bytes inside.texts)) inside.rows.items
