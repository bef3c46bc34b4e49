-- The attribute rows with two flags, by which distinct pairs are counted without a search for
-- repeats: whether a row is the first with its pair in its concept, and in its group.
use Rattle.std.specs.Prelude.{ℕ, ◌==◌, ◌&&◌, ◌++◌, Bool, not, List, [], ◌∷◌, filter}
use Rattle.std.specs.List.{list_any}
use Rattle.release_model.specs.Pairs.{pair_eq, pair_of, value_eq}
use Rattle.release_model.specs.Release.{Attribute, concept_value}

-- whether two rows have the same source and the same pair
abbrev pub is_alike : Attribute → Attribute → Bool
is_alike one other = (one.source == other.source) && pair_eq (pair_of one) (pair_of other)

-- whether two rows have the same source, the same group number and the same pair
abbrev pub is_alike_in_group : Attribute → Attribute → Bool
is_alike_in_group one other = (one.group == other.group) && is_alike one other

-- an attribute row with its two flags
pub record Entry : Type 0 where
  -- the attribute row
  pub row : Attribute
  -- whether no row before it has its source and its pair
  pub is_first : Bool
  -- whether no row before it has its source, its group number and its pair
  pub is_first_in_group : Bool

-- the entries of `rows` if the rows `before` come before them: `before` counts for the flags, but
-- has no entries here
abbrev pub entries_after : List Attribute → List Attribute → List Entry
entries_after before [] = []
entries_after before (row ∷ rows) =
    record {
      row = row;
      is_first = not (list_any (is_alike row) before);
      is_first_in_group =
          not (list_any (is_alike_in_group row) before);
    }
    ∷ entries_after (before ++ row ∷ []) rows

-- the entries of `rows`, in the order of the rows
abbrev pub entries_of : List Attribute → List Entry
entries_of rows = entries_after [] rows

-- the entries of `rows` whose row passes `test`
abbrev pub entries_where : (Attribute → Bool) → List Attribute → List Entry
entries_where test rows = filter (λ (entry : Entry). test entry.row) (entries_of rows)

-- the entries of `rows` whose row has the type with the identifier `id`
abbrev pub entries_with_type : List Attribute → ℕ → List Entry
entries_with_type rows id = filter (λ (entry : Entry). entry.row.type_id == id) (entries_of rows)

-- the entries of `rows` whose row has the concept with the identifier `concept` as its value
abbrev pub entries_with_value : List Attribute → ℕ → List Entry
entries_with_value rows concept =
    filter (λ (entry : Entry). value_eq entry.row.value (concept_value concept)) (entries_of rows)
