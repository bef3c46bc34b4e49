-- Stored name rows keep their texts if texts are appended to the buffer.
use Rattle.std.proofs.Common.{rules, arith, ℕ, ◌≡◌, ◌<◌, length, get_or, List, [], ◌∷◌, map, refl, IsUtf8, Bool, filter}
use Rattle.std.proofs.lemmas.Bool.Decides.{nat_tests}
use Rattle.std.proofs.lemmas.Grind.{common_steps}
use Rattle.std.proofs.lemmas.Bool.{cases_Bool}
use Rattle.std.proofs.lemmas.List.{get_or-map, get_or_read, length-map}
use Rattle.release_model.specs.Release.{Name}
use Rattle.row_lists.specs.inside.NamesInside.{IsPlaced, name_in}
use Rattle.row_lists.specs.Spans.{Extends, no_span}
use Rattle.row_lists.specs.declared.names.NameRow.{NameRow}
use Rattle.row_lists.proofs.ChosenItemLemmas.{map-marked}
use Rattle.row_lists.proofs.SpanLemmas.{text-extends, text_span-extends}

module _ (texts grown : List ℕ) (extends : Extends texts grown) where
  -- a row stands for one name before and after the buffer grows
  pub name-extends : (row : NameRow) → IsPlaced texts row → name_in grown row ≡ name_in texts row
  name-extends row placed = grind (arith, common_steps, nat_tests, text-extends)

  -- texts that stand in the buffer still stand there after it grows
  pub placed-extends : IsUtf8 texts → IsUtf8 grown → (row : NameRow) → IsPlaced texts row → IsPlaced grown row
  placed-extends whole all row placed = search (rules, text_span-extends)

-- filtering a list by `test (f x)` and then applying `f` is the same as applying `f` and then filtering by `test`
pub map-filter : {X Y : Type 0} (f : X → Y) (test : Y → Bool) (xs : List X)
    → map f (filter (λ x. test (f x)) xs) ≡ filter test (map f xs)
map-filter f test [] = refl
map-filter f test (x ∷ xs) = grind (arith, common_steps, nat_tests, cases_Bool, (map-filter f test xs))

-- the row that reading past the end of a list yields
abbrev no_row : NameRow
no_row = record { id = 0; concept = 0; language = no_span; term = no_span }

-- the name at index `place` is the one that the stored row at this index means
pub name_at_place : (texts : List ℕ) (rows : List NameRow) (place : ℕ) (default : Name) → place < length rows
    → get_or (map (name_in texts) rows) place default ≡ name_in texts (get_or rows place no_row)
name_at_place texts rows place default within = get_or-map (name_in texts) rows place no_row default within

-- the row at an index within the list is the same for each default value
pub row_at_place : (rows : List NameRow) (place : ℕ) (row : NameRow) → place < length rows → row ≡ get_or rows place row
    → row ≡ get_or rows place no_row
row_at_place rows place row within is = get_or_read rows place row within is no_row

-- the rules with which `grind` reads a row
pub ruleset rows_read = (name_at_place, row_at_place, length-map)

-- the rules with which `grind` chooses rows
pub ruleset rows_chosen = (map-marked)
