-- The name of a concept (Release File Specification, "Description file"): its fully specified name,
-- in the preferred language if it has one there.
use Rattle.std.specs.Prelude.{ℕ, ◌≡◌, ◌↔◌, Contains, ◌==◌, ◌&&◌, Bool, true, false, not, bytes_eq, nat_lt}
use Rattle.std.specs.Prelude.{if◌then◌else◌, List, [], ◌∷◌, filter, Option, None, Some, option_map}
use Rattle.std.specs.Borrow.{Bor}
use Rattle.release_model.specs.Release.{Name, Release}

-- whether the row is in the language
abbrev pub is_in : List ℕ → Name → Bool
is_in language row = bytes_eq row.language language

-- whether row `one` comes before row `other`: a row in the preferred language comes before one that
-- is not; of two others, the one with the lesser identifier comes first
abbrev pub comes_before : List ℕ → Name → Name → Bool
comes_before language one other =
    if is_in language one && not (is_in language other) then true
    else if is_in language other && not (is_in language one) then false
    else nat_lt one.id other.id

-- the one of two rows that comes first, or the only one
abbrev pub first_of_two : List ℕ → Name → Option Name → Name
first_of_two language row None = row
first_of_two language row (Some other) = if comes_before language other row then other else row

-- the row that comes first of all, if there is a row
abbrev pub first_name : List ℕ → List Name → Option Name
first_name language [] = None
first_name language (row ∷ rows) = Some (first_of_two language row (first_name language rows))

-- the name rows of a concept
abbrev pub names_of : ℕ → List Name → List Name
names_of concept names = filter (λ (row : Name). row.concept == concept) names

-- the name of a concept among `names` in the preferred language: the term of its row that comes
-- first, if it has a row
abbrev pub name_among : List ℕ → List Name → ℕ → Option (List ℕ)
name_among language names concept =
    option_map (λ (row : Name). row.term) (first_name language (names_of concept names))

-- the name of a concept of a release in the preferred language
abbrev pub name_of : Release → List ℕ → ℕ → Option (List ℕ)
name_of release language concept = name_among language release.names concept

-- the text that is borrowed, if there is one
abbrev pub text_lent : Option (Bor (List ℕ)) → Option (List ℕ)
text_lent lent = option_map (λ (text : Bor (List ℕ)). text.now) lent

-- `first_name` gives one of the rows, and no other row comes before it; it gives none exactly if
-- there are no rows
abbrev pub NamesFirstRow : Type 0
NamesFirstRow =
    (language : List ℕ) (rows : List Name)
    → ((row : Name) → first_name language rows ≡ Some row
    → Contains rows row × ((other : Name) → Contains rows other
    → comes_before language other row ≡ false))
    × ((first_name language rows ≡ None) ↔ (rows ≡ []))
