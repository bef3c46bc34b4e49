-- Which rows are chosen (Release File Specification, "effectiveTime"): of each component the row
-- with the latest effective time, and the first one if several are equal. An edition and the
-- extensions on top of it are one list of files.
use Rattle.std.specs.Prelude.{◌≡◌, ℕ, Bool, true, false, not, nat_lt, ◌==◌, ◌&&◌, ◌||◌, List, [], ◌∷◌, ◌++◌, Contains}
use Rattle.std.specs.Prelude.{filter, length, Option, None, Some}
use Rattle.std.specs.List.{list_any}
use Rattle.rf2_rows.specs.Versions.{id_on, same_row, same_time, time_on}
use Rattle.rf2_rows.specs.declared.kind.FileKind.{FileKind}
use Rattle.rf2_rows.specs.declared.kind.FileKind.TheVariants.{Concept, Concrete, Description, Member, Relationship}
use Rattle.release_rows.specs.Files.{RowAt}
use Rattle.row_lists.specs.Marked.{marked}

-- the number of a file kind; different kinds have different numbers
abbrev pub kind_number : FileKind → ℕ
kind_number Concept = 0
kind_number Description = 1
kind_number Relationship = 2
kind_number Concrete = 3
kind_number Member = 4

-- whether two file kinds are equal
abbrev pub same_kind : FileKind → FileKind → Bool
same_kind one other = kind_number one == kind_number other

-- the identifier of a row
abbrev pub id_of : RowAt → ℕ
id_of row = id_on row.kind row.text

-- the effective time of a row, if it has one
abbrev pub time_of : RowAt → Option ℕ
time_of row = time_on row.kind row.text

-- whether the first effective time is later than the second; a row that is not published yet has no
-- time, which counts as the latest
abbrev pub is_later : Option ℕ → Option ℕ → Bool
is_later None None = false
is_later None (Some other) = true
is_later (Some one) None = false
is_later (Some one) (Some other) = nat_lt other one

-- whether two rows are of one component: they have one kind and one identifier
abbrev pub same_component : RowAt → RowAt → Bool
same_component one other = same_kind one.kind other.kind && (id_of one == id_of other)

-- whether two rows are of one component and have one effective time
abbrev pub same_version : RowAt → RowAt → Bool
same_version one other = same_component one other && same_time (time_of one) (time_of other)

-- whether two rows of one component and one effective time differ in some column
abbrev pub conflicts : RowAt → RowAt → Bool
conflicts one other = same_version one other && not (same_row one.kind one.text other.text)

-- whether one of `rows` is of the component of `row` and has a later effective time
abbrev pub is_superseded : List RowAt → RowAt → Bool
is_superseded rows row =
    list_any (λ other. same_component other row && is_later (time_of other) (time_of row)) rows

-- whether one of the `earlier` rows is of the component of `row` and has its effective time
abbrev pub is_repeated : List RowAt → RowAt → Bool
is_repeated earlier row = list_any (λ other. same_version other row) earlier

-- whether `row` is chosen: no row of `rows` is of its component and later, and no `earlier` row has
-- its component and effective time
abbrev pub is_chosen : List RowAt → List RowAt → RowAt → Bool
is_chosen rows earlier row = not (is_superseded rows row || is_repeated earlier row)

-- for each row of the last list, whether it is chosen among `rows`; `earlier` are the rows of
-- `rows` before that list
abbrev pub choices : List RowAt → List RowAt → List RowAt → List Bool
choices rows earlier [] = []
choices rows earlier (row ∷ later) =
    is_chosen rows earlier row ∷ choices rows (earlier ++ row ∷ []) later

-- the chosen rows of `rows`, in their order
abbrev pub chosen : List RowAt → List RowAt
chosen rows = marked (choices rows [] rows) rows

-- for any rows: no chosen row has a later row of its component among them
abbrev pub ChoosesTheLatest : Type 0
ChoosesTheLatest = (rows : List RowAt) (row : RowAt) → Contains (chosen rows) row
    → is_superseded rows row ≡ false

-- for any rows: of the component of each row exactly one row is chosen
abbrev pub ChoosesOne : Type 0
ChoosesOne = (rows : List RowAt) (row : RowAt) → Contains rows row
    → length (filter (λ other. same_component other row) (chosen rows)) ≡ 1
