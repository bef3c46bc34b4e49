-- The part of a column that belongs to a key.
use Rattle.std.proofs.Common.{ℕ, ◌+◌, ◌-◌, ◌≡◌, ◌<◌, ◌++◌, ◌∷◌, [], ◌∙◌, Bool, true, List, Some, length}
use Rattle.std.proofs.Common.{get_or, map, take, drop, refl, sym, ap, arith, length-append}
use Rattle.std.specs.Prelude.{All, slice_get, slice_index, slice_index_or}
use Rattle.std.specs.List.{concat, filter, slice_range}
use Rattle.std.proofs.lemmas.List.{drop-map, drop_at, drop_more, get_or-map, length-map, take-append-drop, take-map}
use Rattle.std.proofs.lemmas.List.{take_at}
use Rattle.std.proofs.lemmas.List.Elements.{All-map, All-same, All-tail}
use Rattle.release_model.specs.Release.{Attribute, Value, concept_value}
use Rattle.number_lists.specs.KeyedLists.{list_of}
use Rattle.number_lists.proofs.ListLemmas.{concat-append, concat-take_more}
use Rattle.postings.specs.inside.Cells.{IsColumn, cells_of}
use Rattle.postings.specs.Columns.{AreGroups, AreSources, AreTypes, AreValues, Flagged}
use Rattle.postings.specs.Entries.{Entry, entries_of}
use Rattle.postings.specs.Groups.{ConceptGroup, group_of}
use Rattle.postings.specs.Indexed.{value_at}
use Rattle.postings.specs.Places.{places_where}
use Rattle.postings.proofs.IndexLemmas.{rows_of_entries}
use Rattle.postings.proofs.PlaceLemmas.{places_where-map, places_where-within, rows_at_places}

-- ---- the part of a key
-- in the joined `lists`, list `k` is the slice from the total length of the lists before it to the total length
-- including it
pub span_list : (lists : List (List ℕ)) (k : ℕ) → k < length lists
    → slice_range (concat lists) (length (concat (take k lists))) (length (concat (take (k + 1) lists)))
    ≡ list_of lists k
span_list lists k within =
    let before = concat (take k lists) in
    let list = get_or lists k [] in
    let following = concat (drop (k + 1) lists) in
    let count = length (concat (take (k + 1) lists)) - length before in
    let whole : concat lists ≡ before ++ (list ++ following) =
    ap concat (sym (take-append-drop k lists)) ∙ concat-append (take k lists) (drop k lists)
    ∙ ap (λ (rest : List (List ℕ)). before ++ concat rest) (drop_more lists k [] within) in
    let long : length list ≡ count =
    omega (arith, ap (λ (xs : List ℕ). length xs) (concat-take_more lists k within), length-append before list) in
    ap (λ (xs : List ℕ). slice_range xs (length before) (length (concat (take (k + 1) lists)))) whole
    ∙ ap (λ (xs : List ℕ). take count xs) (drop_at before (list ++ following) (length before) refl)
    ∙ take_at list following count long

-- a part of `map f xs` is `map f` of that part of `xs`
range_map : {X Y : Type 0} (f : X → Y) (xs : List X) (from to : ℕ)
    → slice_range (map f xs) from to ≡ map f (slice_range xs from to)
range_map f xs from to = ap (take (to - from)) (drop-map f from xs) ∙ take-map f (to - from) (drop from xs)

-- if a column has `f` of each item of the joined `lists`, its cells for key `k` are `f` of the items of list `k`
pub cells_list : {X : Type 0} (lists : List (List ℕ)) (f : ℕ → X) (k : ℕ) → k < length lists
    → cells_of lists (map f (concat lists)) k ≡ map f (list_of lists k)
cells_list lists f k within =
    range_map f (concat lists) (length (concat (take k lists))) (length (concat (take (k + 1) lists)))
    ∙ ap (map f) (span_list lists k within)

-- a column with one cell for each item of the joined `lists` is as long as these
pub long_cells : {X : Type 0} (lists : List (List ℕ)) (marks cells : List X)
    → IsColumn marks (concat lists) cells
    → (d : X) → length cells ≡ length (concat lists)
long_cells {X} lists marks cells are d =
    ap (λ (xs : List X). length xs) (are d) ∙ length-map (concat lists) (λ place. slice_index_or marks place d)

-- ---- columns at some places
-- if `g` of each mark equals `h` of the entry at the same place, this holds also for the marks and entries at `places`
pub restricted : {X E A : Type 0} (g : X → A) (h : E → A) (marks : List X) (entries : List E)
    → map g marks ≡ map h entries
    → (places : List ℕ) → All (λ place. place < length marks) places → (d : X) (e : E)
    → map g (map (λ place. get_or marks place d) places) ≡ map h (map (λ place. get_or entries place e) places)
restricted g h marks entries same [] within d e = refl
restricted {X} {E} {A} g h marks entries same (place ∷ places) within d e =
    let there : place < length marks = within 0 place (omega arith) in
    let long : length marks ≡ length entries = sym (length-map marks g) ∙ ap (λ (xs : List A). length xs) same
    ∙ length-map entries h in
    let here : g (get_or marks place d) ≡ h (get_or entries place e) =
    sym (get_or-map g marks place d (g d) there)
    ∙ ap (λ (xs : List A). get_or xs place (g d)) same
    ∙ get_or-map h entries place e (g d) (omega (arith, there, long)) in
    let rest = restricted g h marks entries same places (All-tail (λ place. place < length marks) place places within) d
    e in
    λ i. here i ∷ rest i

-- a property of all of `marks` holds for those at `places`
pub all_at : {X : Type 0} (P : X → Type 0) (marks : List X) → All P marks → (places : List ℕ)
    → All (λ place. place < length marks) places → (d : X)
    → All P (map (λ place. get_or marks place d) places)
all_at P marks holds places within d =
    All-map P (λ place. get_or marks place d) places (λ k e below. holds (get_or places k e) d (within k e below))

-- ---- columns of the rows that pass a test
module _ (rows : List Attribute) (test : Attribute → Bool) (lists : List (List ℕ)) (k : ℕ) (within : k < length lists)
    (is : list_of lists k ≡ places_where test rows) where
  abbrev passes : Entry → Bool
  passes entry = test entry.row

  -- the places of the entries are those of the rows
  entry_places : places_where passes (entries_of rows) ≡ places_where test rows
  entry_places = sym (places_where-map (λ (entry : Entry). entry.row) test (entries_of rows))
      ∙ ap (places_where test) (rows_of_entries [] rows)

  -- the entries at the places of the rows that pass are those whose rows pass
  entries_there : (e : Entry) → map (λ place. get_or (entries_of rows) place e) (places_where test rows)
      ≡ filter passes (entries_of rows)
  entries_there e = ap (map (λ place. get_or (entries_of rows) place e)) (sym entry_places)
      ∙ rows_at_places passes (entries_of rows) e

  -- the cells of the key are the items at the places of the rows that pass
  cells_there : {X : Type 0} (marks cells : List X) (d : X)
      → cells ≡ map (λ place. slice_index_or marks place d) (concat lists)
      → cells_of lists cells k ≡ map (λ place. get_or marks place d) (places_where test rows)
  cells_there {X} marks cells d are =
      ap (λ (xs : List X). cells_of lists xs k) are
      ∙ cells_list lists (λ place. slice_index_or marks place d) k within
      ∙ ap (map (λ place. slice_index_or marks place d)) is

  -- a column that says something of each entry has an item for each place
  places_there : {X A : Type 0} (g : X → A) (h : Entry → A) (marks : List X) → map g marks ≡ map h (entries_of rows)
      → All (λ place. place < length marks) (places_where test rows)
  places_there {X} {A} g h marks same i d inside =
      omega (
        arith,
        places_where-within test rows i d inside,
        length-map marks g,
        ap (λ (xs : List A). length xs) same,
        length-map (entries_of rows) h,
        length-map (entries_of rows) (λ (entry : Entry). entry.row),
        ap (λ (xs : List Attribute). length xs) (rows_of_entries [] rows),
      )

  an_entry : Entry
  an_entry = record {
    row = record { source = 0; group = 0; type_id = 0; value = concept_value 0 };
    is_first = true;
    is_first_in_group =
        true;
  }

  abbrev a_mark : Flagged
  a_mark = record { number = 0; is_first = true }

  -- if a column tells something of each entry, its cells of the key tell that of the entries whose rows pass
  said : {X A : Type 0} (g : X → A) (h : Entry → A) (marks cells : List X) (d : X)
      → map g marks ≡ map h (entries_of rows)
      → cells ≡ map (λ place. slice_index_or marks place d) (concat lists)
      → map g (cells_of lists cells k) ≡ map h (filter passes (entries_of rows))
  said g h marks cells d same are =
      ap (map g) (cells_there marks cells d are)
      ∙ restricted g h marks (entries_of rows) same (places_where test rows) (places_there g h marks same) d an_entry
      ∙ ap (map h) (entries_there an_entry)

  -- a property of all items of a column holds of its cells of the key
  kept : {X A : Type 0} (P : X → Type 0) (g : X → A) (h : Entry → A) (marks cells : List X) (d : X)
      → map g marks ≡ map h (entries_of rows)
      → cells ≡ map (λ place. slice_index_or marks place d) (concat lists) → All P marks
      → All P (cells_of lists cells k)
  kept P g h marks cells d same are holds =
      All-same P (cells_of lists cells k) (map (λ place. get_or marks place d) (places_where test rows))
      (cells_there marks cells d are)
      (all_at P marks holds (places_where test rows) (places_there g h marks same) d)

  -- list `k` has the places of the rows that pass `test`. If `marks` has the sources of all rows, then the cells of key
  -- `k` in a column made from `marks` are the sources of the rows that pass
  pub sources_at : (concepts : List ℕ) (marks cells : List Flagged) → AreSources concepts (entries_of rows) marks
      → IsColumn marks (concat lists) cells
      → AreSources concepts (filter (λ (entry : Entry). test entry.row) (entries_of rows)) (cells_of lists cells k)
  sources_at concepts marks cells are column =
      let source : Flagged → ℕ = λ (mark : Flagged). slice_index concepts mark.number in
      record {
        within = kept (λ (mark : Flagged). mark.number < length concepts) source (λ (entry : Entry). entry.row.source)
            marks cells a_mark
            are.sources (column a_mark) are.within;
        sources = said source (λ (entry : Entry). entry.row.source) marks cells a_mark are.sources (column a_mark);
        firsts = said (λ (mark : Flagged). mark.is_first) (λ (entry : Entry). entry.is_first) marks cells a_mark
            are.firsts (column a_mark);
      }

  -- list `k` has the places of the rows that pass `test`. If `marks` has the groups of all rows, then the cells of key
  -- `k` in a column made from `marks` are the groups of the rows that pass
  pub groups_at : (groups : List ConceptGroup) (marks cells : List Flagged) → AreGroups groups (entries_of rows) marks
      → IsColumn marks (concat lists) cells
      → AreGroups groups (filter (λ (entry : Entry). test entry.row) (entries_of rows)) (cells_of lists cells k)
  groups_at groups marks cells are column =
      record {
        groups = said (λ (mark : Flagged). slice_get groups mark.number) (λ (entry : Entry). Some (group_of entry.row))
            marks cells a_mark
            are.groups (column a_mark);
        firsts = said (λ (mark : Flagged). mark.is_first) (λ (entry : Entry). entry.is_first_in_group) marks cells
            a_mark are.firsts
            (column a_mark);
      }

  -- if a column has numbers below a bound that tell something of each entry, its cells of the key have those of the
  -- entries whose rows pass
  numbers_at : {A : Type 0} (bound : ℕ) (tell : ℕ → A) (field : Entry → A) (numbers cells : List ℕ)
      → All (λ number. number < bound) numbers → map tell numbers ≡ map field (entries_of rows)
      → IsColumn numbers (concat lists) cells
      → All (λ number. number < bound) (cells_of lists cells k)
      × (map tell (cells_of lists cells k) ≡ map field (filter passes (entries_of rows)))
  numbers_at bound tell field numbers cells small told column = (
    kept (λ number. number < bound) tell field numbers cells 0 told (column 0) small,
    said tell field numbers cells 0 told (column 0),
  )

  -- list `k` has the places of the rows that pass `test`. If `numbers` has the values of all rows, then the cells of
  -- key `k` in a column made from `numbers` are the values of the rows that pass
  pub values_at : (values : List Value) (numbers cells : List ℕ) → AreValues values (entries_of rows) numbers
      → IsColumn numbers (concat lists) cells
      → AreValues values (filter (λ (entry : Entry). test entry.row) (entries_of rows)) (cells_of lists cells k)
  values_at values numbers cells are column =
      let here = numbers_at (length values) (value_at values) (λ entry. entry.row.value) numbers cells are.within
      are.values column in
      record { within = here.0; values = here.1 }

  -- list `k` has the places of the rows that pass `test`. If `numbers` has the types of all rows, then the cells of key
  -- `k` in a column made from `numbers` are the types of the rows that pass
  pub types_at : (types : List ℕ) (numbers cells : List ℕ) → AreTypes types (entries_of rows) numbers
      → IsColumn numbers (concat lists) cells
      → AreTypes types (filter (λ (entry : Entry). test entry.row) (entries_of rows)) (cells_of lists cells k)
  types_at types numbers cells are column =
      let here = numbers_at (length types) (slice_index types) (λ entry. entry.row.type_id) numbers cells are.within
      are.types column in
      record { within = here.0; types = here.1 }
