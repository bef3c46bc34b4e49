use Rattle.std.proofs.Common.{ℕ, ◌≡◌, ◌<◌, ◌∙◌, List, All, length, map, slice_index_or, sym, ap, subst}
use Rattle.std.specs.List.{concat}
use Rattle.postings.specs.inside.Cells.{IsColumn}
use Rattle.postings.specs.Places.{places_by}
use Rattle.postings.proofs.ColumnLemmas.{places_by-within}
use Rattle.postings.proofs.columns.row_lists.Goals as goal

-- the places of all keys are within any column that has as many cells as there are keys
within : (count : ℕ) (keys flat : List ℕ) (cells : ℕ) → flat ≡ concat (places_by count keys) → cells ≡ length keys
    → All (λ place. place < cells) flat
within count keys flat cells is long =
    subst (λ (places : List ℕ). All (λ place. place < cells) places) (sym is)
    (subst (λ (n : ℕ). All (λ place. place < n) (concat (places_by count keys))) (sym long)
    (places_by-within count keys))

-- a column made from a borrowed copy of the cells is a column of the cells
told : {X : Type 0} (cells lent : List X) (places flat : List ℕ) (column : List X) → lent ≡ cells → flat ≡ places
    → IsColumn lent flat column → IsColumn cells places column
told cells lent places flat column lent_is is made default =
    made default ∙ (λ i. map (λ place. slice_index_or (lent_is i) place default) (is i))

-- the listed places are within the marks with the sources
pub column-requires : goal.column-requires
column-requires c =
    within c.args.count c.args.keys.now c.flat.result.now (length c.as_slice.result.now) (c.flat.ensures
    ∙ ap concat c.in_ok-rows.ensures)
    (c.as_slice.ensures.len ∙ c.requires.sources)

-- the listed places are within the other cells
pub column-requires-2 : goal.column-requires-2
column-requires-2 c =
    within c.args.count c.args.keys.now c.flat-2.result.now (length c.args.others.now) (c.flat-2.ensures
    ∙ ap concat c.in_ok-rows.ensures)
    c.requires.others

-- the listed places are within the marks with the groups
pub column-requires-3 : goal.column-requires-3
column-requires-3 c =
    within c.args.count c.args.keys.now c.flat-3.result.now (length c.as_slice-2.result.now)
    (c.flat-3.ensures ∙ ap concat c.in_ok-rows.ensures)
    (c.as_slice-2.ensures.len ∙ c.requires.groups)

-- `row_lists` returns the rows of each key, with a column of each kind of cell
pub returns : goal.returns
returns c =
    let places = concat (places_by c.args.count c.args.keys.now) in
    let marks = c.args.marks.now in
    record {
      rows = c.in_ok-rows.ensures;
      sources = told marks.sources.items c.as_slice.result.now places c.flat.result.now c.in_ok-sources.sources.items
          c.as_slice.ensures.value (c.flat.ensures ∙ ap concat c.in_ok-rows.ensures) c.in_ok-sources.ensures;
      others = told c.args.others.now c.args.others.now places c.flat-2.result.now c.in_ok-others.others.items
          (λ _. c.args.others.now) (c.flat-2.ensures ∙ ap concat c.in_ok-rows.ensures) c.in_ok-others.ensures;
      groups = told marks.groups.items c.as_slice-2.result.now places c.flat-3.result.now c.in_ok-groups.groups.items
          c.as_slice-2.ensures.value (c.flat-3.ensures ∙ ap concat c.in_ok-rows.ensures) c.in_ok-groups.ensures;
    }
