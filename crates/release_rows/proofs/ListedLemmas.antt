-- The lists that a load makes of all rows and of the chosen ones.
use Rattle.std.proofs.Common.{◌≡◌, ◌∙◌, List, [], ◌∷◌, ◌++◌, append_assoc, ap, refl, sym, map, append-nil, arith}
use Rattle.std.proofs.lemmas.List.{map-append}
use Rattle.std.proofs.lemmas.List.Elements.{filter_map-append}
use Rattle.rf2_rows.specs.RowTexts.{RowText}
use Rattle.release_rows.specs.Files.{text_of_row, RowAt}
use Rattle.release_rows.specs.inside.RowStore.{RowStore, kept_following, nothing_kept}
use Rattle.row_lists.specs.ReleaseLists.{listed_of}
use Rattle.row_lists.specs.ChosenLists.{listed_after}
use Rattle.release_rows.specs.declared.limits.Limits.{Limits}
use Rattle.release_rows.specs.inside.FirstPass.{kept_rows}

-- if the lists so far are made of `front`, the lists after `rows` are made of `front` followed by `rows`
listed-more : (kept : RowStore) (front : List RowText) (rows : List RowAt) → kept.listed ≡ listed_of front
    → (kept_rows kept rows).listed ≡ listed_of (front ++ map text_of_row rows)
listed-more kept front [] same = same ∙ ap (λ (rows : List RowText). listed_of rows) (sym (append-nil front))
listed-more kept front (row ∷ rows) same =
    grind (
      arith,
      kept_following,
      text_of_row,
      listed_after,
      map-append,
      filter_map-append,
      listed_of,
      append_assoc,
      (listed-more (kept_following kept row) (front ++ text_of_row row ∷ []) rows),
    )

-- the lists that the first pass has after `rows` are `listed_of` of these rows
pub listed-rows : (limits : Limits) (rows : List RowAt)
    → (kept_rows (nothing_kept limits) rows).listed ≡ listed_of (map text_of_row rows)
listed-rows limits rows = listed-more (nothing_kept limits) [] rows refl
