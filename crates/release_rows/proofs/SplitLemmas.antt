-- Cutting rows around one of them: if two rows of one version both come first, they are one row.
use Rattle.std.proofs.lemmas.Bool.Decides.{nat_tests}
use Rattle.std.proofs.lemmas.Grind.{common_steps}
use Rattle.std.proofs.Common.{◌≡◌, ◌<◌, List, ◌∷◌, ◌++◌, length, get_or, Bool, true, false, sym, ◌∙◌, ap, refl, arith}
use Rattle.std.proofs.Common.{Contains}
use Rattle.std.specs.List.{list_any}
use Rattle.std.proofs.lemmas.Bool.{cases_order, false≢true}
use Rattle.std.proofs.lemmas.List.{get_or_append_left, get_or_at}
use Rattle.std.proofs.lemmas.List.Elements.{Contains-append_right}
use Rattle.std.proofs.lemmas.List.Folds.{list_any_at}
use Rattle.release_rows.specs.inside.KeyedRows.{KeyedRow, is_repeated, same_version}

-- if a member of a list passes a test, some item passes it
pub any_of : {X : Type 0} (p : X → Bool) (xs : List X) (x : X) → Contains xs x → p x ≡ true → list_any p xs ≡ true
any_of p xs x there passes = list_any_at p xs there.0 x there.1 (ap p there.2 ∙ passes)

-- a list that is cut around a row contains that row
pub Contains-cut : (before : List KeyedRow) (row : KeyedRow) (following : List KeyedRow)
    → Contains (before ++ row ∷ following) row
Contains-cut before row following = Contains-append_right before (row ∷ following) row (0, omega arith, refl)

module _ (before : List KeyedRow) (row : KeyedRow) (following before' : List KeyedRow) (row' : KeyedRow)
    (following' : List KeyedRow) (same : before ++ row ∷ following ≡ before' ++ row' ∷ following') where
  row_in_rows : get_or (before' ++ row' ∷ following') (length before) row ≡ row
  row_in_rows = ap (λ (rows : List KeyedRow). get_or rows (length before) row) (sym same)
      ∙ get_or_at before row following row (length before) refl

  -- two cuts of one list at one index are around one row
  pub one_at : length before ≡ length before' → row ≡ row'
  one_at long = sym row_in_rows ∙ get_or_at before' row' following' row (length before) (sym long)

  -- if a list is cut twice, the row of the earlier cut is before the later cut
  cut_earlier : length before < length before' → Contains before' row
  cut_earlier less = (
    length before,
    less,
    sym (get_or_append_left before' (row' ∷ following') row (length before) less)
        ∙ row_in_rows,
  )

-- if one list is cut around `row` and around `row'`, both of one version and each the first of it, they are the same
-- row at the same index
pub one_first : (before : List KeyedRow) (row : KeyedRow) (following before' : List KeyedRow) (row' : KeyedRow)
    (following' : List KeyedRow)
    → before ++ row ∷ following ≡ before' ++ row' ∷ following' → is_repeated before row ≡ false
    → is_repeated before' row' ≡ false
    → same_version row row' ≡ true → same_version row' row ≡ true → (row ≡ row') × (length before ≡ length before')
one_first before row following before' row' following' same first first' one other =
    grind (arith, common_steps, nat_tests, any_of, cases_order, cut_earlier, false≢true, one_at)
