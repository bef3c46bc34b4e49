-- The name row that `first_name` gives comes before all others.
use Rattle.std.proofs.Common.{ℕ, ◌≡◌, List, [], ◌∷◌, None, Some, Bool, true, false, cond, nat_lt, not, ◌&&◌, ap, refl}
use Rattle.std.proofs.Common.{arith, subst, Contains, inl, inr}
use Rattle.std.proofs.lemmas.Bool.Decides.{nat_tests}
use Rattle.release_model.specs.Release.{Name}
use Rattle.number_lists.proofs.ListLemmas.{contained_cases, first_contained, rest_contained}
use Rattle.held_release.specs.Name.{NamesFirstRow, comes_before, first_name, first_of_two, is_in}

-- whether a row comes before another, by what this depends on: whether each is in the language, and their identifiers
abbrev pub before : Bool → Bool → ℕ → ℕ → Bool
before one other one_id other_id = cond (one && not other) true (cond (other && not one) false (nat_lt one_id other_id))

-- none of `rows` comes before `row`
abbrev NoneBefore : List ℕ → List Name → Name → Type 0
NoneBefore language rows row = (other : Name) → Contains rows other → comes_before language other row ≡ false

-- `row` is one of `rows`, and none of them comes before it
abbrev IsFirst : List ℕ → List Name → Name → Type 0
IsFirst language rows row = Contains rows row × NoneBefore language rows row

-- if one of two rows comes before the other, the other does not come before it
not_both : (one other : Bool) (one_id other_id : ℕ) → before one other one_id other_id ≡ true
    → before other one other_id one_id ≡ false
not_both one other one_id other_id comes = grind (arith, nat_tests)

-- no row comes before itself
not_itself : (one : Bool) (id : ℕ) → before one one id id ≡ false
not_itself one id = grind (arith, nat_tests)

-- if the first row does not come before the second, nor the second before the third, the first does not come before
-- the third
not_before : (one other third : Bool) (one_id other_id third_id : ℕ) → before one other one_id other_id ≡ false
    → before other third other_id third_id ≡ false → before one third one_id third_id ≡ false
not_before one other third one_id other_id third_id first second = grind (arith, nat_tests)

-- `first_of_two` of a row and the first of `rows` is the first of the row and `rows`
first_of_more : (language : List ℕ) (row first : Name) (rows : List Name) → IsFirst language rows first
    → IsFirst language (row ∷ rows) (first_of_two language row (Some first))
first_of_more language row first rows is = by (comes_before language first row) refl
  where
    by : (earlier : Bool) → comes_before language first row ≡ earlier
        → IsFirst language (row ∷ rows) (cond earlier first row)
    by true comes = (
      rest_contained row rows first is.0,
      λ other there. elim (contained_cases row rows other there) [
        | inl same ↦ subst (λ (other : Name). comes_before language other first ≡ false) same
            (not_both (is_in language first) (is_in language row) first.id row.id comes)
        | inr later ↦ is.1 other later
      ],
    )
    by false comes = (
      first_contained row rows,
      λ other there. elim (contained_cases row rows other there) [
        | inl same ↦ subst (λ (other : Name). comes_before language other row ≡ false) same
            (not_itself (is_in language row) row.id)
        | inr later ↦ not_before (is_in language other) (is_in language first) (is_in language row)
            other.id first.id row.id (is.1 other later) comes
      ],
    )

-- `first_of_two` of a row and the first of the later rows is the first of all
first_of_all : (language : List ℕ) (row : Name) (rows : List Name)
    → IsFirst language (row ∷ rows) (first_of_two language row (first_name language rows))
first_of_all language row [] = grind (arith, first_contained, is_in)
first_of_all language row (next ∷ rows) =
    first_of_more language row (first_of_two language next (first_name language rows)) (next ∷ rows)
    (first_of_all language next rows)

-- the row that `first_name` gives is a first one
some_first : (language : List ℕ) (rows : List Name) (row : Name) → first_name language rows ≡ Some row
    → IsFirst language rows row
some_first language [] row found = (cc)
some_first language (first ∷ rows) row found =
    grind (
      arith,
      (first_of_two language first (first_name language rows)),
      (first_name language rows),
      (first_of_all language first rows),
    )

-- if `first_name` gives none, there are no rows
none_first : (language : List ℕ) (rows : List Name) → first_name language rows ≡ None → rows ≡ []
none_first language [] none = refl
none_first language (row ∷ rows) none = (cc)

-- `first_name` gives one of the rows, and no other row comes before it; it gives none exactly if there are no rows
pub names_first_row : NamesFirstRow
names_first_row language rows =
    (some_first language rows, (none_first language rows, λ none. ap (first_name language) none))
