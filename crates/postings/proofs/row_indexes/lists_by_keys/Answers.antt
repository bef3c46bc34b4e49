use Rattle.std.proofs.Common.{ℕ, ◌≡◌, ◌<◌, ◌∙◌, List, length, sym, ap, subst, arith}
use Rattle.std.specs.Prelude.{All, Contains}
use Rattle.std.specs.List.{concat}
use Rattle.postings.specs.Places.{places_by}
use Rattle.postings.proofs.ColumnLemmas.{places_by-within}
use Rattle.postings.proofs.InverseLemmas.{each_place}
use Rattle.postings.proofs.SourceRowLemmas.{length-places}
use Rattle.postings.proofs.row_indexes.lists_by_keys.Goals as goal
use Rattle.postings.proofs.row_indexes.lists_by_keys.Goals.{In_ok-by_type}

-- the flat list has the rows of all types, one type after the other
listed : (c : In_ok-by_type)
    → concat c.in_ok-by_type.by_type.rows ≡ concat (places_by c.args.types c.as_slice-type_places.result.now)
listed c = ap concat c.in_ok-by_type.ensures.rows

-- there are less than 2^32 rows in the lists by type
pub places_among-requires-clause-few : goal.places_among-requires-clause-few
places_among-requires-clause-few c =
    let keys = c.as_slice-type_places.result.now in
    omega (
      arith,
      ap (λ (xs : List ℕ). length xs) (c.flat.ensures
          ∙ listed (goal.at.places_among-requires-clause-few c).In_ok-by_type),
      length-places c.args.types keys,
      ap (λ (xs : List ℕ). length xs) c.as_slice-type_places.ensures.value,
      c.requires.long.few,
    )

-- each row in the lists by type is below the number of rows
pub places_among-requires-clause-within : goal.places_among-requires-clause-within
places_among-requires-clause-within c =
    let keys = c.as_slice-type_places.result.now in
    subst (λ (xs : List ℕ). All (λ n. n < length keys) xs)
    (sym (c.flat.ensures ∙ listed (goal.at.places_among-requires-clause-within c).In_ok-by_type))
    (places_by-within c.args.types keys)

-- the lists by type have each row
pub places_among-requires-clause-all : goal.places_among-requires-clause-all
places_among-requires-clause-all c = λ number below.
    let keys = c.as_slice-type_places.result.now in
    subst (λ (xs : List ℕ). Contains xs number)
    (sym (c.flat.ensures ∙ listed (goal.at.places_among-requires-clause-all c).In_ok-by_type))
    (each_place c.args.types keys
    (subst (λ (xs : List ℕ). All (λ key. key < c.args.types) xs) (sym c.as_slice-type_places.ensures.value)
    c.requires.types)
    number below)
