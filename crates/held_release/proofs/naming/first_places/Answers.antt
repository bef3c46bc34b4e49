-- The row before `place`, and the rows from `place` on.
use Rattle.std.proofs.Common.{ℕ, ◌≡◌, ◌<◌, ◌-◌, ◌==◌, List, length, Some, get_or, set, drop, sym, ◌∙◌, subst, arith}
use Rattle.row_lists.specs.LentRows.{name_read}
use Rattle.held_release.specs.inside.FirstRows.{AreFirstPlaces}
use Rattle.held_release.specs.Numbering.{concept_number}
use Rattle.release_model.specs.Release.{Name}
use Rattle.held_release.proofs.FirstRowLemmas.{first_places-other, first_places-own, first_within, name_at, names_from}
use Rattle.held_release.proofs.FirstRowLemmas.{place_read}
use Rattle.std.proofs.lemmas.List.Quantifiers.{position-Some}
use Rattle.held_release.proofs.naming.first_places.Goals as goal

-- the place so far of the row's concept is below the number of rows
pub first_of_two-first-requires-clause-later : goal.first_of_two-first-requires-clause-later
first_of_two-first-requires-clause-later c =
    let names = c.args.names.now in
    let keys = c.args.concepts.now in
    let read = place_read c.args.language.now keys c.number.result names
    (drop c.loop-place.place names) c.loop-place.places.items c.in-Some.number c.index-later.result.now
    c.loop-place.invariant (sym c.index_of.ensures ∙ c.in-Some.is) c.index-later.ensures in
    first_within c.args.language.now (get_or keys c.in-Some.number 0) names
    (drop c.loop-place.place names) c.index-later.result.now
    (grind (arith, read.1, (c.loop-place.invariant.1 c.in-Some.number read.0)))

-- with a row of a concept in force, the concept's place is that of the first of both
pub loop-place-preserved-in-Some : goal.loop-place-preserved-in-Some
loop-place-preserved-in-Some c =
    let names = c.args.names.now in
    let keys = c.args.concepts.now in
    let following = drop c.loop-place.place names in
    let row = name_read c.row.result in
    let is : row ≡ get_or names (c.loop-place.place - 1) row = c.row.ensures row in
    let own : concept_number keys row.concept ≡ Some c.in-Some.number =
    grind (arith, c.number.ensures.number, c.index_of.ensures, c.in-Some.is) in
    let read = place_read c.args.language.now keys row.concept names following c.loop-place.places.items
    c.in-Some.number c.index-later.result.now c.loop-place.invariant own c.index-later.ensures in
    subst (λ (some : List Name). AreFirstPlaces c.args.language.now keys names some
    (set c.loop-place.places.items c.in-Some.number (Some c.first_of_two-first.result)))
    (sym (names_from names c.loop-place.place row c.loop-place-test.true (omega arith) is))
    (first_places-own c.args.language.now keys names following row
    (c.loop-place.place - 1) c.in-Some.number c.first_of_two-first.result c.loop-place.places.items c.len.ensures.rising
    own
    (name_at names (c.loop-place.place - 1) row (omega arith) is) (grind (arith, read.1, c.first_of_two-first.ensures))
    c.loop-place.invariant)

-- a row of no concept in force changes no place
pub loop-place-preserved : goal.loop-place-preserved
loop-place-preserved c =
    let names = c.args.names.now in
    let row = name_read c.row.result in
    grind (
      arith,
      (names_from names c.loop-place.place row),
      (first_places-other c.args.language.now c.args.concepts.now names (drop c.loop-place.place names) row
          c.loop-place.places.items),
      (c.row.ensures row),
      c.number.ensures.number,
      c.index_of.ensures,
      c.in_default.is,
      c.loop-place.invariant,
    )

-- the number of a concept is below their count
number_below : (concepts : List ℕ) (id number : ℕ) → concept_number concepts id ≡ Some number → number < length concepts
number_below concepts id number found = (position-Some (λ other. id == other) concepts number 0 found).0

-- the number of the row's concept is within the places that are read
pub index-later-requires : goal.index-later-requires
index-later-requires c =
    let found = sym c.index_of.ensures ∙ c.in-Some.is in
    let below = number_below c.args.concepts.now c.number.result c.in-Some.number found in
    omega (arith, below, c.loop-place.places.ok.0, c.loop-place.invariant.0)

-- the number of the row's concept is within the places that are written
pub index_mut-requires : goal.index_mut-requires
index_mut-requires c =
    let found = sym c.index_of.ensures ∙ c.in-Some.is in
    let below = number_below c.args.concepts.now c.number.result c.in-Some.number found in
    omega (arith, below, c.loop-place.places.ok.0, c.loop-place.invariant.0)
