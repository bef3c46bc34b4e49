use Rattle.std.proofs.Common.{List, ap, arith, length}
use Rattle.release_model.specs.Release.{Name}
use Rattle.held_release.proofs.FinishLemmas.{length-names_among}
use Rattle.held_release.proofs.LineLemmas.{places_within}
use Rattle.held_release.proofs.lines.lines_among.Goals as goal

-- there are fewer than 2^32 names of the concepts, as the search for first places needs it
pub first_places-requires : goal.first_places-requires
first_places-requires c =
    omega (
      arith,
      ap (λ (names : List Name). length names) c.retain_among.ensures,
      length-names_among c.args.concepts.now c.args.names,
      c.requires,
    )

-- there are fewer than 2^32 names of the concepts, as the writing of lines needs it
pub lines_by_place-requires-clause-few : goal.lines_by_place-requires-clause-few
lines_by_place-requires-clause-few c =
    omega (
      arith,
      ap (λ (names : List Name). length names) c.retain_among.ensures,
      length-names_among c.args.concepts.now c.args.names,
      c.requires,
    )

-- each place is that of a name row
pub lines_by_place-requires-clause-within : goal.lines_by_place-requires-clause-within
lines_by_place-requires-clause-within c =
    grind (
      arith,
      c.as_slice.ensures.value,
      (places_within c.args.language.now c.args.concepts.now c.retain_among.new.self c.retain_among.new.self
          c.in_ok-places.places.items c.in_ok-places.ensures),
    )

-- the lines are those of the concepts with their names in the language
pub returns-clause-lines : goal.returns-clause-lines
returns-clause-lines c =
    grind (
      arith,
      c.ids.ensures,
      c.as_slice.ensures.value,
      c.in_ok-places.ensures,
      c.lines_by_place.ensures.names,
      (c.lines_by_place.ensures.lines),
    )
