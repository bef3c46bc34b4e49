use Rattle.std.proofs.Common.{ℕ, ◌≡◌, ◌<◌, ◌∙◌, List, Option, ap, arith, get_or, length, map, slice_get, subst, sym}
use Rattle.std.proofs.lemmas.List.{get_or-map, length-map}
use Rattle.std.proofs.lemmas.Option.{slice_get-get_or}
use Rattle.held_release.specs.Numbering.{concept_number}
use Rattle.postings.specs.inside.IndexInside.{indexed_in}
use Rattle.postings.specs.Indexed.{Indexed, concept_of_type, types_of}
use Rattle.postings.proofs.index.Indexes.type_concept.Goals as goal

-- the concept at a place is that of the type there
told : (indexed : Indexed) (concepts : List (Option ℕ)) (place : ℕ) (found : Option ℕ)
    → concepts ≡ map (concept_number indexed.concepts) (types_of indexed.rows) → place < length (types_of indexed.rows)
    → found ≡ get_or concepts place found → found ≡ concept_of_type indexed (slice_get (types_of indexed.rows) place)
told indexed concepts place found are below is =
    let types = types_of indexed.rows in
    is
    ∙ ap (λ (all : List (Option ℕ)). get_or all place found) are
    ∙ get_or-map (concept_number indexed.concepts) types place 0 found below
    ∙ sym (ap (concept_of_type indexed) (slice_get-get_or types place 0 below))

-- the concept found for a place is that of the type at the place
pub returns-in-Some : goal.returns-in-Some
returns-in-Some c =
    let lookup = c.in-Some.ensures.lookup in
    let inside = c.self.inside in
    let found = c.in-Some.concept.now in
    let indexed : Indexed = indexed_in inside in
    let ids = c.self.invariant.rows.ids ∙ c.self.invariant.rows.coded.types in
    let are : c.as_slice.result.now ≡ map (concept_number inside.concepts.items) (types_of indexed.rows) =
    c.as_slice.ensures.value ∙ c.self.invariant.types ∙ ap (map (concept_number inside.concepts.items)) ids in
    let below : c.args.place < length (types_of indexed.rows) =
    omega (
      arith,
      lookup.3.0,
      ap (λ (concepts : List (Option ℕ)). length concepts) are,
      length-map (types_of indexed.rows) (concept_number inside.concepts.items),
    ) in
    subst (λ (now : Indexed). found ≡ concept_of_type now (slice_get (types_of now.rows) c.args.place)) c.self.view_is
    (told indexed c.as_slice.result.now c.args.place found are below lookup.1)
