use Rattle.std.proofs.Common.{ℕ, ◌+◌, ◌<◌, ◌∙◌, Some, ap, arith, length, subst, sym}
use Rattle.std.specs.Prelude.{Contains, slice_index_or}
use Rattle.std.specs.List.{slice_get}
use Rattle.std.proofs.lemmas.Option.{slice_get_within}
use Rattle.row_lists.specs.ConcreteValues.{Concrete, concrete_lent, concrete_value, no_text}
use Rattle.held_release.specs.AttributesBySource.{IsNumberBelow, value_by_identifier}
use Rattle.held_release.specs.CodedRows.{values_in}
use Rattle.held_release.specs.RowValues.{IsInTables}
use Rattle.held_release.specs.inside.NumberedInside.{value_numbered}
use Rattle.held_release.specs.declared.numbered_attributes.ValueNumber.{ValueNumber}
use Rattle.held_release.proofs.ValueLemmas.{concept_placed, had_concrete, length-values, length-values_after}
use Rattle.held_release.proofs.ValueLemmas.{same_concrete, value_placed, values_after}
use Rattle.held_release.proofs.values.Values.number.Goals as goal
use Rattle.held_release.proofs.values.Values.number.Goals.{After-place_of}

-- the place of a value, counted after the concepts, is below the number of all values
placed_below : (c : After-place_of)
    → length c.args.concepts.now + c.place_of.result < length (values_in c.args.concepts.now c.args.self.now)
placed_below c =
    let tables = c.args.self.now in
    omega (
      arith,
      length-values c.args.concepts.now tables.decimals.items tables.texts,
      length-values_after tables.decimals.items tables.texts,
      slice_get_within (values_after tables.decimals.items tables.texts) c.place_of.result
          (concrete_value (concrete_lent c.value.result)) c.place_of.ensures,
    )

-- a value that is among the values, and no concept, is in its table
pub place_of-requires-clause-there : goal.place_of-requires-clause-there
place_of-requires-clause-there c =
    let concepts = c.args.concepts.now in
    let tables = c.args.self.now in
    let has : ValueNumber → Type 0 =
    λ number. Contains (values_in concepts tables) (value_by_identifier concepts
    (value_numbered c.args.concrete.now number)) in
    subst (IsInTables tables.decimals.items tables.texts) (sym c.value.ensures)
    (had_concrete concepts tables.decimals.items tables.texts
    (slice_index_or c.args.concrete.now c.in-Concrete.place no_text)
    (subst has c.in-Concrete.is c.requires.there))

-- 32 bits hold the place of a value
pub overflow_cast-result : goal.overflow_cast-result
overflow_cast-result c =
    record { fits = omega (arith, c.requires.few, placed_below (goal.at.overflow_cast-result c).After-place_of) }

-- 32 bits hold the number of a value
pub overflow_add-result : goal.overflow_add-result
overflow_add-result c =
    record {
      fits = omega (
        arith,
        c.requires.few,
        placed_below (goal.at.overflow_add-result c).After-place_of,
        c.len.ensures.count,
      );
    }

-- the value with the number of a concept is the concept
pub returns-in-Concept : goal.returns-in-Concept
returns-in-Concept c =
    let concepts = c.args.concepts.now in
    let tables = c.args.self.now in
    let values = c.args.concrete.now in
    concept_placed concepts tables.decimals.items tables.texts c.in-Concept.number
    (subst (λ (number : ValueNumber). IsNumberBelow (length concepts) (value_numbered values number)) c.in-Concept.is
    c.requires.below)
    ∙ ap (λ (number : ValueNumber). Some (value_by_identifier concepts (value_numbered values number)))
    (sym c.in-Concept.is)

-- the value with the number of a decimal or a text is the decimal or the text
pub returns-in-Concrete : goal.returns-in-Concrete
returns-in-Concrete c =
    let concepts = c.args.concepts.now in
    let tables = c.args.self.now in
    let values = c.args.concrete.now in
    let value = slice_index_or values c.in-Concrete.place no_text in
    ap (λ (count : ℕ). slice_get (values_in concepts tables) (count + c.place_of.result)) c.len.ensures.count
    ∙ value_placed concepts tables.decimals.items tables.texts (concrete_value value) c.place_of.result
    (c.place_of.ensures ∙ ap (λ (value : Concrete). Some (concrete_value value)) c.value.ensures)
    ∙ ap (λ value. Some value) (sym (same_concrete concepts value))
    ∙ ap (λ (number : ValueNumber). Some (value_by_identifier concepts (value_numbered values number)))
    (sym c.in-Concrete.is)
