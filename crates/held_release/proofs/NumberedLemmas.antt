-- Attribute rows with numbers of concepts mean the attributes in force.
use Rattle.std.proofs.Common.{ℕ, ◌==◌, ◌&&◌, ◌≡◌, ◌≤◌, ◌<◌, ◌++◌, ◌∷◌, [], ◌∙◌, List, All, Some, None, true, false}
use Rattle.std.proofs.Common.{Option, cond, filter_map, length, get_or, map, is_some, refl, sym, ap, subst, arith}
use Rattle.std.proofs.Common.{eqb-true, option_map}
use Rattle.std.proofs.lemmas.List.Elements.{All-cons, All-head, All-nil, All-tail, filter-append}
use Rattle.std.proofs.lemmas.List.Quantifiers.{position-Some}
use Rattle.release_model.specs.Release.{Attribute, Value, concept_value}
use Rattle.number_lists.specs.Members.{has}
use Rattle.row_lists.specs.ConcreteValues.{Concrete, a_number, a_text, concrete_value, no_text}
use Rattle.row_lists.specs.KeptRows.{IsKeptIn, IsValueIn, attribute_kept, value_kept}
use Rattle.row_lists.specs.declared.attributes.KeptRow.{KeptRow}
use Rattle.row_lists.specs.declared.attributes.KeptValue.{KeptValue}
use Rattle.row_lists.specs.declared.attributes.KeptValue.TheVariants.{Concept as KeptConcept}
use Rattle.row_lists.specs.declared.attributes.KeptValue.TheVariants.{Concrete as KeptConcrete}
use Rattle.held_release.specs.AttributesBySource.{IsNumberBelow, by_identifiers, value_by_identifier}
use Rattle.held_release.specs.Finished.{attributes_among}
use Rattle.held_release.specs.Numbering.{concept_number}
use Rattle.held_release.specs.ValuesInForce.{is_value_among}
use Rattle.held_release.specs.inside.NumberedInside.{IsNumbered, IsWithinNumbered, attributes_numbered, numbered_of}
use Rattle.held_release.specs.inside.NumberedInside.{row_numbered, row_with, value_number, value_numbered}
use Rattle.held_release.specs.declared.numbered_attributes.NumberedRow.{NumberedRow}
use Rattle.held_release.specs.declared.numbered_attributes.ValueNumber.{ValueNumber}
use Rattle.held_release.specs.declared.numbered_attributes.ValueNumber.TheVariants.{Concept, Concrete as ConcreteAt}
use Rattle.held_release.proofs.NumberingLemmas.{number_has}

module _ (concepts : List ℕ) (values : List Concrete) where
  -- ---- one value
  -- `number` means `value`, which is one of `concepts` or no concept
  record IsOwnNumber (value : Value) (number : ValueNumber) : Type 0 where
    among : is_value_among concepts value ≡ true
    same : value_by_identifier concepts (value_numbered values number) ≡ value
    below : IsNumberBelow (length concepts) (value_numbered values number)
    within : IsWithinNumbered values number

  -- if there is a number, it means the value; if there is none, the value is a concept that is not in `concepts`
  abbrev IsNumberOf : Value → Option ValueNumber → Type 0
  IsNumberOf value None = is_value_among concepts value ≡ false
  IsNumberOf value (Some number) = IsOwnNumber value number

  -- a concept without a number is not in `concepts`
  concept_none : (concept : ℕ) → concept_number concepts concept ≡ None → has concepts concept ≡ false
  concept_none concept none = sym (number_has concepts concept) ∙ ap is_some none

  -- an identifier with a number is in `concepts`, at this number
  concept_found : (concept number : ℕ) → concept_number concepts concept ≡ Some number
      → (has concepts concept ≡ true) × (number < length concepts) × (concept ≡ get_or concepts number 0)
  concept_found concept number found =
      let at = position-Some (λ other. concept == other) concepts number 0 found in (
        sym (number_has concepts concept) ∙ ap is_some found,
        at.0,
        eqb-true concept (get_or concepts number 0) at.1,
      )

  -- the index of a value that is no concept means this value
  concrete_own : (place : ℕ) (value : Concrete) → place < length values → get_or values place no_text ≡ value
      → IsOwnNumber (concrete_value value) (ConcreteAt place)
  concrete_own place (a_number number) within is = record {
    among = refl;
    same = ap (λ (value : Concrete). value_by_identifier concepts (concrete_value value)) is;
    below = subst (λ (value : Concrete). IsNumberBelow (length concepts) (concrete_value value)) (sym is) tt;
    within = within;
  }
  concrete_own place (a_text text) within is = record {
    among = refl;
    same = ap (λ (value : Concrete). value_by_identifier concepts (concrete_value value)) is;
    below = subst (λ (value : Concrete). IsNumberBelow (length concepts) (concrete_value value)) (sym is) tt;
    within = within;
  }

  -- the number of a kept value means the value
  number_own : (value : KeptValue) → IsValueIn values value
      → IsNumberOf (value_kept values value) (value_number concepts value)
  number_own (KeptConcrete place) within = concrete_own place (get_or values place no_text) within refl
  number_own (KeptConcept concept) within = by (concept_number concepts concept) refl
    where
      by : (number : Option ℕ) → concept_number concepts concept ≡ number
          → IsNumberOf (concept_value concept) (option_map Concept number)
      by None none = concept_none concept none
      by (Some number) is =
          let found = concept_found concept number is in
          record { among = found.0; same = ap concept_value (sym found.2); below = found.1; within = tt }

  -- ---- one row
  -- a numbered row means `attribute`, which is in force
  record IsOwnRow (attribute : Attribute) (row : NumberedRow) : Type 0 where
    among : attributes_among concepts (attribute ∷ []) ≡ by_identifiers concepts (row_numbered values row) ∷ []
    numbered : IsNumbered (length concepts) values row

  -- if there is a numbered row, it means the attribute; if there is none, the attribute is not in force
  abbrev IsRowOf : Attribute → Option NumberedRow → Type 0
  IsRowOf attribute None = attributes_among concepts (attribute ∷ []) ≡ []
  IsRowOf attribute (Some row) = IsOwnRow attribute row

  -- a kept row and its numbers
  row_own : (row : KeptRow) → IsKeptIn values row → IsRowOf (attribute_kept values row) (numbered_of concepts row)
  row_own row kept =
      by (concept_number concepts row.source) refl (value_number concepts row.value) (number_own row.value kept)
    where
      attribute : Attribute
      attribute = attribute_kept values row

      by : (source : Option ℕ) → concept_number concepts row.source ≡ source → (value : Option ValueNumber)
          → IsNumberOf attribute.value value → IsRowOf attribute (row_with row source value)
      by None none None own = λ i.
          cond (concept_none row.source none i && is_value_among concepts attribute.value) (attribute ∷ []) []
      by None none (Some value) own = λ i.
          cond (concept_none row.source none i && is_value_among concepts attribute.value) (attribute ∷ []) []
      by (Some source) is None own =
          let found = concept_found row.source source is in
          λ i. cond (found.0 i && own i) (attribute ∷ []) []
      by (Some source) is (Some value) own =
          let found = concept_found row.source source is in
          record {
            among = (λ i. cond (found.0 i && own.among i) (attribute ∷ []) [])
                ∙ (λ i. record {
                  source = found.2 i;
                  type_id = attribute.type_id;
                  group = attribute.group;
                  value = sym own.same i;
                } ∷ []);
            numbered = record { below = record { source = found.1; value = own.below }; within = own.within };
          }

  -- ---- all rows
  -- the numbered rows mean the attributes in force, their numbers are those of concepts and values, and they are no
  -- more than the kept rows
  pub record AreNumbered (kept : List KeptRow) (rows : List NumberedRow) : Type 0 where
    pub same : attributes_numbered concepts values rows ≡ attributes_among concepts (map (attribute_kept values) kept)
    pub numbered : All (IsNumbered (length concepts) values) rows
    pub count : length rows ≤ length kept

  -- the rows that `numbered_of` gives for kept rows mean the attributes in force
  pub rows_own : (rows : List KeptRow) → All (IsKeptIn values) rows
      → AreNumbered rows (filter_map (numbered_of concepts) rows)
  rows_own [] kept = record {
    same = refl;
    numbered = All-nil (IsNumbered (length concepts) values);
    count = omega arith;
  }
  rows_own (row ∷ rows) kept =
      by (rows_own rows (All-tail (IsKeptIn values) row rows kept)) (numbered_of concepts row) refl
      (row_own row (All-head (IsKeptIn values) row rows kept))
    where
      others : List NumberedRow
      others = filter_map (numbered_of concepts) rows

      attribute : Attribute
      attribute = attribute_kept values row

      split : attributes_among concepts (attribute ∷ map (attribute_kept values) rows)
          ≡ attributes_among concepts (attribute ∷ [])
          ++ attributes_among concepts (map (attribute_kept values) rows)
      split = filter-append (λ (attribute : Attribute). has concepts attribute.source
          && is_value_among concepts attribute.value) (attribute ∷ []) (map (attribute_kept values) rows)

      by : AreNumbered rows others → (numbered : Option NumberedRow) → numbered_of concepts row ≡ numbered
          → IsRowOf attribute numbered
          → AreNumbered (row ∷ rows) (filter_map (numbered_of concepts) (row ∷ rows))
      by later None is out = rw is record {
        same = later.same
            ∙ (λ i. sym out i ++ attributes_among concepts (map (attribute_kept values) rows))
            ∙ sym split;
        numbered = later.numbered;
        count = omega (arith, later.count);
      }
      by later (Some numbered) is own = rw is record {
        same = (λ i. sym own.among i ++ later.same i) ∙ sym split;
        numbered = All-cons (IsNumbered (length concepts) values) numbered others own.numbered later.numbered;
        count = omega (arith, later.count);
      }
