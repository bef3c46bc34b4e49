-- At each place the format is that of the column, and both texts are accepted in it.
use Rattle.std.proofs.Common.{◌≡◌, ℕ, ◌+◌, ◌<◌, ◌&&◌, Bool, true, List, [], ◌≤◌, length, get_or, drop, map, None, refl}
use Rattle.std.proofs.Common.{sym, ap, ◌∙◌, arith}
use Rattle.std.proofs.Math.ListN.{get_or-map, length-map}
use Rattle.std.proofs.lemmas.List.{drop_all, drop_more}
use Rattle.sctid.specs.declared.Part.TheVariants.{Concept}
use Rattle.rf2_rows.specs.Columns.{Column, cause_of, column, columns_of, id_format}
use Rattle.rf2_rows.specs.inside.Formats.{format_of}
use Rattle.rf2_rows.specs.Rows.{fields_fault}
use Rattle.rf2_rows.specs.Versions.{same_value, same_values}
use Rattle.rf2_rows.specs.declared.kind.FileKind.{FileKind}
use Rattle.rf2_rows.specs.declared.versions.Format.{Format as Named}
use Rattle.rf2_rows.specs.declared.versions.Format.TheVariants.{Id}
use Rattle.rf2_rows.proofs.Accepted.{accepted_at, format_at, width_of_fields}
use Rattle.rf2_rows.proofs.Columns.{text_at}
use Rattle.rf2_rows.proofs.versions.same_fields.Goals as goal

-- a kind of file has at most 10 columns
few_columns : (kind : FileKind) → length (columns_of kind) ≤ 10
few_columns kind = grind arith

-- the name of the format of the column at a place
abbrev named_at : List Named → ℕ → Named
named_at names place = get_or names place (Id Concept)

module _ (kind : FileKind) (names : List Named)
    (are : map format_of names ≡ map (λ column. column.format) (columns_of kind)) where
  -- there is one format name for each column of the kind
  as_many : length names ≡ length (columns_of kind)
  as_many =
      sym (length-map names format_of) ∙ ap length are ∙ length-map (columns_of kind) (λ column. column.format)

  -- the name at a place names the format of the column at that place
  named : (place : ℕ) → format_of (named_at names place) ≡ format_at (columns_of kind) place
  named place =
      sym (get_or-map format_of names place (Id Concept))
      ∙ ap (λ formats. get_or formats place (id_format Concept)) are
      ∙ get_or-map (λ (column : Column). column.format) (columns_of kind) place (column [] (id_format Concept))

  -- accepted fields have a field for each name
  within : (fields : List (List ℕ)) (place : ℕ) → fields_fault kind fields ≡ None
      → place < length names → place < length fields
  within fields place accepted inside =
      omega (arith, as_many, width_of_fields kind fields accepted)

  -- the text at a place of accepted fields is accepted in its column
  accepted_there : (fields : List (List ℕ)) (place : ℕ) → fields_fault kind fields ≡ None
      → place < length names → cause_of (format_of (named_at names place)) (text_at fields place) ≡ None
  accepted_there fields place accepted inside =
      rw (named place)
      (accepted_at kind fields place accepted (omega (arith, as_many)))

  module _ (ones others : List (List ℕ)) (accepted : fields_fault kind ones ≡ None)
      (also : fields_fault kind others ≡ None) where
    -- the fields from a place on are one exactly if the values at the place are one and the fields after it are
    decides : (place : ℕ) (one other : List ℕ) (same : Bool) → place < length names
        → one ≡ text_at ones place → other ≡ text_at others place
        → same ≡ same_value (format_of (named_at names place)) one other
        → same_values (drop place (columns_of kind)) (drop place ones) (drop place others)
        ≡ (same && same_values (drop (place + 1) (columns_of kind)) (drop (place + 1) ones)
        (drop (place + 1) others))
    decides place one other same inside here there is =
        let width = width_of_fields kind ones accepted in
        let width_also = width_of_fields kind others also in
        rw (
          drop_more (columns_of kind) place (column [] (id_format Concept)) (omega (arith, as_many)),
          drop_more ones place [] (omega (arith, as_many)),
          drop_more others place [] (omega (arith, as_many)),
          is,
          here,
          there,
          named place,
        ) refl

    -- after the last place nothing is left that could differ
    decided : (place : ℕ) → length names ≡ place
        → same_values (drop place (columns_of kind)) (drop place ones) (drop place others) ≡ true
    decided place all =
        let width = width_of_fields kind ones accepted in
        let width_also = width_of_fields kind others also in
        rw (
          drop_all place (columns_of kind) (omega (arith, as_many)),
          drop_all place ones (omega (arith, as_many)),
          drop_all place others (omega (arith, as_many)),
        ) refl

-- the place is within `ones`
pub at-one-requires : goal.at-one-requires
at-one-requires c =
    within c.args.kind c.formats-format-items.result.now c.formats-format-items.ensures
    c.args.ones.now c.loop-place.place c.requires.one c.loop-place-test.true

-- the place is within `others`
pub at-other-requires : goal.at-other-requires
at-other-requires c =
    within c.args.kind c.formats-format-items.result.now c.formats-format-items.ensures
    c.args.others.now c.loop-place.place c.requires.other c.loop-place-test.true

-- the text at the place in `ones` is accepted in its column
pub same_value-requires-clause-one : goal.same_value-requires-clause-one
same_value-requires-clause-one c =
    rw c.at-one.ensures
    (accepted_there c.args.kind c.formats-format-items.result.now c.formats-format-items.ensures
    c.args.ones.now c.loop-place.place c.requires.one c.loop-place-test.true)

-- the text at the place in `others` is accepted in its column
pub same_value-requires-clause-other : goal.same_value-requires-clause-other
same_value-requires-clause-other c =
    rw c.at-other.ensures
    (accepted_there c.args.kind c.formats-format-items.result.now c.formats-format-items.ensures
    c.args.others.now c.loop-place.place c.requires.other c.loop-place-test.true)

-- two values that differ at the place make the rows differ
pub returns-then-not-same_value : goal.returns-then-not-same_value
returns-then-not-same_value c =
    let step = decides c.args.kind c.formats-format-items.result.now c.formats-format-items.ensures c.args.ones.now
    c.args.others.now c.requires.one c.requires.other c.loop-place.place c.at-one.result.now c.at-other.result.now
    c.same_value.result c.loop-place-test.true c.at-one.ensures c.at-other.ensures c.same_value.ensures in
    sym (c.loop-place.invariant ∙ rw c.if-not-same_value.true at step)

-- two equal values at the place leave the decision to the columns after it
pub loop-place-preserved : goal.loop-place-preserved
loop-place-preserved c =
    let step = decides c.args.kind c.formats-format-items.result.now c.formats-format-items.ensures c.args.ones.now
    c.args.others.now c.requires.one c.requires.other c.loop-place.place c.at-one.result.now c.at-other.result.now
    c.same_value.result c.loop-place-test.true c.at-one.ensures c.at-other.ensures c.same_value.ensures in
    c.loop-place.invariant ∙ rw c.if-not-same_value.false at step

-- after the last column, all values were equal
pub returns : goal.returns
returns c =
    let all = decided c.args.kind c.formats-format-items.result.now c.formats-format-items.ensures c.args.ones.now
    c.args.others.now c.requires.one c.requires.other c.loop-place.place (omega arith) in
    sym (c.loop-place.invariant ∙ all)
