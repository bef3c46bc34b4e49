use Rattle.std.proofs.Common.{ℕ, ◌≡◌, ◌<◌, ◌∙◌, List, Some, length, get_or, ap, sym, subst, arith, slice_get, true}
use Rattle.std.specs.Prelude.{slice_index}
use Rattle.std.proofs.lemmas.List.{get_or-map, get_or_default, length-map}
use Rattle.std.proofs.lemmas.Option.{slice_get-get_or}
use Rattle.release_model.specs.Release.{Attribute}
use Rattle.rf2_rows.specs.Rows.{value_lent}
use Rattle.held_release.specs.AttributesBySource.{attribute_of, attributes_by_source, with_source}
use Rattle.held_release.specs.CodedRows.{IsCoded, row_coded, value_at, values_in}
use Rattle.held_release.specs.Contents.{Contents}
use Rattle.held_release.specs.ValuesInForce.{is_value_among}
use Rattle.held_release.specs.inside.Sorted.{sorted_in}
use Rattle.held_release.specs.declared.coded_rows.CodedRow.{CodedRow}
use Rattle.held_release.proofs.SortedLemmas.{All-sorted, none}
use Rattle.held_release.proofs.held_release.Snapshot.attribute_row.Goals as goal
use Rattle.held_release.proofs.held_release.Snapshot.attribute_row.Goals.{After-value_at}

-- the attribute with the number `n` is `told`
record IsTold (attributes : List Attribute) (n : ℕ) (told : Attribute) : Type 0 where
  below : n < length attributes
  found : get_or attributes n none ≡ told

-- the attribute that the coded row with the number `n` means is what is answered
told : (c : After-value_at)
    → IsTold (sorted_in c.self.inside.concepts c.self.inside.attributes).rows c.args.n (record {
      source = slice_index c.self.inside.concepts c.index-row.result.now.source;
      type_id = c.index.result.now;
      group = c.index-row.result.now.group;
      value = value_lent c.value_at.result;
    })
told c =
    let inside = c.self.inside in
    let concepts = inside.concepts in
    let coded = inside.attributes in
    let rows = coded.rows.items in
    let types = coded.types.items in
    let values = values_in concepts coded.values in
    let meant : CodedRow → Attribute = row_coded concepts types values in
    let row = c.index-row.result.now in
    let below : c.args.n < length rows =
    omega (
      arith,
      c.requires,
      c.self.invariant.5.count,
      length-map rows meant,
      ap (λ (contents : Contents). length contents.release.attributes) c.self.view_is,
    ) in
    let read : row ≡ get_or rows c.args.n row = c.index-row.ensures in
    let is : IsCoded concepts types values row =
    subst (IsCoded concepts types values) (sym read) (c.self.invariant.6.within c.args.n row below) in
    record {
      below = omega (arith, below, length-map rows meant);
      found = get_or-map meant rows c.args.n row none below
          ∙ ap meant (sym read)
          ∙ (λ i. record {
            source = slice_index concepts row.source;
            type_id = (get_or_default types row.type_place 0 c.index.result.now is.type_place
                ∙ sym c.index.ensures) i;
            group = row.group;
            value = (sym (c.value_at.ensures
                ∙ ap (λ (ids : List ℕ). value_at (values_in ids coded.values) row.value) c.ids.ensures)) i;
          });
    }

-- the row is the one with number `n` by source
pub returns-clause-row : goal.returns-clause-row
returns-clause-row c =
    let row = c.index-row.result.now in
    let attributes = (sorted_in c.self.inside.concepts c.self.inside.attributes).rows in
    let is = told (goal.at.returns-clause-row c).After-value_at in
    subst (λ (contents : Contents). slice_get (attributes_by_source contents.release) c.args.n
    ≡ Some (with_source contents.release.concepts (attribute_of (record {
      source = row.source;
      type_id = c.index.result.now;
      group = row.group;
      value = c.value_at.result;
    })))) c.self.view_is
    (ap (λ (attributes : List Attribute). slice_get attributes c.args.n) (sym c.self.invariant.5.by_source)
    ∙ slice_get-get_or attributes c.args.n none is.below
    ∙ ap (λ (found : Attribute). Some found) is.found)

-- a value that is a concept is in force
pub returns-clause-value : goal.returns-clause-value
returns-clause-value c =
    let concepts = c.self.inside.concepts in
    let is = told (goal.at.returns-clause-value c).After-value_at in
    let among : Attribute → Type 0 = λ attribute. is_value_among concepts attribute.value ≡ true in
    subst (λ (contents : Contents). is_value_among contents.release.concepts (value_lent c.value_at.result) ≡ true)
    c.self.view_is
    (subst among is.found
    (All-sorted among concepts (sorted_in concepts c.self.inside.attributes) c.self.invariant.5 c.self.invariant.7
    c.args.n none is.below))
