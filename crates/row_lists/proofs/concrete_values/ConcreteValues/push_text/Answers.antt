use Rattle.std.proofs.Common.{◌++◌, ◌∷◌, ◌∙◌, [], List, ap, append-nil, arith, length, map, sym}
use Rattle.std.proofs.lemmas.List.{length-map, length_push}
use Rattle.std.proofs.lemmas.List.Elements.{All-weaker}
use Rattle.row_lists.specs.inside.ConcreteInside.{IsPlaced, concrete_in}
use Rattle.row_lists.specs.ConcreteValues.{Concrete, a_text}
use Rattle.row_lists.specs.Spans.{Extends}
use Rattle.row_lists.specs.declared.concrete_values.KeptConcrete.TheVariants.{Other}
use Rattle.row_lists.proofs.ConcreteLemmas.{concrete-extends, placed-extends}
use Rattle.row_lists.proofs.SpanLemmas.{all-push, rows-push, rows-same}
use Rattle.row_lists.proofs.concrete_values.ConcreteValues.push_text.Goals as goal

-- if the value cannot be added after its text was, the values stay the same
pub returns-in_err-push-clause-grown : goal.returns-in_err-push-clause-grown
returns-in_err-push-clause-grown c =
    let texts = c.self.inside.texts.items in
    let grown = c.push_bytes.new.texts.items in
    let extends : Extends texts grown = (c.args.text.now, c.in_ok-span.ensures.grown) in (
      [],
      ap (map (concrete_in grown)) c.in_err-push.ensures.items
          ∙ rows-same (concrete_in texts) (concrete_in grown) (IsPlaced texts)
          (concrete-extends texts grown extends) c.self.inside.values.items c.self.invariant
          ∙ c.self.view_is
          ∙ sym (append-nil c.args.self.now),
    )

-- after the value is added, all texts stand within the buffer
pub invariant_of-self-2 : goal.invariant_of-self-2
invariant_of-self-2 c =
    let texts = c.self.inside.texts.items in
    let grown = c.push_bytes.new.texts.items in
    let extends : Extends texts grown = (c.args.text.now, c.in_ok-span.ensures.grown) in
    all-push (IsPlaced texts) (IsPlaced grown) (placed-extends texts grown extends) c.self.inside.values.items
    c.push.new.self.items (Other c.in_ok-span.span)
    c.in_ok-push.ensures.items c.self.invariant c.in_ok-span.ensures.span.placed

-- adding a text adds one value at the end
pub returns-clause-grown : goal.returns-clause-grown
returns-clause-grown c =
    let texts = c.self.inside.texts.items in
    let grown = c.push_bytes.new.texts.items in
    let extends : Extends texts grown = (c.args.text.now, c.in_ok-span.ensures.grown) in
    let added : List Concrete = a_text c.args.text.now ∷ [] in (
      added,
      rows-push (concrete_in texts) (concrete_in grown) (IsPlaced texts) (concrete-extends texts grown extends)
          c.self.inside.values.items c.push.new.self.items
          (Other c.in_ok-span.span) (a_text c.args.text.now) c.in_ok-push.ensures.items c.self.invariant
          (ap a_text c.in_ok-span.ensures.span.same)
          ∙ ap (λ (values : List Concrete). values ++ added) c.self.view_is,
    )

-- the index that is answered is within the values
pub returns-clause-within : goal.returns-clause-within
returns-clause-within c = omega (
  arith,
  length-map c.push.new.self.items (concrete_in c.push_bytes.new.texts.items),
  ap length c.in_ok-push.ensures.items,
  length_push c.self.inside.values.items (Other c.in_ok-span.span),
  c.len-place.ensures,
)

-- if the value cannot be added, there are no more values than before
pub returns-in_err-push-clause-count : goal.returns-in_err-push-clause-count
returns-in_err-push-clause-count c = omega (
  arith,
  length-map c.push.new.self.items (concrete_in c.push_bytes.new.texts.items),
  ap length c.in_err-push.ensures.items,
  ap length c.self.view_is,
  length-map c.self.inside.values.items (concrete_in c.self.inside.texts.items),
)

-- if the value cannot be added, the texts still stand within the longer buffer
pub invariant_of-self-in_err-push : goal.invariant_of-self-in_err-push
invariant_of-self-in_err-push c =
    let texts = c.self.inside.texts.items in
    let grown = c.push_bytes.new.texts.items in
    rw c.in_err-push.ensures.items
    (All-weaker (IsPlaced texts) (IsPlaced grown)
    (placed-extends texts grown (c.args.text.now, c.in_ok-span.ensures.grown))
    c.self.inside.values.items c.self.invariant)
