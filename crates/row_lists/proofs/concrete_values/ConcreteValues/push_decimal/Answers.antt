use Rattle.std.proofs.Common.{◌++◌, ◌∷◌, ◌∙◌, [], List, ap, arith, length, map}
use Rattle.std.proofs.lemmas.List.{length-map, length_push, map_push}
use Rattle.row_lists.specs.inside.ConcreteInside.{concrete_in}
use Rattle.row_lists.specs.ConcreteValues.{Concrete, a_number}
use Rattle.row_lists.specs.declared.concrete_values.KeptConcrete.TheVariants.{Decimal}
use Rattle.row_lists.proofs.concrete_values.ConcreteValues.push_decimal.Goals as goal

-- adding a number adds one value at the end
pub returns-clause-grown : goal.returns-clause-grown
returns-clause-grown c =
    let texts = c.self.inside.texts.items in
    let added : List Concrete = a_number c.args.decimal.0 ∷ [] in (
      added,
      ap (map (concrete_in texts)) c.in_ok-push.ensures.items
          ∙ map_push (concrete_in texts) c.self.inside.values.items (Decimal c.args.decimal)
          ∙ ap (λ (values : List Concrete). values ++ added) c.self.view_is,
    )

-- the index that is answered is within the values
pub returns-clause-within : goal.returns-clause-within
returns-clause-within c = omega (
  arith,
  length-map c.push.new.self.items (concrete_in c.self.inside.texts.items),
  ap length c.in_ok-push.ensures.items,
  length_push c.self.inside.values.items (Decimal c.args.decimal),
  c.len-place.ensures,
)
