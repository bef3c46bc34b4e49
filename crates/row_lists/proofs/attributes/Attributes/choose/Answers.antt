use Rattle.row_lists.specs.KeptRows.{IsKeptIn}
use Rattle.row_lists.specs.Marked.{marked}
use Rattle.row_lists.specs.ChosenLists.{in_list}
use Rattle.row_lists.specs.declared.row_lists.Listing.TheVariants.{Attribute as ListedAttribute}
use Rattle.row_lists.proofs.ChosenItemLemmas.{All-marked, map-marked}
use Rattle.row_lists.proofs.attributes.Attributes.choose.Goals as goal
use Rattle.std.proofs.Common.{arith}

-- the chosen rows have their values among the concrete values
pub invariant_of-self : goal.invariant_of-self
invariant_of-self c = grind (
  arith,
  c.in_ok-self-inside.ensures,
  c.as_slice.ensures.value,
  (All-marked (IsKeptIn c.self.inside.concrete)
      (marked (in_list ListedAttribute c.args.marks.now) c.args.choices.now) c.self.inside.rows.items c.self.invariant),
)

-- the chosen rows stand for the chosen attributes
pub returns : goal.returns
returns c = grind (arith, c.in_ok-self-inside.ensures, c.as_slice.ensures.value, map-marked, c.self.view_is)
