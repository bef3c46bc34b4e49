use Rattle.row_lists.specs.inside.NamesInside.{IsPlaced}
use Rattle.row_lists.specs.Marked.{marked}
use Rattle.row_lists.specs.ChosenLists.{in_list}
use Rattle.row_lists.specs.declared.row_lists.Listing.TheVariants.{Name as ListedName}
use Rattle.row_lists.proofs.ChosenItemLemmas.{All-marked}
use Rattle.row_lists.proofs.names.Names.choose.Goals as goal
use Rattle.std.proofs.Common.{string_bytes, arith}

-- the texts of the chosen rows stand in the buffer
pub invariant_of-self : goal.invariant_of-self
invariant_of-self c = grind (
  arith,
  c.in_ok-self-inside.ensures,
  c.as_slice.ensures.value,
  (All-marked (IsPlaced (string_bytes c.self.inside.texts))
      (marked (in_list ListedName c.args.marks.now) c.args.choices.now) c.self.inside.rows.items c.self.invariant),
)
