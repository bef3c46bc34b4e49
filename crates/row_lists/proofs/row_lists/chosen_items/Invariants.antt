use Rattle.std.proofs.Common.{◌≡◌, ◌++◌}
use Rattle.row_lists.specs.ChosenLists.{in_list, items_chosen}
use Rattle.row_lists.proofs.ChosenItemLemmas.{to_come}
use Rattle.row_lists.proofs.row_lists.chosen_items.Given as goal

-- the items chosen so far, followed by the chosen items still to come, are all chosen items
abbrev pub invariant-loop-place : goal.invariant-loop-place
invariant-loop-place g l =
    items_chosen (in_list l.list l.marks) l.choices l.items ≡ l.chosen.items ++ to_come l.list l.marks l.choices l.place
    l.left
