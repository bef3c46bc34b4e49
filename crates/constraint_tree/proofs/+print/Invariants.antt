use Rattle.std.proofs.Common.{◌≡◌, ◌++◌, drop}
use Rattle.constraint_tree.specs.Text.{joined_items, joined_parts}
use Rattle.constraint_tree.specs.Tree.{trees_of, refinement_trees_of, set_trees_of}
use Rattle.constraint_tree.proofs.TextLemmas.{rest_text, rest_items, rest_parts}
use Rattle.constraint_tree.proofs.+print.Given as goal

abbrev pub invariant-print::write_items-loop-part : goal.invariant-print::write_items-loop-part
invariant-print::write_items-loop-part l =
    l.output.items ++ rest_items l.has_front l.between (refinement_trees_of (drop l.part-index l.parts))
    ≡ l.fn.output.items ++ joined_items l.between (refinement_trees_of l.parts)

abbrev pub invariant-print::write_operands-loop-part :
    goal.invariant-print::write_operands-loop-part
invariant-print::write_operands-loop-part l =
    l.output.items ++ rest_text l.has_front l.between (trees_of (drop l.part-index l.parts))
    ≡ l.fn.output.items ++ rest_text l.following l.between (trees_of l.parts)

abbrev pub invariant-print::write_parts-loop-part : goal.invariant-print::write_parts-loop-part
invariant-print::write_parts-loop-part l =
    l.output.items ++ rest_parts l.has_front l.between (set_trees_of (drop l.part-index l.parts))
    ≡ l.fn.output.items ++ joined_parts l.between (set_trees_of l.parts)
