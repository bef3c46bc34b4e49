use Rattle.std.proofs.Common.{ap, ◌∙◌, arith}
use Rattle.std.proofs.lemmas.List.{append_assoc, append-nil, drop_all, drop_more}
use Rattle.constraint_tree.specs.Tree.{refinement_tree_of, set_tree_of, tree_of}
use Rattle.constraint_tree.proofs.TreeLemmas.{refinement_tree_of-And, refinement_tree_of-Or, set_tree_of-And}
use Rattle.constraint_tree.proofs.TreeLemmas.{set_tree_of-Or, tree_of-And, tree_of-Dotted, tree_of-Or}
use Rattle.constraint_tree.proofs.+print.Goals as goal

-- one turn of the loop of `write_items` moves the text of one item from the remaining text to `output`
pub print::write_items-loop-part-preserved : goal.print::write_items-loop-part-preserved
print::write_items-loop-part-preserved t c = grind (arith, append_assoc, drop_more)

-- after the loop of `write_items` no text remains
pub print::write_items-returns : goal.print::write_items-returns
print::write_items-returns t c = grind (arith, append-nil, drop_all)

-- one turn of the loop of `write_operands` moves the text of one operand from the remaining text to `output`
pub print::write_operands-loop-part-preserved : goal.print::write_operands-loop-part-preserved
print::write_operands-loop-part-preserved t c = grind (arith, append_assoc, drop_more)

-- after the loop of `write_operands` no text remains
pub print::write_operands-returns : goal.print::write_operands-returns
print::write_operands-returns t c = grind (arith, append-nil, drop_all)

-- one turn of the loop of `write_parts` moves the text of one part from the remaining text to `output`
pub print::write_parts-loop-part-preserved : goal.print::write_parts-loop-part-preserved
print::write_parts-loop-part-preserved t c = grind (arith, append_assoc, drop_more)

-- after the loop of `write_parts` no text remains
pub print::write_parts-returns : goal.print::write_parts-returns
print::write_parts-returns t c = grind (arith, append-nil, drop_all)

-- `write` of `Constraint::And` appends the joined texts of the items of its `Vec`
pub tree::Constraint::write-returns-in-And : goal.tree::Constraint::write-returns-in-And
tree::Constraint::write-returns-in-And t c =
    let whole = ap tree_of c.in-And.is ∙ tree_of-And c.in-And.parts in
    grind (arith, whole)

-- `write` of `Constraint::Or` appends the joined texts of the items of its `Vec`
pub tree::Constraint::write-returns-in-Or : goal.tree::Constraint::write-returns-in-Or
tree::Constraint::write-returns-in-Or t c =
    let whole = ap tree_of c.in-Or.is ∙ tree_of-Or c.in-Or.parts in
    grind (arith, whole)

-- `write` of a dotted constraint appends its start and then the texts of the items of its `Vec`
pub tree::Constraint::write-returns-in_ok-write_operand-in-Dotted :
    goal.tree::Constraint::write-returns-in_ok-write_operand-in-Dotted
tree::Constraint::write-returns-in_ok-write_operand-in-Dotted t c =
    let whole = ap tree_of c.in-Dotted.is ∙ tree_of-Dotted c.in-Dotted.start c.in-Dotted.names in
    grind (arith, append_assoc)

-- `write` of `Refinement::And` appends the joined texts of the items of its `Vec`
pub tree::Refinement::write-returns-in-And : goal.tree::Refinement::write-returns-in-And
tree::Refinement::write-returns-in-And t c =
    let whole = ap refinement_tree_of c.in-And.is ∙ refinement_tree_of-And c.in-And.parts in
    grind (arith, whole)

-- `write` of `Refinement::Or` appends the joined texts of the items of its `Vec`
pub tree::Refinement::write-returns-in-Or : goal.tree::Refinement::write-returns-in-Or
tree::Refinement::write-returns-in-Or t c =
    let whole = ap refinement_tree_of c.in-Or.is ∙ refinement_tree_of-Or c.in-Or.parts in
    grind (arith, whole)

-- `write` of `AttributeSet::And` appends the joined texts of the items of its `Vec`
pub tree::AttributeSet::write-returns-in-And : goal.tree::AttributeSet::write-returns-in-And
tree::AttributeSet::write-returns-in-And t c =
    let whole = ap set_tree_of c.in-And.is ∙ set_tree_of-And c.in-And.parts in
    grind (arith, whole)

-- `write` of `AttributeSet::Or` appends the joined texts of the items of its `Vec`
pub tree::AttributeSet::write-returns-in-Or : goal.tree::AttributeSet::write-returns-in-Or
tree::AttributeSet::write-returns-in-Or t c =
    let whole = ap set_tree_of c.in-Or.is ∙ set_tree_of-Or c.in-Or.parts in
    grind (arith, whole)

-- the cardinality, `R`, the name and the test, written one after another, are the text of the attribute
pub tree::Attribute::write-returns : goal.tree::Attribute::write-returns
tree::Attribute::write-returns t c = grind (arith, append_assoc)

-- the opening bracket, the text and the closing bracket, written one after another, are the placed text
pub tree::Constraint::write_placed-returns : goal.tree::Constraint::write_placed-returns
tree::Constraint::write_placed-returns t c = grind (arith, append_assoc)

-- the sign of the operator and the placed operand, written one after another, are the text of the constraint
pub tree::Constraint::write-returns-in_ok-extend_from_slice-in-Walk :
    goal.tree::Constraint::write-returns-in_ok-extend_from_slice-in-Walk
tree::Constraint::write-returns-in_ok-extend_from_slice-in-Walk t c = grind (arith, append_assoc)

-- `^` and the placed operand, written one after another, are the text of the constraint
pub tree::Constraint::write-returns-in_ok-extend_from_slice-in-MemberOf :
    goal.tree::Constraint::write-returns-in_ok-extend_from_slice-in-MemberOf
tree::Constraint::write-returns-in_ok-extend_from_slice-in-MemberOf t c = grind (arith, append_assoc)

-- the two operands with `MINUS` between them, written one after another, are the text of the constraint
pub tree::Constraint::write-returns-in_ok-extend_from_slice-in-Minus :
    goal.tree::Constraint::write-returns-in_ok-extend_from_slice-in-Minus
tree::Constraint::write-returns-in_ok-extend_from_slice-in-Minus t c = grind (arith, append_assoc)

-- the focus, `:` and the refinement, written one after another, are the text of the constraint
pub tree::Constraint::write-returns-in_ok-extend_from_slice-in-Refined :
    goal.tree::Constraint::write-returns-in_ok-extend_from_slice-in-Refined
tree::Constraint::write-returns-in_ok-extend_from_slice-in-Refined t c = grind (arith, append_assoc)

-- the cardinality and the attribute set in braces, written one after another, are the text of the group
pub print::write_group-returns : goal.print::write_group-returns
print::write_group-returns t c = grind (arith, append_assoc)

-- `=` and the operand, written one after another, are the text of the test
pub tree::Test::write-returns-in_ok-extend_from_slice-in-Within :
    goal.tree::Test::write-returns-in_ok-extend_from_slice-in-Within
tree::Test::write-returns-in_ok-extend_from_slice-in-Within t c = grind (arith, append_assoc)

-- `!=` and the operand, written one after another, are the text of the test
pub tree::Test::write-returns-in_ok-extend_from_slice-in-Outside :
    goal.tree::Test::write-returns-in_ok-extend_from_slice-in-Outside
tree::Test::write-returns-in_ok-extend_from_slice-in-Outside t c = grind (arith, append_assoc)

-- the sign of the comparison and the number, written one after another, are the text of the test
pub tree::Test::write-returns-in_ok-extend_from_slice-in-Number :
    goal.tree::Test::write-returns-in_ok-extend_from_slice-in-Number
tree::Test::write-returns-in_ok-extend_from_slice-in-Number t c = grind (arith, append_assoc)
