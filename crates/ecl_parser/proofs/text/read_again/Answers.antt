use Rattle.std.proofs.Common.{◌≡◌, ◌++◌, ◌∙◌, List, ℕ, ap, subst, sym}
use Rattle.constraint_tree.specs.Refusal.{IsConstraint}
use Rattle.constraint_tree.specs.Text.{constraint_text}
use Rattle.constraint_tree.specs.Tree.{tree_of}
use Rattle.constraint_tree.proofs.LawLemmas.{printed_is_read}
use Rattle.ecl_parser.proofs.text.read_again.Goals as goal

-- the text that a constraint prints is read as that constraint
pub returns-clause-same : goal.returns-clause-same
returns-clause-same c = λ text is short.
    let tree = tree_of c.args.constraint.now in
    let printed : c.as_slice.result.now ≡ constraint_text tree =
    c.as_slice.ensures.value ∙ c.in_ok-print.ensures.ok
    ∙ ap (λ (front : List ℕ). front ++ constraint_text tree) c.new-text.ensures.items in
    c.parse.ensures.whole tree
    (subst (λ (found : List ℕ). IsConstraint found tree) (sym printed) (printed_is_read text tree is short))
