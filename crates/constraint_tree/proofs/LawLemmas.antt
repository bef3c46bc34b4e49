-- The text of the tree of a constraint is a constraint with that tree.
use Rattle.std.proofs.Common.{ℕ, ◌≤◌, List, [], Bool, true, false, length, refl, ap, ◌∙◌, sym}
use Rattle.std.proofs.lemmas.List.{append-nil}
use Rattle.ecl_lexer.specs.Tokens.{most_bytes, spelled_tokens}
use Rattle.constraint_tree.specs.Refusal.{IsConstraint}
use Rattle.constraint_tree.specs.Text.{constraint_text, is_sub}
use Rattle.constraint_tree.specs.Tree.{Tree}
use Rattle.constraint_tree.proofs.CanonLemmas.{Canonical, constraint_canonical, deep_symbols}
use Rattle.constraint_tree.proofs.LevelLemmas.{symbols_deep}
use Rattle.constraint_tree.proofs.LexemeLemmas.{Reads, along, nothing_reads}
use Rattle.constraint_tree.proofs.PrintLemmas.{Follows, constraint_reads}
use Rattle.constraint_tree.proofs.Symbols.{constraint_symbols}

-- the end of a text may follow any constraint
end_follows : (bare : Bool) → Follows bare []
end_follows true = refl
end_follows false = refl

-- the whole text of a canonical tree is cut into the lexemes of its symbols
whole_reads : (tree : Tree) → Canonical tree → Reads (constraint_text tree) (constraint_symbols tree [])
whole_reads tree canonical =
    along (constraint_symbols tree []) (append-nil (constraint_text tree))
    (constraint_reads tree canonical.printable [] [] (end_follows (is_sub tree)) nothing_reads)

-- the text of a tree with a canonical form is a constraint with that tree, if it has at most `most_bytes` bytes
canonical_is_read : (tree : Tree) → Canonical tree → length (constraint_text tree) ≤ most_bytes
    → IsConstraint (constraint_text tree) tree
canonical_is_read tree canonical short =
    let reads = whole_reads tree canonical in
    record {
      readable = (short, reads.utf8);
      tokens = spelled_tokens reads.lexemes;
      are_tokens = (reads.lexemes, reads.cut, refl);
      shallow = deep_symbols 0 (spelled_tokens reads.lexemes) ∙ ap (symbols_deep 0) reads.spells ∙ canonical.shallow;
      is_tree = (canonical.form, reads.spells ∙ sym (canonical.spells []), sym canonical.is);
    }

-- if a text is a constraint with the tree `tree`, and the printed text of `tree` has at most `most_bytes` bytes, then
-- the printed text is a constraint with the tree `tree`
pub printed_is_read : (text : List ℕ) (tree : Tree) → IsConstraint text tree
    → length (constraint_text tree) ≤ most_bytes → IsConstraint (constraint_text tree) tree
printed_is_read text tree constraint short = canonical_is_read tree (constraint_canonical text tree constraint) short
