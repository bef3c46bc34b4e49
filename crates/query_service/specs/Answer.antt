-- The text that answers a query line.
use Rattle.std.specs.Prelude.{ℕ, ◌≡◌, ◌⊎◌, List}
use Rattle.ecl_lexer.specs.declared.fault.QueryFault.{QueryFault}
use Rattle.constraint_tree.specs.Denotation.{denotation}
use Rattle.constraint_tree.specs.Refusal.{IsConstraint, IsRefusalOf}
use Rattle.constraint_tree.specs.Tree.{Tree}
use Rattle.held_release.specs.Contents.{Contents}
use Rattle.held_release.specs.Name.{name_of}
use Rattle.answer_printer.specs.AnswerText.{answer_text, refusal_text}

-- the answer to a constraint: `OK` and the concepts that it denotes, with their names
abbrev pub constraint_answer : Contents → Tree → List ℕ
constraint_answer contents tree =
    answer_text (name_of contents.release contents.language) (denotation contents.release tree)

-- `text` is for a query line: either the line is a constraint and `IsFor` relates the constraint to
-- `text`, or `text` is the line's refusal
abbrev pub IsForLine : (Tree → List ℕ → Type 0) → List ℕ → List ℕ → Type 0
IsForLine IsFor line text =
    ((tree : Tree) × IsConstraint line tree × IsFor tree text)
    ⊎ ((fault : QueryFault) × IsRefusalOf line fault × (text ≡ refusal_text fault))

-- `text` answers a query line: it is the answer to the line's constraint, or the line's refusal
abbrev pub IsAnswer : Contents → List ℕ → List ℕ → Type 0
IsAnswer contents line text =
    IsForLine (λ tree text. text ≡ constraint_answer contents tree) line text

-- each query line has an answer
abbrev pub HasAnAnswer : Type 0
HasAnAnswer = (contents : Contents) (line : List ℕ) → (text : List ℕ) × IsAnswer contents line text

-- no query line has two different answers
abbrev pub HasOneAnswer : Type 0
HasOneAnswer =
    (contents : Contents) (line one other : List ℕ) → IsAnswer contents line one
    → IsAnswer contents line other
    → one ≡ other
