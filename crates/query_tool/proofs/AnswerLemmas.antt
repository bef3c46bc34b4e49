-- Each query line has exactly one answer.
use Rattle.std.proofs.Common.{ℕ, ◌≡◌, ◌∙◌, ◌⊎◌, inl, inr, List, get_or, map, refl, sym, ap}
use Rattle.ecl_lexer.specs.declared.fault.QueryFault.{QueryFault}
use Rattle.constraint_tree.specs.Refusal.{IsConstraint, IsRefusalOf}
use Rattle.constraint_tree.specs.Tree.{Tree}
use Rattle.release_model.specs.Release.{Release}
use Rattle.constraint_tree.specs.Denotation.{denotation, denotes}
use Rattle.answer_printer.specs.AnswerText.{refusal_text}
use Rattle.set_algebra.specs.Meaning.{means}
use Rattle.set_algebra.specs.Plan.{Plan}
use Rattle.candidates.specs.Numbers.{numbers_in}
use Rattle.candidates.proofs.Normal.{concepts_of, numbers_in-agree}
use Rattle.query_service.specs.Answer.{constraint_answer, HasAnAnswer, HasOneAnswer}

-- if a plan means what a constraint denotes, and `found` are the concepts in force that the plan means, then `found`
-- are the concepts that the constraint denotes
pub concepts_answered : (release : Release) (tree : Tree) (plan : Plan) (found : List ℕ)
    → ((concept : ℕ) → means release plan concept ≡ denotes release tree concept)
    → found ≡ numbers_in release (means release plan)
    → map (λ n. get_or release.concepts n 0) found ≡ denotation release tree
concepts_answered release tree plan found same found_is =
    ap (map (λ n. get_or release.concepts n 0))
    (found_is ∙ numbers_in-agree release (means release plan) (denotes release tree)
    (λ n _. same (get_or release.concepts n 0)))
    ∙ concepts_of release (denotes release tree)

-- if each text is a constraint or has a refusal, then each query line has an answer
pub an_answer_each : ((text : List ℕ) → ((tree : Tree) × IsConstraint text tree)
    ⊎ ((fault : QueryFault) × IsRefusalOf text fault))
    → HasAnAnswer
an_answer_each reads contents line = elim (reads line) [
  | inl (tree, is) ↦ (constraint_answer contents tree, inl (tree, is, refl))
  | inr (fault, refused) ↦ (refusal_text fault, inr (fault, refused, refl))
]

-- if no text is two different constraints, has two different refusals, or is a constraint with a refusal, then no
-- query line has two different answers
pub one_answer_each : ((text : List ℕ) (one other : Tree) → IsConstraint text one → IsConstraint text other
    → one ≡ other)
    → ((text : List ℕ) (one other : QueryFault) → IsRefusalOf text one → IsRefusalOf text other → one ≡ other)
    → ((text : List ℕ) (tree : Tree) (fault : QueryFault) → IsConstraint text tree → IsRefusalOf text fault → ⊥)
    → HasOneAnswer
one_answer_each trees refusals not_both contents line one other (inl (tree, is, text)) (inl (tree_2, is_2, text_2)) =
    text ∙ ap (constraint_answer contents) (trees line tree tree_2 is is_2) ∙ sym text_2
one_answer_each trees refusals not_both contents line one other (inl (tree, is, text))
    (inr (fault, refused, text_2)) = absurd (not_both line tree fault is refused)
one_answer_each trees refusals not_both contents line one other (inr (fault, refused, text))
    (inl (tree, is, text_2)) = absurd (not_both line tree fault is refused)
one_answer_each trees refusals not_both contents line one other (inr (fault, refused, text))
    (inr (fault_2, refused_2, text_2)) =
    text ∙ ap refusal_text (refusals line fault fault_2 refused refused_2) ∙ sym text_2
