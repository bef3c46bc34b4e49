use Rattle.std.proofs.Common.{Bool, true, false, ℕ, ◌≡◌, ◌==◌, ◌∙◌, ◌++◌, ◌∷◌, ◌+◌, List, [], ap, append-nil, cond}
use Rattle.std.proofs.Common.{length, not, sym}
use Rattle.number_lists.specs.KeyedLists.{list_of}
use Rattle.number_lists.specs.Rising.{numbers_where}
use Rattle.number_lists.proofs.WhereLemmas.{numbers_where-more}
use Rattle.postings.specs.Indexed.{has_members}
use Rattle.postings.proofs.index.with_members.Goals as goal

module _ (members : List (List ℕ)) (concept : ℕ) (list : List ℕ) (empty : Bool)
    (is_list : list ≡ list_of members concept) (told : empty ≡ (length list == 0)) where
  -- a concept has members exactly if its list is not empty
  not_empty : has_members members concept ≡ not empty
  not_empty = ap not (sym (told ∙ ap (λ (list : List ℕ). length list == 0) is_list))

  -- a concept without members is not put to those that have some
  passed_by : empty ≡ true
      → numbers_where (concept + 1) (has_members members) ≡ numbers_where concept (has_members members)
  passed_by none =
      numbers_where-more concept (has_members members)
      ∙ (λ i. numbers_where concept (has_members members) ++ cond ((not_empty ∙ ap not none) i) (concept ∷ []) [])
      ∙ append-nil (numbers_where concept (has_members members))

  -- a concept with members is put at the end of those that have some
  added : empty ≡ false
      → numbers_where (concept + 1) (has_members members) ≡ numbers_where concept (has_members members) ++ concept ∷ []
  added some =
      numbers_where-more concept (has_members members)
      ∙ (λ i. numbers_where concept (has_members members) ++ cond ((not_empty ∙ ap not some) i) (concept ∷ []) [])

-- a concept whose list is empty leaves the list of concepts as it is
pub loop-concept-preserved-then-is_empty : goal.loop-concept-preserved-then-is_empty
loop-concept-preserved-then-is_empty c =
    c.loop-concept.invariant
    ∙ sym (passed_by c.args.members.now c.loop-concept.concept c.of.result.now c.is_empty.result c.of.ensures
    c.is_empty.ensures c.if-is_empty.true)

-- a concept whose list is not empty is put at the end of the list of concepts
pub loop-concept-preserved : goal.loop-concept-preserved
loop-concept-preserved c =
    c.in_ok-push.ensures.items
    ∙ (λ i. c.loop-concept.invariant i ++ c.loop-concept.concept ∷ [])
    ∙ sym (added c.args.members.now c.loop-concept.concept c.of.result.now c.is_empty.result c.of.ensures
    c.is_empty.ensures c.if-is_empty.false)
