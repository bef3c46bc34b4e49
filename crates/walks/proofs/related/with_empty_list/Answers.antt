use Rattle.std.proofs.Common.{ℕ, Vec, Bool, List, cond, ◌==◌, ◌≡◌, ◌∙◌, ◌++◌, ◌∷◌, [], length, sym, ap, append-nil, arith}
use Rattle.std.specs.Bool.{beq}
use Rattle.number_lists.specs.KeyedLists.{list_of}
use Rattle.number_lists.specs.Rising.{numbers_where}
use Rattle.number_lists.proofs.WhereLemmas.{numbers_where-more}
use Rattle.walks.specs.Families.{lists_of}
use Rattle.walks.specs.inside.Steps.{has_length}
use Rattle.walks.proofs.JoinedLemmas.{over_length}
use Rattle.walks.proofs.related.with_empty_list.Goals as goal
use Rattle.walks.proofs.related.with_empty_list.Goals.{then-is_empty-empty+in_ok-push, else-is_empty-empty}

-- the concept at hand has a list in the family
pub length-is_empty-requires : goal.length-is_empty-requires
length-is_empty-requires c =
    omega (
      arith,
      c.loop-concept-test.true,
      over_length c.args.count c.args.reader.indexes.now.hierarchy c.requires c.args.family,
    )

-- the concept at hand is kept if its list is empty or not, as `empty` says
pub loop-concept-preserved : goal.loop-concept-preserved
loop-concept-preserved c =
    let lists : List (List ℕ) = lists_of c.args.reader.indexes.now.hierarchy c.args.family in
    let test : ℕ → Bool = has_length lists c.args.empty in
    let concept = c.loop-concept.concept in
    let asked : test concept ≡ beq (c.length-is_empty.result == 0) c.args.empty =
    ap (λ (n : ℕ). beq (n == 0) c.args.empty) (sym c.length-is_empty.ensures) in
    elim c.if-is_empty-empty.branch [
      | then-is_empty-empty+in_ok-push w ↦
          ap (λ (kept : Vec ℕ _). kept.items) w.kept-is ∙ w.in_ok-push.ensures.items
          ∙ (λ i. c.loop-concept.invariant i
          ++ cond (sym (asked ∙ w.if-is_empty-empty.true) i) (concept ∷ []) [])
          ∙ sym (numbers_where-more concept test)
      | else-is_empty-empty w ↦
          ap (λ (kept : Vec ℕ _). kept.items) w.kept-is
          ∙ sym (append-nil c.loop-concept.kept.items)
          ∙ (λ i. c.loop-concept.invariant i
          ++ cond (sym (asked ∙ w.if-is_empty-empty.false) i) (concept ∷ []) [])
          ∙ sym (numbers_where-more concept test)
    ]

-- past the last concept, those of all are kept
pub returns : goal.returns
returns c =
    c.loop-concept.invariant
    ∙ ap (λ (count : ℕ). numbers_where count (has_length (lists_of c.args.reader.indexes.now.hierarchy c.args.family)
    c.args.empty))
    (omega (arith, c.loop-concept-test.false, c.loop-concept.auto.concept-end))
