use Rattle.std.proofs.Common.{◌∙◌, ◌++◌, ◌∷◌, [], List, ℕ, ap, arith, subst, sym, take}
use Rattle.std.proofs.lemmas.List.{take_all, take_more}
use Rattle.ancestor_index.specs.Wide.{AreWide}
use Rattle.ancestor_index.proofs.wide.wide_lists.Goals as goal

-- the long ones of one list more are kept as words
pub loop-concept-preserved : goal.loop-concept-preserved
loop-concept-preserved c =
    let before = take c.loop-concept.concept c.args.lists.now in
    subst (λ (lists : List (List ℕ)). AreWide c.args.count lists c.push.new.self.ends.items c.push.new.self.words.items)
    (ap (λ (list : List ℕ). before ++ list ∷ []) c.of.ensures
    ∙ sym (take_more c.args.lists.now c.loop-concept.concept [] (omega arith)))
    (c.in_ok-push.ensures before c.loop-concept.invariant)

-- after the last list all long lists are kept as words
pub returns : goal.returns
returns c =
    subst (λ (lists : List (List ℕ)). AreWide c.args.count lists c.loop-concept.wide.ends.items
    c.loop-concept.wide.words.items)
    (take_all c.loop-concept.concept c.args.lists.now (omega arith)) c.loop-concept.invariant
