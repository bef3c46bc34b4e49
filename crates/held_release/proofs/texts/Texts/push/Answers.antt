use Rattle.std.proofs.Common.{ℕ, ◌+◌, ◌≡◌, ◌++◌, ◌∷◌, [], ◌∙◌, List, ap, arith, length, length-append, subst, sym}
use Rattle.number_lists.proofs.CutLemmas.{cut, cut-push, starts-push}
use Rattle.number_lists.specs.inside.KeyedListsInside.{AreStarts}
use Rattle.held_release.proofs.texts.Texts.push.Goals as goal
use Rattle.held_release.proofs.texts.Texts.push.Goals.{In_ok-push}

-- the starts get one more, at which all bytes end
placed : (c : In_ok-push) → c.push.new.self.items
    ≡ c.self.inside.starts.items ++ (length c.self.inside.bytes.items + length c.args.text.now) ∷ []
placed c =
    let bytes = c.self.inside.bytes.items in
    let text = c.args.text.now in
    let end : c.len-end.result ≡ length bytes + length text =
    omega (
      arith,
      c.len-end.ensures,
      ap (λ (xs : List ℕ). length xs) c.in_ok-extend_from_slice.ensures.items,
      length-append bytes text,
    ) in
    c.in_ok-push.ensures.items ∙ ap (λ n. c.self.inside.starts.items ++ n ∷ []) end

-- the starts still begin at 0, do not fall, and end where the bytes do
pub invariant_of-result : goal.invariant_of-result
invariant_of-result c =
    let bytes = c.self.inside.bytes.items in
    let starts = c.self.inside.starts.items in
    let text = c.args.text.now in
    subst (λ (places : List ℕ). AreStarts places c.extend_from_slice.new.self.items) (sym (placed c))
    (subst (λ (grown : List ℕ). AreStarts (starts ++ (length bytes + length text) ∷ []) grown)
    (sym c.in_ok-extend_from_slice.ensures.items) (starts-push starts bytes text c.self.invariant))

-- the texts get one more at the end
pub returns : goal.returns
returns c =
    let text = c.args.text.now in
    (λ i. cut (placed (goal.at.returns c).In_ok-push i) (c.in_ok-extend_from_slice.ensures.items i))
    ∙ cut-push c.self.inside.starts.items c.self.inside.bytes.items text c.self.invariant
    ∙ ap (λ (texts : List (List ℕ)). texts ++ text ∷ []) c.self.view_is
