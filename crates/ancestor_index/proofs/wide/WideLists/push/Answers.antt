use Rattle.std.proofs.Common.{◌++◌, ◌∷◌, [], List, ℕ, sym, subst}
use Rattle.ancestor_index.specs.Wide.{AreWide, IsKept}
use Rattle.ancestor_index.proofs.WideLemmas.{wide_step}
use Rattle.ancestor_index.proofs.wide.WideLists.push.Goals as goal

-- with the words of one list more, the long lists are kept as words
pub returns : goal.returns
returns c = λ lists wide.
    let count = c.args.count in
    let list = c.args.list.now in
    let (added, grown) = c.put_words.ensures.grown in
    let here = subst (λ (words : List ℕ). IsKept count list words c.in_ok-end.end) grown c.in_ok-end.ensures.kept in
    subst (λ (words : List ℕ). AreWide count (lists ++ list ∷ []) c.push.new.self.items words) (sym grown)
    (subst (λ (ends : List ℕ). AreWide count (lists ++ list ∷ []) ends (c.args.self.now.words.items ++ added))
    (sym c.in_ok-push.ensures.items)
    (wide_step count lists list c.args.self.now.words.items added c.args.self.now.ends.items c.in_ok-end.end wide here))
