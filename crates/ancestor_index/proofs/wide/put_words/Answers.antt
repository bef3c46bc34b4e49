use Rattle.std.proofs.Common.{ℕ, ◌≡◌, ◌++◌, ◌∙◌, List, length, refl, sym, subst, ap, arith, length-append}
use Rattle.ancestor_index.specs.Wide.{IsKept, IsWide}
use Rattle.ancestor_index.proofs.WideLemmas.{kept_new}
use Rattle.ancestor_index.proofs.wide.put_words.Goals as goal

-- the words of a long list stand at the end of all words
pub returns-clause-kept : goal.returns-clause-kept
returns-clause-kept c =
    let old = c.args.words.now.items in
    let bitmap = c.in_ok-bitmap.bitmap.items in
    let grown : c.extend_from_slice.new.self.items ≡ old ++ bitmap = c.in_ok-extend_from_slice.ensures.items
    ∙ ap (λ (xs : List ℕ). old ++ xs) c.as_slice.ensures.value in
    let wide : IsWide c.args.count c.args.list.now = c.if-not-is_wide.ensures.0 refl in
    subst (λ (words : List ℕ). IsKept c.args.count c.args.list.now words c.len.result) (sym grown)
    (kept_new c.args.count c.args.list.now old bitmap c.len.result wide c.requires c.in_ok-bitmap.ensures
    (omega (arith, c.len.ensures, ap (λ (xs : List ℕ). length xs) grown, length-append old bitmap)))
