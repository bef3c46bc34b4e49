use Rattle.std.proofs.Common.{◌≡◌, ℕ, ◌-◌, ◌^◌, ◌∙◌, ◌%◌, ◌/◌, ap, sym, set, subst, replicate, Vec, Global, List, arith}
use Rattle.std.proofs.Common.{ltb}
use Rattle.std.proofs.lemmas.Nat.{one_shl}
use Rattle.idset.specs.Words.{MarkedBelow, words_for}
use Rattle.idset.proofs.MarkLemmas.{every_full, every_cut}
use Rattle.idset.proofs.bitmap.full_bitmap.Goals as goal
use Rattle.idset.proofs.bitmap.full_bitmap.Goals.{then-bound-ne0, else-bound-ne0}

-- full words, of which the last is cut if `bound` ends within it, mark all numbers below `bound`
pub returns : goal.returns
returns c =
    let bound = c.args.bound in
    let full = replicate (words_for bound) (2 ^ 64 - 1) in
    let made : c.in_ok-words.words.items ≡ full = c.in_ok-words.ensures.items_if_clones_equal (λ y same. same)
    ∙ (λ i. replicate (c.word_count.ensures i) (2 ^ 64 - 1)) in
    elim c.if-bound-ne0.branch [
      | then-bound-ne0 w ↦
          let cut : c.if-bound-ne0.words.items ≡ set full (bound / 64) (2 ^ (bound % 64) - 1) =
          ap (λ (words : Vec ℕ Global). words.items) w.words-is
          ∙ (λ i. set (made i) (bound / 64) (one_shl (bound % 64) 64 (omega arith) i - 1)) in
          subst (λ (items : List ℕ). MarkedBelow bound items (λ n. ltb n bound)) (sym cut)
          (every_cut bound w.if-bound-ne0.true)
      | else-bound-ne0 w ↦
          let whole : c.if-bound-ne0.words.items ≡ full = ap (λ (words : Vec ℕ Global). words.items) w.words-is
          ∙ made in
          subst (λ (items : List ℕ). MarkedBelow bound items (λ n. ltb n bound)) (sym whole)
          (every_full bound w.if-bound-ne0.false)
    ]
