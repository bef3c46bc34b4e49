use Rattle.std.proofs.Common.{◌∙◌, ◌||◌, ℕ, List, sym, subst, arith, drop, length}
use Rattle.std.proofs.lemmas.List.{take_at}
use Rattle.number_lists.specs.Members.{has}
use Rattle.idset.specs.Words.{is_set, MarkedBelow}
use Rattle.idset.proofs.MarkLemmas.{is_set-none, marked_below}
use Rattle.idset.proofs.bitmap.bitmap_of.Goals as goal

-- marking the numbers in words of 0 gives words that hold exactly these numbers
pub returns : goal.returns
returns c =
    let words = c.mark_all.new.words in
    let none = c.deref_mut.ensures.value ∙ c.in_ok-words.ensures.items_if_clones_equal (λ y same. same) in
    let whole = take_at words (drop (length words) c.in_ok-words.words.items) c.in_ok-words.words.len
    (omega (arith, c.mark_all.auto.words, c.deref_mut.ensures.len)) in
    subst (λ (items : List ℕ). MarkedBelow c.args.bound items (has c.args.numbers.now)) (sym whole)
    (marked_below c.args.bound words c.args.numbers.now
    (omega (arith, c.mark_all.auto.words, c.deref_mut.ensures.len, c.in_ok-words.ensures.len, c.word_count.ensures))
    c.requires
    (λ n. c.mark_all.ensures n ∙ (λ i. is_set (none i) n || has c.args.numbers.now n)
    ∙ (λ i. is_set-none c.word_count.result n i || has c.args.numbers.now n)))
