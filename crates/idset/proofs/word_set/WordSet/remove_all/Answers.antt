use Rattle.std.proofs.Common.{◌∙◌, ◌&&◌, not, List, ℕ, sym, ap, subst, arith, drop, length}
use Rattle.std.proofs.lemmas.List.{take_at}
use Rattle.number_lists.specs.Members.{has}
use Rattle.number_lists.specs.Rising.{numbers_where, IsRisingBelow}
use Rattle.idset.specs.Words.{AreWordsBelow, is_set}
use Rattle.idset.proofs.WordLemmas.{holds_less, items_below}
use Rattle.idset.proofs.word_set.WordSet.remove_all.Goals as goal

-- each item to remove has its bit within the words
pub unmark_all-requires : goal.unmark_all-requires
unmark_all-requires c = λ k d in'.
    let mine = c.args.self.now in
    omega (
      arith,
      items_below mine.bound c.args.items.now c.requires k d in',
      c.deref_mut.ensures.len,
      mine.held.enough,
      ap length c.deref_mut.ensures.value,
    )

-- clearing bits leaves the words within the bound
pub invariant_of-self : goal.invariant_of-self
invariant_of-self c =
    let mine = c.args.self.now in
    let made = c.unmark_all.new.words in
    let whole = take_at made (drop (length made) mine.words.items) mine.words.len
    (omega (arith, c.unmark_all.auto.words, c.deref_mut.ensures.len)) in
    let holds = holds_less mine.bound mine.words.items made c.args.items.now mine.held c.requires
    (c.unmark_all.auto.words ∙ ap length c.deref_mut.ensures.value)
    (λ n. c.unmark_all.ensures n ∙ (λ i. is_set (c.deref_mut.ensures.value i) n && not (has c.args.items.now n))) in
    record {
      held = subst (λ (words : List ℕ). AreWordsBelow mine.bound words) (sym whole) holds.held;
      small = mine.small;
      rising = subst (λ (words : List ℕ). IsRisingBelow mine.bound (numbers_where mine.bound (is_set words)))
          (sym whole) holds.rising;
    }

-- clearing the bits of `items` leaves the items of the set that are not in `items`
pub returns-clause-items : goal.returns-clause-items
returns-clause-items c =
    let mine = c.args.self.now in
    let made = c.unmark_all.new.words in
    let whole = take_at made (drop (length made) mine.words.items) mine.words.len
    (omega (arith, c.unmark_all.auto.words, c.deref_mut.ensures.len)) in
    let holds = holds_less mine.bound mine.words.items made c.args.items.now mine.held c.requires
    (c.unmark_all.auto.words ∙ ap length c.deref_mut.ensures.value)
    (λ n. c.unmark_all.ensures n ∙ (λ i. is_set (c.deref_mut.ensures.value i) n && not (has c.args.items.now n))) in
    (λ i. numbers_where mine.bound (is_set (whole i))) ∙ holds.items
