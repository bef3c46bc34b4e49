use Rattle.std.proofs.Common.{◌∙◌, ◌||◌, List, ℕ, sym, ap, subst, arith, drop, length}
use Rattle.std.proofs.lemmas.List.{take_at}
use Rattle.number_lists.specs.Members.{has}
use Rattle.number_lists.specs.Rising.{numbers_where, IsRisingBelow}
use Rattle.idset.specs.Words.{AreWordsBelow, is_set}
use Rattle.idset.proofs.WordLemmas.{holds_more, items_below}
use Rattle.idset.proofs.word_set.WordSetConceptSet.add_all.Goals as goal

-- each item to add has its bit within the words
pub mark_all-requires : goal.mark_all-requires
mark_all-requires c = λ k d in'.
    let mine = c.args.self.now in
    omega (
      arith,
      items_below mine.bound c.args.items.now c.requires k d in',
      c.deref_mut.ensures.len,
      mine.held.enough,
      ap length c.deref_mut.ensures.value,
    )

-- setting bits of items below the bound leaves the words within the bound
pub invariant_of-self : goal.invariant_of-self
invariant_of-self c =
    let mine = c.args.self.now in
    let made = c.mark_all.new.words in
    let whole = take_at made (drop (length made) mine.words.items) mine.words.len
    (omega (arith, c.mark_all.auto.words, c.deref_mut.ensures.len)) in
    let holds = holds_more mine.bound mine.words.items made c.args.items.now mine.held c.requires
    (c.mark_all.auto.words ∙ ap length c.deref_mut.ensures.value)
    (λ n. c.mark_all.ensures n ∙ (λ i. is_set (c.deref_mut.ensures.value i) n || has c.args.items.now n)) in
    record {
      held = subst (λ (words : List ℕ). AreWordsBelow mine.bound words) (sym whole) holds.held;
      small = mine.small;
      rising = subst (λ (words : List ℕ). IsRisingBelow mine.bound (numbers_where mine.bound (is_set words)))
          (sym whole) holds.rising;
    }

-- setting the bits of `items` gives the union of the set and `items`
pub returns-clause-items : goal.returns-clause-items
returns-clause-items c =
    let mine = c.args.self.now in
    let made = c.mark_all.new.words in
    let whole = take_at made (drop (length made) mine.words.items) mine.words.len
    (omega (arith, c.mark_all.auto.words, c.deref_mut.ensures.len)) in
    let holds = holds_more mine.bound mine.words.items made c.args.items.now mine.held c.requires
    (c.mark_all.auto.words ∙ ap length c.deref_mut.ensures.value)
    (λ n. c.mark_all.ensures n ∙ (λ i. is_set (c.deref_mut.ensures.value i) n || has c.args.items.now n)) in
    (λ i. numbers_where mine.bound (is_set (whole i))) ∙ holds.items
