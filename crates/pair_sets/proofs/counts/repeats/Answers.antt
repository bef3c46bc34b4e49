use Rattle.std.proofs.Common.{ℕ, Vec, ◌≡◌, ◌∙◌, ◌+◌, ◌-◌, ◌<◌, All, arith}
use Rattle.std.proofs.Common.{List, drop, [], ◌∷◌, ◌++◌, ◌||◌, ◌==◌, length, get_or, take, sym, ap, subst}
use Rattle.std.proofs.lemmas.List.{take_all, take_at, take_more}
use Rattle.std.proofs.lemmas.List.Elements.{All-append}
use Rattle.number_lists.specs.Members.{has, times}
use Rattle.idset.specs.Words.{is_set}
use Rattle.pair_sets.proofs.TimesLemmas.{again_step, first_step, item_more, marked_again, one_below}
use Rattle.pair_sets.proofs.counts.repeats.Goals as goal
use Rattle.pair_sets.proofs.counts.repeats.Goals.{then-is_marked+in_ok-push, else-is_marked}

-- before the first number, nothing is marked and nothing is kept
pub loop-number-init : goal.loop-number-init
loop-number-init c = record {
  marked = c.in_ok-seen.ensures.marked;
  long = c.in_ok-seen.ensures.below.enough;
  within = subst (All (λ n. n < c.args.bound)) (sym c.new-left.ensures.items)
      (λ k d within. absurd (omega (arith, within)));
  often = λ n. ap (times n) c.new-left.ensures.items;
}

-- the number at hand is kept if it is marked, and marked if it is not
pub loop-number-preserved : goal.loop-number-preserved
loop-number-preserved c =
    let numbers = c.args.numbers.now in
    let k = c.loop-number.number-index in
    let x = get_or numbers k 0 in
    let before = take k numbers in
    let step : take (k + 1) numbers ≡ before ++ x ∷ [] = take_more numbers k 0 c.loop-number-test.true in
    let tested : c.is_marked.result ≡ has before x =
    c.is_marked.ensures ∙ ap (λ (words : List ℕ). is_set words x) c.deref.ensures.value
    ∙ c.loop-number.invariant.marked x in
    elim c.if-is_marked.branch [
      | then-is_marked+in_ok-push w ↦ record {
        marked = λ n. ap (λ (seen : Vec ℕ _). is_set seen.items n) w.seen-is ∙ c.loop-number.invariant.marked n
            ∙ marked_again before x n (sym tested ∙ w.if-is_marked.true) ∙ ap (λ (xs : List ℕ). has xs n) (sym step);
        long = ap (λ (seen : Vec ℕ _). length seen.items) w.seen-is ∙ c.loop-number.invariant.long;
        within = subst (λ (left : Vec ℕ _). All (λ n. n < c.args.bound) left.items) (sym w.left-is)
            (subst (All (λ n. n < c.args.bound)) (sym w.in_ok-push.ensures.items)
            (All-append (λ n. n < c.args.bound) c.loop-number.left.items (x ∷ []) c.loop-number.invariant.within
            (one_below c.args.bound x (c.requires k 0 c.loop-number-test.true))));
        often = λ n. ap (λ (left : Vec ℕ _). times n left.items) w.left-is ∙ ap (times n) w.in_ok-push.ensures.items
            ∙ again_step before c.loop-number.left.items x n (sym tested ∙ w.if-is_marked.true)
            (c.loop-number.invariant.often n)
            ∙ ap (λ (xs : List ℕ). times n xs - 1) (sym step);
      }
      | else-is_marked w ↦ record {
        marked = λ n. ap (λ (seen : Vec ℕ _). is_set seen.items n) w.seen-is
            ∙ ap (λ (words : List ℕ). is_set words n)
            (take_at w.mark.new.words (drop (length w.mark.new.words) c.loop-number.seen.items) c.loop-number.seen.len
            (omega (arith, w.mark.auto.words, w.deref_mut.ensures.len)))
            ∙ w.mark.ensures n
            ∙ (λ i. is_set (w.deref_mut.ensures.value i) n || (x == n))
            ∙ (λ i. c.loop-number.invariant.marked n i || (x == n))
            ∙ sym (item_more before x n) ∙ ap (λ (xs : List ℕ). has xs n) (sym step);
        long = ap (λ (seen : Vec ℕ _). length seen.items) w.seen-is
            ∙ ap (λ (words : List ℕ). length words)
            (take_at w.mark.new.words (drop (length w.mark.new.words) c.loop-number.seen.items) c.loop-number.seen.len
            (omega (arith, w.mark.auto.words, w.deref_mut.ensures.len)))
            ∙ w.mark.auto.words ∙ ap (λ (words : List ℕ). length words) w.deref_mut.ensures.value
            ∙ c.loop-number.invariant.long;
        within = subst (λ (left : Vec ℕ _). All (λ n. n < c.args.bound) left.items) (sym w.left-is)
            c.loop-number.invariant.within;
        often = λ n. ap (λ (left : Vec ℕ _). times n left.items) w.left-is
            ∙ first_step before c.loop-number.left.items x n (sym tested ∙ w.if-is_marked.false)
            (c.loop-number.invariant.often n)
            ∙ ap (λ (xs : List ℕ). times n xs - 1) (sym step);
      }
    ]

-- after the last number, those that are kept are below `bound`
pub returns-clause-within : goal.returns-clause-within
returns-clause-within c = c.loop-number.invariant.within

-- after the last number, all but the first of each are kept
pub returns-clause-times : goal.returns-clause-times
returns-clause-times c = λ n.
    c.loop-number.invariant.often n
    ∙ ap (λ (xs : List ℕ). times n xs - 1) (take_all c.loop-number.number-index c.args.numbers.now (omega arith))
