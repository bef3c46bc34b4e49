use Rattle.std.proofs.Common.{◌∙◌, List, ℕ, ap, subst, sym}
use Rattle.idset.specs.Sets.{other_items}
use Rattle.number_lists.specs.Rising.{IsRisingBelow, numbers_where}
use Rattle.idset.specs.Words.{is_set}
use Rattle.idset.proofs.Rising.{other_items-rising}
use Rattle.idset.proofs.WordLemmas.{kept_other}
use Rattle.idset.proofs.mixed_set.list_alone.Goals as goal

-- the items of the list that the words have not rise
pub from_list-requires : goal.from_list-requires
from_list-requires c =
    let own = c.args.few.now in
    let many = c.args.many.now in
    let kept = kept_other many.bound c.words.result.now c.list.result.now own.items.items c.in_ok-items.items.items
    c.words.ensures.below c.list.ensures c.in_ok-items.ensures in
    subst (λ (b : ℕ). IsRisingBelow b c.in_ok-items.items.items) (sym c.bound.ensures)
    (subst (λ (items : List ℕ). IsRisingBelow own.bound items) (sym kept)
    (other_items-rising own.bound own.items.items (numbers_where many.bound (is_set c.words.result.now)) own.rising))

-- the items of the list that are not marked are its items that the words have not
pub returns-clause-items : goal.returns-clause-items
returns-clause-items c =
    let own = c.args.few.now in
    let many = c.args.many.now in
    c.from_list.ensures.items
    ∙ kept_other many.bound c.words.result.now c.list.result.now own.items.items c.in_ok-items.items.items
    c.words.ensures.below c.list.ensures c.in_ok-items.ensures
    ∙ ap (other_items own.items.items) (sym c.words.ensures.items)
