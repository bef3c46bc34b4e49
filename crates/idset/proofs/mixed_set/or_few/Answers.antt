use Rattle.std.proofs.Common.{◌∙◌, ap, sym}
use Rattle.idset.specs.inside.MixedForm.{form_bound, form_items}
use Rattle.idset.specs.Sets.{all_items}
use Rattle.idset.proofs.Normal.{all_items-swap}
use Rattle.idset.proofs.mixed_set.or_few.Goals as goal

-- adding the list to a copy of the words gives the union of the list and the words
pub returns-in_ok-add_all-in-Many-clause-items : goal.returns-in_ok-add_all-in-Many-clause-items
returns-in_ok-add_all-in-Many-clause-items c =
    let own = c.args.own.now in
    let set = c.in_ok-set-in-Many.set in
    let other = c.args.other.now.form in
    ap form_items c.many.ensures ∙ c.in_ok-add_all-in-Many.ensures.items
    ∙ (λ i. all_items set.bound (c.in_ok-set-in-Many.ensures.items i) (c.list.ensures i))
    ∙ (λ i. all_items set.bound (form_items (sym c.in-Many.is i)) own.items.items)
    ∙ all_items-swap own.bound set.bound own.items.items (form_items other) (c.requires ∙ ap form_bound c.in-Many.is
    ∙ sym c.in_ok-set-in-Many.ensures.bound)
