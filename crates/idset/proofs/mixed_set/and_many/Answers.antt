use Rattle.std.proofs.Common.{◌∙◌, ◌^◌, ap, sym}
use Rattle.idset.specs.inside.MixedForm.{form_items}
use Rattle.idset.specs.Sets.{common_items}
use Rattle.number_lists.specs.Rising.{numbers_where}
use Rattle.idset.specs.Words.{is_set}
use Rattle.idset.proofs.Rising.{common_items-swap}
use Rattle.number_lists.proofs.RisingLemmas.{rising_fits}
use Rattle.idset.proofs.mixed_set.and_many.Goals as goal

-- the common items of a list and words are those of the words and the list
pub returns-in_ok-set-in-Few-clause-items : goal.returns-in_ok-set-in-Few-clause-items
returns-in_ok-set-in-Few-clause-items c =
    let own = c.args.own.now in
    let numbers = numbers_where own.bound (is_set own.words.items) in
    let other = c.in-Few.other in
    ap form_items c.few.ensures ∙ c.in_ok-set-in-Few.ensures.items
    ∙ common_items-swap (2 ^ 32) other.items.items numbers
    (rising_fits other.bound other.items.items other.rising other.small)
    (rising_fits own.bound numbers own.rising own.small)
    ∙ ap (common_items numbers) (sym (ap form_items c.in-Few.is))
