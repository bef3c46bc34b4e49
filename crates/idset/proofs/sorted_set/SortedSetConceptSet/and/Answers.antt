use Rattle.std.proofs.Common.{◌∙◌, ◌^◌}
use Rattle.idset.specs.Sets.{common_items}
use Rattle.idset.proofs.Rising.{common_items-swap}
use Rattle.number_lists.proofs.RisingLemmas.{rising_fits}
use Rattle.idset.proofs.sorted_set.SortedSetConceptSet.and.Goals as goal

-- the common items are the same if the other list is gone through
pub returns-in_ok-items-2-clause-items : goal.returns-in_ok-items-2-clause-items
returns-in_ok-items-2-clause-items c =
    let mine = c.args.self.now in
    let theirs = c.args.other.now in
    c.in_ok-items-2.ensures
    ∙ (λ i. common_items (c.deref-else-len.ensures.value i) (c.deref-else-len-2.ensures.value i))
    ∙ common_items-swap (2 ^ 32) theirs.items.items mine.items.items
    (rising_fits theirs.bound theirs.items.items theirs.rising theirs.small)
    (rising_fits mine.bound mine.items.items mine.rising mine.small)
