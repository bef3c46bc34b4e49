use Rattle.idset.proofs.WordLemmas.{items_below, marked_items}
use Rattle.idset.proofs.word_set.WordSetConceptSet.from_items.Goals as goal

-- each item is below `bound`
pub bitmap_of-requires : goal.bitmap_of-requires
bitmap_of-requires c = items_below c.args.bound c.args.items.now c.requires

-- the bits of the items of a rising list hold this list
pub returns-clause-items : goal.returns-clause-items
returns-clause-items c =
    marked_items c.args.bound c.in_ok-words.words.items c.args.items.now c.requires c.in_ok-words.ensures
