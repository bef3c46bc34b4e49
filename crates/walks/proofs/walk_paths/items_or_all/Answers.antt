use Rattle.std.proofs.Common.{arith}
use Rattle.number_lists.proofs.RisingLemmas.{all_below}
use Rattle.walks.proofs.ReadLemmas.{items_of_set, set_items}
use Rattle.walks.proofs.walk_paths.items_or_all.Goals as goal

-- rising concepts below `count` are each below `count`
pub items_of_lists-requires-clause-below : goal.items_of_lists-requires-clause-below
items_of_lists-requires-clause-below c = all_below c.args.count c.args.concepts.now c.requires.rising

-- the lists of many concepts have no more items than all lists
pub returns-then-concepts-gt-MANY-clause-read : goal.returns-then-concepts-gt-MANY-clause-read
returns-then-concepts-gt-MANY-clause-read c =
    omega (
      arith,
      c.items_of_all_lists-all.ensures,
      set_items c.args.count c.args.reader.indexes.now.hierarchy c.requires.over c.args.family c.args.concepts.now
          c.requires.rising,
    )

-- the lists of few concepts have no more items than a walk may read
pub returns-clause-within : goal.returns-clause-within
returns-clause-within c =
    omega (
      arith,
      c.items_of_lists.ensures.few,
      items_of_set c.args.count c.args.reader.indexes.now.hierarchy c.requires.over c.args.family c.args.concepts.now
          c.requires.rising,
    )

-- the sum of the lengths of the lists fits in 64 bits, so it is not saturated
pub returns-clause-read : goal.returns-clause-read
returns-clause-read c =
    omega (
      arith,
      c.items_of_lists.ensures.all (omega (arith, c.items_of_lists.type_inv)),
      c.items_of_all_lists-all.ensures,
      c.items_of_all_lists-all.type_inv,
      set_items c.args.count c.args.reader.indexes.now.hierarchy c.requires.over c.args.family c.args.concepts.now
          c.requires.rising,
    )
