use Rattle.std.proofs.Common.{◌∙◌, ◌%◌, ◌^◌, ◌<◌, All, ap, arith, length, map, subst, sym}
use Rattle.number_lists.specs.RisingOrder.{rising}
use Rattle.number_lists.proofs.RisingLemmas.{all_below}
use Rattle.concept_printer.specs.inside.GroupKeys.{row_with_key}
use Rattle.concept_printer.proofs.GroupLemmas.{by_rising_keys, numbers_found}
use Rattle.concept_printer.proofs.attributes.keys_by_group.Goals as goal

-- the numbers of the rows are below the count of attribute rows
pub group_keys-requires : goal.group_keys-requires
group_keys-requires c = all_below (length c.args.snapshot.now.release.attributes) c.args.rows.now c.requires

-- the rows of the sorted keys go group by group
pub returns-clause-order : goal.returns-clause-order
returns-clause-order c =
    ap (map (row_with_key c.args.snapshot.now.release)) (c.rising.ensures ∙ ap rising c.in_ok-keys.ensures)
    ∙ by_rising_keys c.args.snapshot.now.release (length c.args.snapshot.now.release.attributes)
    (omega (arith, c.attribute_count.ensures.few)) 0 c.args.rows.now c.requires

-- each sorted key has the number of an attribute row
pub returns-clause-found : goal.returns-clause-found
returns-clause-found c =
    subst (All (λ key. key % 2 ^ 32 < length c.args.snapshot.now.release.attributes))
    (sym (c.rising.ensures ∙ ap rising c.in_ok-keys.ensures))
    (numbers_found c.args.snapshot.now.release (length c.args.snapshot.now.release.attributes)
    (omega (arith, c.attribute_count.ensures.few)) c.args.rows.now c.requires)
