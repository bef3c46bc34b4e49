use Rattle.std.proofs.Common.{◌∙◌, ◌++◌, ◌∷◌, [], length, take, get_or, sym, ap, append-nil, arith}
use Rattle.std.specs.List.{flat_map}
use Rattle.std.proofs.lemmas.Grind.{flat_map-append}
use Rattle.std.proofs.lemmas.List.{take_all, take_more}
use Rattle.number_lists.specs.KeyedLists.{list_of}
use Rattle.reading.proofs.CountLemmas.{counted_all, counted_next, counted_out, counted_some}
use Rattle.walks.proofs.reference_sets.components.Goals as goal

-- the components of the reference set at hand come after those of the earlier ones, and are counted
pub loop-refset-preserved : goal.loop-refset-preserved
loop-refset-preserved c =
    let lists = c.args.reader.indexes.now.members in
    let refsets = c.args.refsets.now in
    let k = c.loop-refset.refset-index in
    record {
      found = c.in_ok-extend_from_slice.ensures.items
          ∙ (λ i. c.loop-refset.invariant.found i
          ++ (c.members.ensures.items ∙ sym (append-nil (list_of lists (get_or refsets k 0)))) i)
          ∙ sym (flat_map-append (list_of lists) (take k refsets) (get_or refsets k 0 ∷ []))
          ∙ ap (flat_map (list_of lists)) (sym (take_more refsets k 0 c.loop-refset-test.true));
      counted = counted_next (λ refset. length (list_of lists refset)) refsets k c.loop-refset-test.true
          c.loop-refset.invariant.counted (counted_out c.members.ensures.counted (omega arith));
    }

-- if memory is refused for a reference set, the components up to its last are counted
pub returns-in_err-extend_from_slice-clause-counted : goal.returns-in_err-extend_from_slice-clause-counted
returns-in_err-extend_from_slice-clause-counted c =
    counted_some (λ refset. length (list_of c.args.reader.indexes.now.members refset)) c.args.refsets.now
    c.loop-refset.refset-index
    c.loop-refset-test.true c.loop-refset.invariant.counted (counted_out c.members.ensures.counted (omega arith))

-- after the last reference set, the components of all are counted
pub returns-clause-counted : goal.returns-clause-counted
returns-clause-counted c =
    counted_all (λ refset. length (list_of c.args.reader.indexes.now.members refset)) c.args.refsets.now
    c.loop-refset.refset-index
    c.loop-refset.invariant.counted

-- after the last reference set, `found` are the components of all
pub returns-clause-items : goal.returns-clause-items
returns-clause-items c =
    c.loop-refset.invariant.found
    ∙ ap (flat_map (list_of c.args.reader.indexes.now.members))
    (take_all c.loop-refset.refset-index c.args.refsets.now (omega arith))
