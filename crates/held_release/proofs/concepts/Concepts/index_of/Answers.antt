use Rattle.std.proofs.Common.{ℕ, ◌<◌, List, length, get_or, sym, subst, ap, arith}
use Rattle.held_release.specs.declared.concepts.BlockWord.{BlockWord}
use Rattle.held_release.proofs.BlockLemmas.{counted_block, greater_after, less_before, less_when_counted}
use Rattle.held_release.proofs.concepts.Concepts.index_of.Goals as goal

-- every identifier before the start of the block of `id` is less than `id`
pub number_between-requires-clause-above : goal.number_between-requires-clause-above
number_between-requires-clause-above c = λ place before.
    let inside = c.self.inside in
    let counted = counted_block inside.ids.items inside.words.items c.as_slice.result.now inside.counted
    c.self.invariant.words c.as_slice.ensures.value c.block_of-block.result c.in-Some.word.now
    c.in-Some.ensures.lookup.3.0 c.in-Some.ensures.lookup.1 in
    subst (λ ids. get_or ids place 0 < c.args.id) (sym c.as_slice-ids.ensures.value)
    (less_before inside.ids.items c.args.id c.block_of-block.result _ c.block_of-block.ensures counted.starts place
    (omega (arith, before, c.start_of-from.ensures)))

-- every identifier after the first one of the block of `id` is greater than `id`
pub number_between-requires-clause-below : goal.number_between-requires-clause-below
number_between-requires-clause-below c = λ place following within.
    let all = c.self.inside in
    let same = ap (λ (ids : List ℕ). length ids) c.as_slice-ids.ensures.value in
    subst (λ ids. c.args.id < get_or ids place 0) (sym c.as_slice-ids.ensures.value)
    (greater_after all.ids.items c.args.id c.block_of-block.result _ c.block_of-block.ensures
    (counted_block all.ids.items all.words.items c.as_slice.result.now all.counted c.self.invariant.words
    c.as_slice.ensures.value c.block_of-block.result c.in-Some.word.now c.in-Some.ensures.lookup.3.0
    c.in-Some.ensures.lookup.1) place
    (omega (arith, following, within, c.min.ensures, c.start_of-from.ensures)) (omega (arith, within, same)))

-- every identifier in the counted blocks is less than an `id` after them
pub number_between-requires-in-None-clause-above : goal.number_between-requires-in-None-clause-above
number_between-requires-in-None-clause-above c = λ place before.
    let inside = c.self.inside in
    let block : ℕ = c.block_of-block.result in
    let same = ap (λ (words : List BlockWord). length words) c.as_slice.ensures.value in
    subst (λ ids. get_or ids place 0 < c.args.id) (sym c.as_slice-ids.ensures.value)
    (less_when_counted inside.ids.items inside.words.items inside.counted c.args.id block c.self.invariant.words
    c.block_of-block.ensures (omega (arith, same, c.in-None.ensures.lookup.3)) place before)
