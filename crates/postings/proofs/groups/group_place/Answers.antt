use Rattle.std.proofs.Common.{◌+◌, ◌∙◌, ap, arith, length, nat_eq, refl, sym}
use Rattle.std.specs.List.{position_or_len}
use Rattle.key_interner.specs.KeyInterner.{keys_after}
use Rattle.postings.specs.inside.Coded.{ungrouped_pairs}
use Rattle.held_release.proofs.TypeLemmas.{place_near}
use Rattle.postings.proofs.GroupLemmas.{numbered_place, ungrouped_place}
use Rattle.postings.proofs.PairKeyLemmas.{place-ungrouped_keys, ungrouped_keys-more, ungrouped_keys-numbered}
use Rattle.postings.proofs.groups.group_place.Goals as goal

-- the place of a row's group number among the numbers is the place of its group
pub returns-then-row-ne0-clause-place : goal.returns-then-row-ne0-clause-place
returns-then-row-ne0-clause-place c = λ before following short are so_far.
    c.place_of.ensures ∙ numbered_place before c.args.row.now following c.args.numbers.now c.if-row-ne0.true
    c.requires.rising are

-- a row with a group number leaves the pairs without one as they are
pub returns-then-row-ne0-clause-ungrouped : goal.returns-then-row-ne0-clause-ungrouped
returns-then-row-ne0-clause-ungrouped c = λ before so_far. so_far
    ∙ sym (ungrouped_keys-numbered before c.args.row.now c.if-row-ne0.true)

-- the number of group numbers and a place among the pairs together fit in a `usize`
pub overflow_add-result : goal.overflow_add-result
overflow_add-result c =
    record {
      fits = omega (
        arith,
        c.in_ok-place.ensures.place,
        place_near c.args.ungrouped.now c.pair_key.result,
        c.requires.few,
      );
    }

-- the place of a row's pair, counted after the group numbers, is the place of its group
pub returns-clause-place : goal.returns-clause-place
returns-clause-place c = λ before following short are so_far.
    let row = c.args.row.now in
    ap (λ place. length c.args.numbers.now + place) (
    c.in_ok-place.ensures.place
    ∙ (λ i. position_or_len (nat_eq (c.pair_key.ensures.key i)) (so_far i))
    ∙ place-ungrouped_keys before short row c.pair_key.ensures.short
    )
    ∙ ungrouped_place before row following c.args.numbers.now (ungrouped_pairs before) c.if-row-ne0.false are refl

-- a row without a group number adds its pair to the pairs without one, if the pair is new
pub returns-clause-ungrouped : goal.returns-clause-ungrouped
returns-clause-ungrouped c = λ before so_far.
    c.in_ok-place.ensures.keys
    ∙ (λ i. keys_after (so_far i) (c.pair_key.ensures.key i))
    ∙ sym (ungrouped_keys-more before c.args.row.now c.if-row-ne0.false)
