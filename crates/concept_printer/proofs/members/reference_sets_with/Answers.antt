use Rattle.std.proofs.Common.{◌∙◌, ◌<◌, ℕ, List, All, ap, arith, length, subst, sym}
use Rattle.std.proofs.lemmas.List.{take_all}
use Rattle.std.specs.List.{filter}
use Rattle.number_lists.specs.KeyedLists.{list_of}
use Rattle.number_lists.specs.Members.{has}
use Rattle.number_lists.proofs.RisingLemmas.{all_below, numbers_where-rising}
use Rattle.postings.specs.Indexed.{has_members, reference_sets_of}
use Rattle.concept_printer.proofs.ListLemmas.{members_kept}
use Rattle.concept_printer.proofs.members.reference_sets_with.Goals as goal

-- each reference set has a list of members
pub is_member-requires-clause-set : goal.is_member-requires-clause-set
is_member-requires-clause-set c =
    let members = c.args.indexes.now.members in
    subst (All (λ set. set < length members)) (sym c.reference_sets-set-items.ensures)
    (all_below (length members) (reference_sets_of c.args.indexes.now)
    (numbers_where-rising (length members) (has_members members)))
    c.loop-set.set-index 0 (omega (arith, c.loop-set-test.true, c.loop-set.auto.set-index-end))

-- the reference sets that were kept are all lists that have the component
pub returns : goal.returns
returns c =
    let members = c.args.indexes.now.members in
    let sets = reference_sets_of c.args.indexes.now in
    let keep : List ℕ → List ℕ = filter (λ (set : ℕ). has (list_of members set) c.args.component) in
    c.loop-set.invariant
    ∙ ap keep (take_all c.loop-set.set-index sets
    (omega (
      arith,
      c.loop-set-test.false,
      c.loop-set.auto.set-index-end,
      ap (λ (items : List ℕ). length items) c.reference_sets-set-items.ensures,
    )))
    ∙ members_kept members c.args.component
