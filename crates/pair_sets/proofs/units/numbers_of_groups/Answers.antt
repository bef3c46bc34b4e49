use Rattle.std.proofs.Common.{ℕ, List, ◌≡◌, ◌≤◌, ◌<◌, ◌+◌, ◌-◌, ◌∙◌, ◌++◌, All, length, length-append, get_or, inl, inr}
use Rattle.std.proofs.Common.{sym, ap, subst, arith}
use Rattle.std.specs.List.{range_with_len}
use Rattle.std.proofs.lemmas.List.{take_all}
use Rattle.std.proofs.lemmas.List.FromFn.{length-range_with_len}
use Rattle.std.proofs.lemmas.List.Sums.{sum_by_more}
use Rattle.std.proofs.lemmas.List.Elements.{All-append}
use Rattle.number_lists.specs.Members.{has}
use Rattle.postings.specs.Groups.{groups_before, groups_in}
use Rattle.candidates.specs.Extents.{group_count_of}
use Rattle.pair_sets.proofs.OwnedLemmas.{before_all, has_later, has_sooner, has_range, range_below, taken_more}
use Rattle.pair_sets.proofs.units.numbers_of_groups.Goals as goal

-- the range of the groups of the concept at hand is appended to those before
pub loop-concept-preserved : goal.loop-concept-preserved
loop-concept-preserved c =
    let indexed = c.args.reader.indexes.now in
    let concepts = c.args.concepts.now in
    let k = c.loop-concept.concept-index in
    let units = c.units_of-units.result in
    let more : List ℕ = range_with_len units.start (units.end - units.start) in
    let pushed : c.push_range.new.found.items ≡ c.loop-concept.found.items ++ more = c.in_ok-push_range.ensures in
    record {
      within = subst (All (λ group. group < length (groups_in indexed))) (sym pushed)
          (All-append (λ group. group < length (groups_in indexed)) c.loop-concept.found.items more
          c.loop-concept.invariant.within
          (range_below units.start units.end (length (groups_in indexed))
          (subst (λ (n : ℕ). n ≤ length (groups_in indexed)) (sym c.units_of-units.ensures.end)
          (before_all indexed (get_or concepts k 0 + 1)))));
      few = omega (
        arith,
        ap (λ (numbers : List ℕ). length numbers) pushed,
        length-append c.loop-concept.found.items more,
        length-range_with_len units.start (units.end - units.start),
        c.loop-concept.invariant.few,
        sum_by_more (group_count_of indexed) concepts k 0 c.loop-concept-test.true,
        c.units_of-units.ensures.start,
        c.units_of-units.ensures.end,
      );
      all = λ concept group there from below.
          ap (λ (xs : List ℕ). has xs group) pushed
          ∙ elim (taken_more concepts k concept c.loop-concept-test.true there) [
            | inl before ↦ has_sooner c.loop-concept.found.items more group
                (c.loop-concept.invariant.all concept group before from below)
            | inr same ↦
                let first : units.start ≤ group =
                subst (λ (n : ℕ). n ≤ group) (sym c.units_of-units.ensures.start)
                (subst (λ (n : ℕ). length (groups_before indexed n) ≤ group) (sym same) from) in
                let last : group < units.end =
                subst (λ (n : ℕ). group < n) (sym c.units_of-units.ensures.end)
                (subst (λ (n : ℕ). group < length (groups_before indexed (n + 1))) (sym same) below) in
                has_later c.loop-concept.found.items more group
                (has_range units.start (units.end - units.start) group first (omega (arith, first, last)))
          ];
    }

-- after the last concept, the list has the groups of all concepts
pub returns-clause-all : goal.returns-clause-all
returns-clause-all c = λ concept group there from below.
    let all = take_all c.loop-concept.concept-index c.args.concepts.now c.loop-concept-test.false in
    c.loop-concept.invariant.all concept group (ap (λ (concepts : List ℕ). has concepts concept) all ∙ there) from below
