use Rattle.std.proofs.Common.{ℕ, ◌≤◌, ◌∙◌, subst, sym, arith}
use Rattle.number_lists.specs.Rising.{IsRisingBelow}
use Rattle.set_algebra.specs.Physical.{physical_of}
use Rattle.plan_bounds.specs.Counts.{one_of}
use Rattle.plan_bounds.specs.Sizes.{size}
use Rattle.executor.proofs.CountingLemmas.{members_more}
use Rattle.executor.proofs.MemberWork.{members_read}
use Rattle.executor.proofs.found.members_found.Goals as goal

-- if memory is refused, what is read of the reference sets is within the bound of the node
pub returns-in_err-found-clause-counted : goal.returns-in_err-found-clause-counted
returns-in_err-found-clause-counted g c =
    let indexed = c.args.reader.indexes.now in
    let items = g.S.ConceptSet.items_of c.args.from.now in
    let plan = physical_of c.args.operand.now in
    let read =
    members_read c.args.reader.snapshot.now.release indexed c.args.reader.index c.concept_count.ensures.rising
    c.args.reader.members items
    (subst (λ (bound : ℕ). IsRisingBelow bound items) c.requires.bound (g.met.S.ConceptSet.rising c.args.from.now))
    (size indexed plan) c.requires.size plan c.requires.from in
    record { grows = omega arith; within = omega (arith, read) }

-- what is read of the reference sets, raised to the floor of the node, is within the bound of the node
pub returns-clause-counted : goal.returns-clause-counted
returns-clause-counted g c =
    let indexed = c.args.reader.indexes.now in
    let items = g.S.ConceptSet.items_of c.args.from.now in
    let plan = physical_of c.args.operand.now in
    let most : ℕ = size indexed plan in
    let read =
    members_read c.args.reader.snapshot.now.release indexed c.args.reader.index c.concept_count.ensures.rising
    c.args.reader.members items
    (subst (λ (bound : ℕ). IsRisingBelow bound items) c.requires.bound (g.met.S.ConceptSet.rising c.args.from.now))
    most c.requires.size plan c.requires.from in
    let more =
    members_more indexed (one_of plan) c.from.result most
    (subst (λ (count : ℕ). count ≤ most) (sym (c.from.ensures ∙ c.count.ensures)) c.requires.size) in
    let bound = rw c.lengths.ensures at c.members_limits-limits.ensures.bound in
    record { grows = omega arith; within = omega (arith, read, more, bound) }
