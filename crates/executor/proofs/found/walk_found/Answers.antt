use Rattle.std.proofs.Common.{ℕ, ◌≤◌, ◌∙◌, subst, sym, arith}
use Rattle.number_lists.specs.Rising.{IsRisingBelow}
use Rattle.set_algebra.specs.Physical.{physical_of}
use Rattle.plan_bounds.specs.Counts.{one_of}
use Rattle.plan_bounds.specs.Sizes.{size}
use Rattle.executor.proofs.CountingLemmas.{walk_more}
use Rattle.executor.proofs.WalkWork.{walk_read}
use Rattle.executor.proofs.found.walk_found.Goals as goal

-- if memory is refused, what is read of the lists of the walk is within the bound of the node
pub returns-in_err-found-clause-counted : goal.returns-in_err-found-clause-counted
returns-in_err-found-clause-counted g c =
    let indexed = c.args.reader.indexes.now in
    let items = g.S.ConceptSet.items_of c.args.from.now in
    let plan = physical_of c.args.walk.operand.now in
    let read =
    walk_read c.args.reader.snapshot.now.release indexed c.args.reader.index c.concept_count.ensures.rising items
    (subst (λ (bound : ℕ). IsRisingBelow bound items) c.requires.bound (g.met.S.ConceptSet.rising c.args.from.now))
    c.args.walk.operator (size indexed plan) c.requires.size plan c.requires.from in
    record { grows = omega arith; within = omega (arith, read) }

-- what is read of the lists of the walk, raised to the floor of the node, is within the bound of the node
pub returns-clause-counted : goal.returns-clause-counted
returns-clause-counted g c =
    let indexed = c.args.reader.indexes.now in
    let items = g.S.ConceptSet.items_of c.args.from.now in
    let plan = physical_of c.args.walk.operand.now in
    let most : ℕ = size indexed plan in
    let read =
    walk_read c.args.reader.snapshot.now.release indexed c.args.reader.index c.concept_count.ensures.rising items
    (subst (λ (bound : ℕ). IsRisingBelow bound items) c.requires.bound (g.met.S.ConceptSet.rising c.args.from.now))
    c.args.walk.operator most c.requires.size plan c.requires.from in
    let more =
    walk_more indexed c.args.walk.operator (one_of plan) c.from.result most
    (subst (λ (count : ℕ). count ≤ most) (sym (c.from.ensures ∙ c.count.ensures)) c.requires.size) in
    let bound = rw c.lengths.ensures at c.walk_limits-limits.ensures.bound in
    record { grows = omega arith; within = omega (arith, read, more, bound) }
