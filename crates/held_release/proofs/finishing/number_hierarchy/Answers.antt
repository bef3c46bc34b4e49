use Rattle.std.proofs.lemmas.Bool.Decides.{nat_tests}
use Rattle.std.proofs.lemmas.Grind.{common_steps}
use Rattle.std.proofs.Common.{arith}
use Rattle.held_release.proofs.FinishLemmas.{least_cycle}
use Rattle.held_release.proofs.NumberingLemmas.{IsWithin-numbered, first_cyclic-None, length-numbered}
use Rattle.hierarchy.proofs.WayLemmas.{ordered_acyclic}
use Rattle.held_release.proofs.finishing.number_hierarchy.Goals as goal

-- each number in the is-a rows is that of a concept, as the order of parents needs it
pub parents_first-requires-clause-within : goal.parents_first-requires-clause-within
parents_first-requires-clause-within c = grind (arith, common_steps, nat_tests, IsWithin-numbered)

-- there are few enough is-a rows for the order of parents
pub parents_first-requires-clause-few : goal.parents_first-requires-clause-few
parents_first-requires-clause-few c = grind (arith, common_steps, nat_tests, length-numbered)

-- each number in the is-a rows is that of a concept, as the search for the cycle needs it
pub cycle_fault-requires-clause-within : goal.cycle_fault-requires-clause-within
cycle_fault-requires-clause-within c = grind (arith, common_steps, nat_tests, IsWithin-numbered)

-- there are few enough is-a rows for the search for the cycle
pub cycle_fault-requires-clause-few : goal.cycle_fault-requires-clause-few
cycle_fault-requires-clause-few c = grind (arith, common_steps, nat_tests, length-numbered)

-- if there is an order in which parents come first, no concept reaches itself
pub returns-in-Some-clause-acyclic : goal.returns-in-Some-clause-acyclic
returns-in-Some-clause-acyclic c =
    let ordered = rw c.in-Some.is at c.in_ok-order.ensures.order in
    first_cyclic-None c.args.concepts.now c.len.ensures.rising c.args.ends.now
    (λ k below chain. ordered_acyclic c.len.result c.as_slice.result.now c.in-Some.order.items ordered k
    (omega (arith, below, c.len.ensures.count)) (rw (c.as_slice.ensures.value, c.in_ok-isa.ensures) chain))

-- if there is no such order, the fault names the first concept that reaches itself
pub returns-in-None-clause-cycle : goal.returns-in-None-clause-cycle
returns-in-None-clause-cycle c = grind (arith, common_steps, nat_tests, least_cycle)
