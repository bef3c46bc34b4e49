use Rattle.std.proofs.Common.{◌∙◌, ap, sym}
use Rattle.set_algebra.specs.Physical.{physical_of}
use Rattle.set_algebra.proofs.PhysicalLemmas.{logical-physical_of}
use Rattle.planner.specs.Asked.{choices_with}
use Rattle.query_tool.proofs.answering.asked_concepts.Goals as goal

-- the visits are those of the plan that was asked for, with its choices
pub returns-clause-reads : goal.returns-clause-reads
returns-clause-reads g c = record {
  physical = physical_of c.in_ok-physical.physical.plan;
  plan = logical-physical_of c.in_ok-physical.physical.plan ∙ c.in_ok-physical.ensures.plan;
  choices_are = sym c.choices.ensures.leaves ∙ c.in_ok-physical.ensures.choices
      ∙ ap (choices_with c.args.indexes.now c.args.choices.now) c.in_ok-physical.ensures.plan;
  within = c.in_ok-found.ensures.within;
  floor_is_read = c.in_ok-found.ensures.floor;
}
