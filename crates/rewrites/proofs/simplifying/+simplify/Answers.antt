use Rattle.std.proofs.Common.{arith, ◌∙◌}
use Rattle.std.proofs.lemmas.Grind.{common_steps}
use Rattle.rewrites.proofs.SimplifiedLists.{here_more, all_here, groups_here_more, all_groups_here}
use Rattle.rewrites.proofs.simplifying.+simplify.Goals as goal

-- the loop of `simplify_parts` keeps its invariant: the first `i` plans of concepts are simplified
pub simplify_parts-loop-i-preserved : goal.simplify_parts-loop-i-preserved
simplify_parts-loop-i-preserved t c = (
  grind (arith, common_steps),
  here_more c.args.parts.now.items c.loop-i.parts.items c.loop-i.i c.index_mut.result.now c.simplify_plan.new.plan
      c.loop-i.invariant.1 (omega arith) c.index_mut.ensures.value c.simplify_plan.ensures,
)

-- `simplify_parts` has simplified all plans of concepts after its loop
pub simplify_parts-returns : goal.simplify_parts-returns
simplify_parts-returns t c = c.loop-i.invariant.1 ∙ all_here c.args.parts.now.items c.loop-i.i (omega arith)

-- the loop of `simplify_group_parts` keeps its invariant: the first `i` plans of groups are simplified
pub simplify_group_parts-loop-i-preserved : goal.simplify_group_parts-loop-i-preserved
simplify_group_parts-loop-i-preserved t c = (
  grind (arith, common_steps),
  groups_here_more c.args.parts.now.items c.loop-i.parts.items c.loop-i.i c.index_mut.result.now
      c.simplify_group.new.plan c.loop-i.invariant.1 (omega arith) c.index_mut.ensures.value c.simplify_group.ensures,
)

-- `simplify_group_parts` has simplified all plans of groups after its loop
pub simplify_group_parts-returns : goal.simplify_group_parts-returns
simplify_group_parts-returns t c = c.loop-i.invariant.1
    ∙ all_groups_here c.args.parts.now.items c.loop-i.i (omega arith)
