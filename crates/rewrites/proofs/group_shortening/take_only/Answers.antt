use Rattle.std.proofs.Common.{refl, arith}
use Rattle.rewrites.proofs.SimplifiedLists.{not_only_group_part}
use Rattle.rewrites.proofs.group_shortening.take_only.Goals as goal

-- `take_only` rightly returns the plans of groups unchanged if their number is not 1
pub returns-then-len-ne1 : goal.returns-then-len-ne1
returns-then-len-ne1 c = (refl, not_only_group_part c.args.parts.items (omega (arith, c.len.ensures)))
