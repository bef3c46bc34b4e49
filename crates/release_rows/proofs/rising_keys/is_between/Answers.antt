use Rattle.std.proofs.Common.{arith}
use Rattle.std.proofs.lemmas.Grind.{common_steps}
use Rattle.std.proofs.lemmas.Bool.Decides.{nat_tests}
use Rattle.number_lists.proofs.IncreasingLemmas.{has-between}
use Rattle.release_rows.proofs.rising_keys.is_between.Goals as goal
use Rattle.release_rows.proofs.rising_keys.is_between.Goals.{then-place-rising+then-place-eq0}
use Rattle.release_rows.proofs.rising_keys.is_between.Goals.{then-place-rising+else-place-eq0, else-place-rising}

-- a key below the first key is not in the list
pub returns-then-place-rising-2 : goal.returns-then-place-rising-2
returns-then-place-rising-2 c = grind (arith, common_steps, nat_tests, has-between)

-- a key above the one before `place` and below the one at `place` is not in the list
pub returns-else-place-rising-2 : goal.returns-else-place-rising-2
returns-else-place-rising-2 c =
    grind (arith, common_steps, nat_tests, has-between c.args.rising.now c.requires c.args.key c.args.place)
