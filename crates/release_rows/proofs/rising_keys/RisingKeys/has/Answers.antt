use Rattle.std.proofs.Common.{Err, Ok}
use Rattle.number_lists.proofs.IncreasingLemmas.{has-searched}
use Rattle.release_rows.proofs.rising_keys.RisingKeys.has.Goals as goal

-- a key that binary search finds is in the list
pub returns-in-Ok-clause-has : goal.returns-in-Ok-clause-has
returns-in-Ok-clause-has c =
    rw (← c.self.view_is, ← c.deref.ensures.value)
    (has-searched c.deref.result.now (rw c.deref.ensures.value c.self.invariant) c.args.key
    (Ok c.in-Ok.place) c.in-Ok.ensures.position)

-- a key that binary search does not find is not in the list
pub returns-in-Err-clause-has : goal.returns-in-Err-clause-has
returns-in-Err-clause-has c =
    rw (← c.self.view_is, ← c.deref.ensures.value)
    (has-searched c.deref.result.now (rw c.deref.ensures.value c.self.invariant) c.args.key
    (Err c.in-Err.place) c.in-Err.ensures.position)
