use Rattle.release_rows.proofs.keys.RowKeys.intern.Goals as goal

-- the UUID of a member's row is added to the others if it is new
pub returns-in_ok-place-in-Member-clause-uuids : goal.returns-in_ok-place-in-Member-clause-uuids
returns-in_ok-place-in-Member-clause-uuids c =
    rw (← c.self.view_is, c.in-Member.is, ← c.as_u128.ensures) c.in_ok-place-in-Member.ensures.keys
