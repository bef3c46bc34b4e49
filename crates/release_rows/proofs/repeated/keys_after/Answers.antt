use Rattle.std.proofs.Common.{◌≤◌, get_or, arith, take_all}
use Rattle.std.proofs.lemmas.List.Elements.{All-more}
use Rattle.release_rows.proofs.NeighbourLemmas.{after_kept, after_pushed}
use Rattle.release_rows.proofs.repeated.keys_after.Goals as goal
use Rattle.release_rows.proofs.repeated.keys_after.Goals.{then-key-highest+in_ok-push, else-key-highest}

-- a key that is not above the highest is added, and a higher one becomes the highest
pub loop-key-preserved : goal.loop-key-preserved
loop-key-preserved c =
    let keys = c.args.keys.now in
    let place = c.loop-key.key-index in
    let key = get_or keys place 0 in
    let highest = c.loop-key.highest in
    let seen = c.loop-key.invariant in
    elim c.if-key-highest.branch [
      | then-key-highest+in_ok-push w ↦ rw (w.following-is, w.in_ok-push.ensures.items, w.highest-is) (record {
        following = after_pushed keys c.loop-key.following.items place c.loop-key-test.true seen.following;
        highest = All-more (λ key. key ≤ highest) keys place 0 c.loop-key-test.true seen.highest w.if-key-highest.true;
      })
      | else-key-highest w ↦ rw (w.following-is, w.highest-is) (record {
        following = after_kept keys c.loop-key.following.items place c.loop-key-test.true seen.following highest
            seen.highest w.if-key-highest.false;
        highest = All-more (λ other. other ≤ key) keys place 0 c.loop-key-test.true
            (λ k d lt. let low = seen.highest k d lt in omega (arith, low, w.if-key-highest.false)) (omega arith);
      })
    ]

-- after the last key each key occurs in the list at most once more than among the late ones
pub returns : goal.returns
returns c = rw (take_all c.loop-key.key-index c.args.keys.now (omega arith)) at c.loop-key.invariant.following
