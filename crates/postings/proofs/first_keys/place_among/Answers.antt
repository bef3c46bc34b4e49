use Rattle.std.proofs.Common.{nat_eq, sym, arith, rules}
use Rattle.std.proofs.lemmas.List.Sums.{position_or_len_is}
use Rattle.postings.proofs.first_keys.place_among.Goals as goal

-- the first place at which the key stands is its place
pub returns-then-keys-place : goal.returns-then-keys-place
returns-then-keys-place c =
    sym (position_or_len_is (nat_eq c.args.key) c.args.keys.now c.loop-place.place 0
    (omega (arith, c.loop-place-test.true))
    c.loop-place.invariant (λ within. search rules))

-- a key that stands at no place has the number of keys as its place
pub returns : goal.returns
returns c =
    sym (position_or_len_is (nat_eq c.args.key) c.args.keys.now _ 0 (omega arith)
    (λ k before. c.loop-place.invariant k (omega (arith, before, c.loop-place-test.false)))
    (λ within. absurd (omega (arith, within))))
