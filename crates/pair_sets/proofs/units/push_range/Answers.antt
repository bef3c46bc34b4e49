use Rattle.std.proofs.Common.{ℕ, List, ◌≡◌, ◌+◌, ◌-◌, ◌∙◌, ◌∷◌, ◌++◌, [], sym, ap, arith, append_assoc}
use Rattle.std.specs.List.{range_with_len}
use Rattle.pair_sets.proofs.OwnedLemmas.{range_next}
use Rattle.pair_sets.proofs.units.push_range.Goals as goal

-- the number at hand is appended to the range up to it
pub loop-number-preserved : goal.loop-number-preserved
loop-number-preserved c =
    let start = c.args.start in
    let number = c.loop-number.number in
    let steps : number + 1 - start ≡ (number - start) + 1 = omega arith in
    let last : start + (number - start) ≡ number = omega arith in
    record {
      found = c.in_ok-push.ensures.items
          ∙ (λ i. c.loop-number.invariant.found i ++ sym last i ∷ [])
          ∙ append_assoc c.args.found.now.items (range_with_len start (number - start))
          ((start + (number - start)) ∷ [])
          ∙ ap (λ (xs : List ℕ). c.args.found.now.items ++ xs) (sym (range_next start (number - start)))
          ∙ ap (λ (n : ℕ). c.args.found.now.items ++ range_with_len start n) (sym steps);
      few = omega arith;
    }

-- after the last number, the range up to `end` is pushed
pub returns : goal.returns
returns c =
    let all : c.loop-number.number - c.args.start ≡ c.args.end - c.args.start = omega arith in
    c.loop-number.invariant.found ∙ ap (λ (n : ℕ). c.args.found.now.items ++ range_with_len c.args.start n) all
