use Rattle.std.proofs.Common.{ℕ, ◌≡◌, ◌≤◌, ◌-◌, ◌++◌, ◌↔◌, ◌∙◌, List, ap, arith, filter, length, length-append, nat_lt}
use Rattle.std.proofs.Common.{not, subst, sym}
use Rattle.number_lists.specs.Members.{times}
use Rattle.release_rows.proofs.NeighbourLemmas.{length-sides, twice_on_a_side}
use Rattle.release_rows.proofs.repeated.again_keys.Goals as goal

-- the smallest key of a relationship
bound : ℕ
bound = 12223372036854775808

-- if few keys are late, the equal neighbours of the sorted doubtful keys are the keys that occur twice
pub returns-then-few_are_after-clause-members : goal.returns-then-few_are_after-clause-members
returns-then-few_are_after-clause-members c = λ key.
    let less = c.in_ok-again.ensures.times key in
    let twice = c.in_ok-doubtful.ensures.twice key in
    ((λ some. twice.0 (omega (arith, some, less))), (λ two. let more = twice.1 two in omega (arith, more, less)))

-- if many keys are late, the equal neighbours of the keys below the bound and of those from it on are the keys that
-- occur twice
pub returns-clause-members : goal.returns-clause-members
unfolding bound
returns-clause-members c = λ key.
    let keys = c.args.keys.now in
    let low = c.in_ok-again-2.again.items in
    let high = c.in_ok-others-2.others.items in
    let lows : (key : ℕ) → times key low ≡ times key (filter (λ x. nat_lt x bound) keys) - 1 = λ key.
    c.in_ok-again-2.ensures.times key ∙ ap (λ (keys : List ℕ). times key keys - 1) c.in_ok-below.ensures in
    let highs : (key : ℕ) → times key high ≡ times key (filter (λ x. not (nat_lt x bound)) keys) - 1 = λ key.
    c.in_ok-others-2.ensures.times key ∙ ap (λ (keys : List ℕ). times key keys - 1) c.in_ok-others.ensures in
    let all : c.extend_from_slice.new.self.items ≡ low ++ high =
    c.in_ok-extend_from_slice.ensures.items ∙ ap (λ (others : List ℕ). low ++ others) c.as_slice.ensures.value in
    subst (λ (again : List ℕ). (1 ≤ times key again) ↔ (2 ≤ times key keys)) (sym all)
    (twice_on_a_side bound keys low high lows highs key)

-- no more keys are found than the list has
pub returns-clause-few : goal.returns-clause-few
unfolding bound
returns-clause-few c =
    let low = c.in_ok-again-2.again.items in
    let high = c.in_ok-others-2.others.items in
    omega (
      arith,
      ap (λ (keys : List ℕ). length keys)
          (c.in_ok-extend_from_slice.ensures.items ∙ ap (λ (others : List ℕ). low ++ others) c.as_slice.ensures.value),
      length-append low high,
      c.in_ok-again-2.ensures.few,
      c.in_ok-others-2.ensures.few,
      ap (λ (keys : List ℕ). length keys) c.in_ok-below.ensures,
      ap (λ (keys : List ℕ). length keys) c.in_ok-others.ensures,
      length-sides (λ x. nat_lt x bound) c.args.keys.now,
    )
