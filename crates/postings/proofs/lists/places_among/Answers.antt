use Rattle.std.proofs.Common.{ℕ, ◌≡◌, List, length, sym, subst, arith}
use Rattle.std.specs.Prelude.{Contains}
use Rattle.std.proofs.lemmas.List.{take_all}
use Rattle.postings.proofs.InverseLemmas.{ArePlaced, none_placed, placed, placed_more}
use Rattle.postings.proofs.lists.places_among.Goals as goal

-- before the first number there is a place, 0, for each number below the count
pub loop-place-init : goal.loop-place-init
loop-place-init c = record {
  len = c.in_ok-places.ensures.len;
  placed = none_placed c.args.numbers.now c.in_ok-places.places.items;
}

-- one number more has its place set
pub loop-place-preserved : goal.loop-place-preserved
loop-place-preserved c =
    let numbers = c.args.numbers.now in
    let at = c.loop-place.place in
    record {
      len = c.loop-place.invariant.len;
      placed = placed_more numbers c.loop-place.places.items at c.loop-place-test.true
          (omega (arith, c.requires.within at 0 c.loop-place-test.true, c.loop-place.invariant.len))
          c.loop-place.invariant.placed;
    }

-- after the last number each number below the count is found at its place
pub returns-clause-found : goal.returns-clause-found
returns-clause-found c = λ number below.
    let numbers : List ℕ = c.args.numbers.now in
    let all : c.loop-place.place ≡ length numbers =
    omega (arith, c.loop-place-test.false, c.loop-place.auto.place-end) in
    placed numbers c.loop-place.places.items
    (subst (λ (n : ℕ). ArePlaced numbers n c.loop-place.places.items) all c.loop-place.invariant.placed) number
    (subst (λ (xs : List ℕ). Contains xs number) (sym (take_all (length numbers) numbers (omega arith)))
    (c.requires.all number below))
