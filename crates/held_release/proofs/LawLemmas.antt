-- The concept that the fault `Cycle` names.
use Rattle.std.proofs.lemmas.Bool.Decides.{nat_tests}
use Rattle.std.proofs.lemmas.Grind.{common_steps}
use Rattle.std.proofs.Common.{ℕ, ◌≡◌, ◌<◌, List, length, get_or, None, Some, sym, ◌∙◌, ap, arith, Bool, true, false}
use Rattle.std.proofs.Common.{Contains, find, slice_get}
use Rattle.std.specs.List.Sorted.{IsStrictlyIncreasing}
use Rattle.std.proofs.lemmas.Bool.{cases_lt, false_from_ne_true}
use Rattle.std.proofs.lemmas.List.{get_or_default}
use Rattle.std.proofs.lemmas.List.Folds.{find_at}
use Rattle.std.proofs.lemmas.List.Sums.{fails_before_first, passes_at_first}
use Rattle.std.proofs.lemmas.Option.{get_or_from_slice_get, slice_get-get_or, slice_get_within}
use Rattle.std.specs.List.{position_or_len}
use Rattle.hierarchy.specs.Hierarchy.{Reaches, reaches}
use Rattle.hierarchy.proofs.HierarchyLemmas.{chain_from_test, test_from_chain}
use Rattle.held_release.specs.Contents.{NamesLeastCyclic}
use Rattle.std.proofs.lemmas.List.Elements.{Contains-get_or}
use Rattle.held_release.proofs.NumberingLemmas.{find-first, find-none}
use Rattle.number_lists.proofs.IncreasingLemmas.{earlier_below, not_falling}

-- the item that `find` finds passes the test, and no item before it does
find-Some : (test : ℕ → Bool) (xs : List ℕ) (x : ℕ) → find test xs ≡ Some x
    → (i : ℕ) × (i < length xs) × (get_or xs i 0 ≡ x) × (test x ≡ true)
    × ((k : ℕ) → k < i → test (get_or xs k 0) ≡ false)
find-Some test xs x found =
    let there : slice_get xs (position_or_len test xs) ≡ Some x = sym (find_at test xs) ∙ found in
    let within = slice_get_within xs (position_or_len test xs) x there in (
      position_or_len test xs,
      within,
      get_or_from_slice_get xs (position_or_len test xs) x 0 there,
      grind (arith, (passes_at_first test xs 0 within), get_or_from_slice_get),
      λ k before. fails_before_first test xs k 0 before,
    )

-- if `find` finds nothing, no item passes the test
find-none_passes : (test : ℕ → Bool) (xs : List ℕ) → find test xs ≡ None → (x : ℕ) → Contains xs x → test x ≡ false
find-none_passes test xs none x (k, below, is) =
    grind (
      arith,
      common_steps,
      nat_tests,
      (cases_lt (position_or_len test xs) (length xs)),
      (slice_get-get_or xs (position_or_len test xs) 0),
      (find_at test xs),
      (fails_before_first test xs k x),
    )

-- in a rising list a lesser concept stands before a greater one
earlier_place : (concepts : List ℕ) → IsStrictlyIncreasing concepts → (i k : ℕ) → i < length concepts
    → k < length concepts
    → get_or concepts k 0 < get_or concepts i 0 → k < i
earlier_place concepts rising i k within also less = grind (arith, common_steps, nat_tests, cases_lt, not_falling)

-- `least_cyclic` names the least concept that a chain of is-a rows leads back to, and nothing if there is no such
-- chain
pub names_least_cyclic : NamesLeastCyclic
names_least_cyclic release rising = (
  λ concept. (
    λ found.
        let at = find-Some test release.concepts concept found in (
          grind (arith, (Contains-get_or release.concepts at.0 0 at.1), at.2),
          chain_from_test release.isa concept concept at.3,
          λ lesser there less chain. grind (
            arith,
            (get_or_default release.concepts there.0 0 lesser there.1),
            there.2,
            (earlier_place release.concepts rising at.0 there.0 at.1 there.1),
            at.2,
            (at.4 there.0),
            (test_from_chain release.isa chain),
          ),
        ),
    λ (there, chain, none).
        let i : ℕ = there.0 in
        let is : get_or release.concepts i 0 ≡ concept = get_or_default release.concepts i 0 concept there.1
        ∙ there.2 in
        find-first test release.concepts i there.1
        (λ k before. fails (get_or release.concepts k 0)
        (none (get_or release.concepts k 0) (Contains-get_or release.concepts k 0 (omega (arith, there.1)))
        (grind (arith, is, (earlier_below release.concepts rising k i before there.1)))))
        (grind (arith, is, (test_from_chain release.isa chain)))
        ∙ ap (λ (n : ℕ). Some n) is,
  ),
  (
    λ found concept there chain. grind
        (arith, (find-none_passes test release.concepts found concept there), (test_from_chain release.isa chain)),
    λ none. find-none test release.concepts
        (λ k within. fails (get_or release.concepts k 0)
        (none (get_or release.concepts k 0) (Contains-get_or release.concepts k 0 within))),
  ),
)
  where
    test : ℕ → Bool
    test concept = reaches release.isa concept concept

    fails : (concept : ℕ) → (Reaches release.isa concept concept → ⊥) → test concept ≡ false
    fails concept none = false_from_ne_true (test concept)
        (λ holds. none (chain_from_test release.isa concept concept holds))
