-- The lists of a hierarchy have exactly the concepts that chains of is-a rows or single rows say, and rise
-- strictly.
use Rattle.std.proofs.Common.{ℕ, ◌≡◌, ◌<◌, ◌+◌, ◌↔◌, ◌∙◌, Bool, true, List, [], length, get_or, subst, sym, arith}
use Rattle.std.specs.Prelude.{All, Contains}
use Rattle.std.specs.List.{range_with_len}
use Rattle.std.specs.List.Sorted.{IsStrictlyIncreasing}
use Rattle.std.proofs.lemmas.List.{get_or_default}
use Rattle.std.proofs.lemmas.List.FromFn.{get_or-range_with_len, length-range_with_len}
use Rattle.std.proofs.lemmas.List.Kept.{IsStrictlyIncreasing-filter}
use Rattle.hierarchy.specs.Hierarchy.{reaches}
use Rattle.hierarchy.proofs.HierarchyLemmas.{chain_from_test, test_from_chain}
use Rattle.number_lists.specs.KeyedLists.{list_of}
use Rattle.ancestor_index.specs.Complete.{AreComplete, AreRisingLists, AreSingleSteps}
use Rattle.ancestor_index.specs.HierarchyLists.{is_child, lists_where}
use Rattle.ancestor_index.proofs.ClosureLemmas.{length-where, list_of-where, row_there, there_row}
use Rattle.number_lists.proofs.WhereLemmas.{there_where, where_there}

-- the list of `concept` in `lists_where count test` has `other` exactly if `test concept other` holds
tested : (count : ℕ) (test : ℕ → ℕ → Bool) (concept other : ℕ) → concept < count → other < count
    → Contains (list_of (lists_where count test) concept) other ↔ (test concept other ≡ true)
tested count test concept other below near = (
  (λ there. (there_where count (test concept) other
      (subst (λ (xs : List ℕ). Contains xs other) (list_of-where count test concept below) there)).1),
  (λ told. subst (λ (xs : List ℕ). Contains xs other) (sym (list_of-where count test concept below))
      (where_there count (test concept) other near told)),
)

-- the numbers from 0 on rise strictly
range_rises : (count : ℕ) → IsStrictlyIncreasing (range_with_len 0 count)
range_rises count k within =
    let long = length-range_with_len 0 count in
    omega (
      arith,
      within,
      long,
      get_or-range_with_len 0 count k 0 (omega arith),
      get_or-range_with_len 0 count (k + 1) 0
          (omega arith),
    )

-- each list of `lists_where count test` rises strictly
pub rising : (count : ℕ) (test : ℕ → ℕ → Bool) → All IsStrictlyIncreasing (lists_where count test)
rising count test k d within =
    let below : k < count = omega (arith, within, length-where count test) in
    let list = get_or_default (lists_where count test) k d [] within ∙ list_of-where count test k below in
    subst IsStrictlyIncreasing (sym list)
    (IsStrictlyIncreasing-filter (test k) (range_with_len 0 count) (range_rises count))

-- each list of ancestors, descendants, parents and children of a hierarchy rises strictly
pub are_rising : AreRisingLists
are_rising release =
    let count = length release.concepts in
    let id : ℕ → ℕ = λ n. get_or release.concepts n 0 in (
      rising count (λ concept other. reaches release.isa (id concept) (id other)),
      rising count (λ concept other. reaches release.isa (id other) (id concept)),
      rising count (λ concept other. is_child release.isa (id concept) (id other)),
      rising count (λ concept other. is_child release.isa (id other) (id concept)),
    )

-- the list of ancestors of a concept has exactly the concepts that a chain of is-a rows leads to from it, and the
-- list of descendants those from which a chain leads to it
pub are_complete : AreComplete
are_complete release concept other below near =
    let count = length release.concepts in
    let id : ℕ → ℕ = λ n. get_or release.concepts n 0 in
    let up = tested count (λ concept other. reaches release.isa (id concept) (id other)) concept other below near in
    let down = tested count (λ concept other. reaches release.isa (id other) (id concept)) concept other below near in (
      (
        (λ there. chain_from_test release.isa (id concept) (id other) (up.0 there)),
        (λ chain. up.1 (test_from_chain release.isa chain)),
      ),
      (
        (λ there. chain_from_test release.isa (id other) (id concept) (down.0 there)),
        (λ chain. down.1 (test_from_chain release.isa chain)),
      ),
    )

-- the list of parents of a concept has exactly the concepts that an is-a row leads to from it, and the list of
-- children those from which an is-a row leads to it
pub are_single_steps : AreSingleSteps
are_single_steps release concept other below near =
    let count = length release.concepts in
    let id : ℕ → ℕ = λ n. get_or release.concepts n 0 in
    let up = tested count (λ concept other. is_child release.isa (id concept) (id other)) concept other below near in
    let down = tested count (λ concept other. is_child release.isa (id other) (id concept)) concept other below near
    in (
      (
        (λ there. row_there release.isa (id concept) (id other) (up.0 there)),
        (λ row. up.1 (there_row release.isa (id concept) (id other) row)),
      ),
      (
        (λ there. row_there release.isa (id other) (id concept) (down.0 there)),
        (λ row. down.1 (there_row release.isa (id other) (id concept) row)),
      ),
    )
