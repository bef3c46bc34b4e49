use Rattle.std.proofs.Common.{ℕ, ◌≤◌, ◌^◌, ◌≡◌, List, get_or, subst, ltb, sym, inl, inr, arith, rules}
use Rattle.std.specs.List.Sorted.{IsNonDecreasingBy}
use Rattle.std.proofs.lemmas.Bool.{cases_lt}
use Rattle.std.proofs.lemmas.List.Sorted.{IsNonDecreasingBy-from_default, IsPartitionPoint-from_clause}
use Rattle.std.proofs.lemmas.List.Sorted.{IsPartitionedBy-ltb}
use Rattle.std.proofs.lemmas.List.Sums.{prefix_len_is}
use Rattle.number_lists.specs.Rising.{IsRising}
use Rattle.number_lists.proofs.RisingLemmas.{get_or-rising}
use Rattle.postings.proofs.groups.place_of.Goals as goal

-- a later item of a rising list is not below an earlier one
not_falling : (items : List ℕ) → IsRising items → IsNonDecreasingBy (λ n. n) items
not_falling items rises = IsNonDecreasingBy-from_default (λ n. n) items 0 (λ i j before within. elim (cases_lt i j) [
  | inl less ↦ omega (arith, get_or-rising 0 (2 ^ 32) items i j rises less within)
  | inr past ↦ same i j (omega arith)
])
  where
    same : (i j : ℕ) → i ≡ j → get_or items i 0 ≤ get_or items j 0
    same i j is = subst (λ k. get_or items i 0 ≤ get_or items k 0) is (omega arith)

-- the partition point of rising numbers is how many of them are below `number`
pub returns : goal.returns
returns c =
    let numbers = c.args.numbers.now in
    let number = c.args.number in
    let parted = IsPartitionedBy-ltb (λ n. n) numbers number (not_falling numbers c.requires) in
    let point = IsPartitionPoint-from_clause (λ n. ltb n number) _ _ c.partition_point.ensures.partitioned parted
    (λ a r q k. search rules) in
    sym (prefix_len_is (λ n. ltb n number) numbers c.partition_point.result 0 c.partition_point.ensures.bound
    (λ k before. point.0 k 0 (omega arith) before)
    (λ within. point.1 c.partition_point.result 0 (omega arith) within))
