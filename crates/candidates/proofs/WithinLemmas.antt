-- Sets that are restricted to candidates.
use Rattle.std.proofs.Common.{ℕ, ◌≡◌, ◌<◌, ◌+◌, ◌∙◌, ◌∷◌, [], Bool, true, false, not, ◌&&◌, ◌||◌, ◌==◌, cond, List}
use Rattle.std.proofs.Common.{length, get_or, take, refl, sym, ap, inl, inr}
use Rattle.std.specs.Prelude.{filter, slice_get}
use Rattle.std.specs.List.{list_all, list_any}
use Rattle.std.proofs.lemmas.Bool.{cases_eq, eq-eqb, ne_eqb}
use Rattle.std.proofs.Math.Bool.{and-false}
use Rattle.release_model.specs.Pairs.{Pair}
use Rattle.release_model.specs.Release.{Release}
use Rattle.idset.specs.Sets.{all_items, other_items}
use Rattle.number_lists.specs.Members.{has}
use Rattle.number_lists.specs.Rising.{numbers_where}
use Rattle.idset.proofs.Normal.{all_items-numbers_where, other_items-numbers_where}
use Rattle.number_lists.proofs.WhereLemmas.{filter-numbers_where, has-numbers_where, numbers_where-agree}
use Rattle.number_lists.proofs.WhereLemmas.{numbers_where-none}
use Rattle.postings.specs.Groups.{all_groups}
use Rattle.candidates.specs.Groups.{groups_where, some_group_in}
use Rattle.candidates.specs.Numbers.{numbers_in}
use Rattle.candidates.specs.Within.{groups_within, numbers_within}
use Rattle.candidates.proofs.ListLemmas.{all_take, any_take}
use Rattle.number_lists.proofs.ListLemmas.{next_place}

-- the two parts of a conjunction can be exchanged
and_swap : (a b : Bool) → (a && b) ≡ (b && a)
and_swap true true = refl
and_swap true false = refl
and_swap false true = refl
and_swap false false = refl

-- a conjunction of three parts does not depend on which two are joined first
together : (a b c : Bool) → ((a && b) && c) ≡ (a && (b && c))
together true b c = refl
together false b c = refl

-- `filter p xs` contains `n` exactly if `xs` contains `n` and `n` passes `p`
pub has_kept : (p : ℕ → Bool) (xs : List ℕ) (n : ℕ) → has (filter p xs) n ≡ (has xs n && p n)
has_kept p [] n = refl
has_kept p (x ∷ xs) n = elim (cases_eq x n) [
  | inl same ↦ by_same (has_kept p xs n) same (p x) refl
  | inr apart ↦ by_other (has_kept p xs n) (ne_eqb x n apart) (p x)
]
  where
    by_same : has (filter p xs) n ≡ (has xs n && p n) → x ≡ n → (b : Bool) → p x ≡ b
        → has (cond b (x ∷ filter p xs) (filter p xs)) n ≡ (((x == n) || has xs n) && p n)
    by_same rest same true keeps = (λ i. eq-eqb x n same i || has (filter p xs) n)
        ∙ sym (λ i. (eq-eqb x n same i || has xs n) && (ap p (sym same) ∙ keeps) i)
    by_same rest same false leaves =
        rest ∙ (λ i. has xs n && (ap p (sym same) ∙ leaves) i) ∙ and-false (has xs n)
        ∙ sym ((λ i. (eq-eqb x n same i || has xs n) && (ap p (sym same) ∙ leaves) i))

    by_other : has (filter p xs) n ≡ (has xs n && p n) → (x == n) ≡ false → (b : Bool)
        → has (cond b (x ∷ filter p xs) (filter p xs)) n ≡ (((x == n) || has xs n) && p n)
    by_other rest apart true = (λ i. apart i || rest i) ∙ sym (λ i. (apart i || has xs n) && p n)
    by_other rest apart false = rest ∙ sym (λ i. (apart i || has xs n) && p n)

-- filtering the numbers in `set` by `may` gives the candidates (`may`) that are in `set`
pub restricted_to : (bound : ℕ) (may set : ℕ → Bool) (found left : List ℕ) → found ≡ numbers_where bound set
    → left ≡ filter may found
    → left ≡ numbers_where bound (λ n. may n && set n)
restricted_to bound may set found left found_is left_is =
    left_is ∙ ap (filter may) found_is ∙ filter-numbers_where bound set may
    ∙ (λ i. numbers_where bound (λ n. and_swap (set n) (may n) i))

-- if there is no candidate, the candidates in `set` are the empty list
pub none_within : (bound : ℕ) (may set : ℕ → Bool) (found : List ℕ) → ((n : ℕ) → may n ≡ false) → found ≡ []
    → found ≡ numbers_where bound (λ n. may n && set n)
none_within bound may set found none is =
    is ∙ sym (numbers_where-none bound) ∙ (λ i. numbers_where bound (λ n. sym (none n) i && set n))

-- if `found` has the numbers in `start`, and `next` those of `found` in `set`, then `next` has the numbers that are in
-- both
pub asked_of : (bound : ℕ) (start set : ℕ → Bool) (found next : List ℕ) → found ≡ numbers_where bound start
    → next ≡ numbers_where bound (λ n. has found n && set n)
    → next ≡ numbers_where bound (λ n. start n && set n)
asked_of bound start set found next found_is next_is =
    next_is
    ∙ numbers_where-agree bound (λ n. has found n && set n) (λ n. start n && set n)
    (λ n within. ap (λ (b : Bool). b && set n) (ap (λ (xs : List ℕ). has xs n) found_is
    ∙ has-numbers_where bound start n within))

-- removing from the candidates in `one` those of them in `other` gives the candidates that are in `one` and not in
-- `other`
pub minus_within : (bound : ℕ) (may one other : ℕ → Bool) (left right found : List ℕ)
    → left ≡ numbers_where bound (λ n. may n && one n)
    → right ≡ numbers_where bound (λ n. has left n && other n)
    → found ≡ other_items left right
    → found ≡ numbers_where bound (λ n. may n && (one n && not (other n)))
minus_within bound may one other left right found left_is right_is found_is =
    found_is
    ∙ (λ i. other_items (left_is i) (asked_of bound (λ n. may n && one n) other left right left_is right_is i))
    ∙ other_items-numbers_where bound (λ n. may n && one n) (λ n. (may n && one n) && other n)
    ∙ (λ i. numbers_where bound (λ n. less (may n) (one n) (other n) i))
  where
    less : (a b c : Bool) → ((a && b) && not ((a && b) && c)) ≡ (a && (b && not c))
    less true true c = refl
    less true false c = refl
    less false b c = refl

module _ {X : Type 0} (bound : ℕ) (test : X → ℕ → Bool) (parts : List X) (k : ℕ) (d : X) (within : k < length parts)
  where
    -- to pass the first k parts and part k is to pass the first k + 1 parts
    one_more : (start : ℕ → Bool) (n : ℕ)
        → ((start n && list_all (λ part. test part n) (take k parts)) && test (get_or parts k d) n)
        ≡ (start n && list_all (λ part. test part n) (take (k + 1) parts))
    one_more start n =
        together (start n) (list_all (λ part. test part n) (take k parts)) (test (get_or parts k d) n)
        ∙ ap (λ (b : Bool). start n && b) (sym (all_take (λ part. test part n) parts k d within))
        ∙ ap (λ (m : ℕ). start n && list_all (λ part. test part n) (take m parts)) (sym (next_place k))

    -- a conjunction, one part more: if `found` has the numbers in `start` that pass the first `k` parts, and `next`
    -- those of `found` that pass part `k`, then `next` has those that pass the first `k + 1` parts
    pub all_within : (start : ℕ → Bool) (found next : List ℕ)
        → found ≡ numbers_where bound (λ n. start n && list_all (λ part. test part n) (take k parts))
        → next ≡ numbers_where bound (λ n. has found n && test (get_or parts k d) n)
        → next ≡ numbers_where bound (λ n. start n && list_all (λ part. test part n) (take (k + 1) parts))
    all_within start found next found_is next_is =
        asked_of bound (λ n. start n && list_all (λ part. test part n) (take k parts)) (test (get_or parts k d)) found
        next found_is next_is
        ∙ (λ i. numbers_where bound (λ n. one_more start n i))

    -- a disjunction, one part more: the union of the candidates that pass one of the first `k` parts and those that
    -- pass part `k` has those that pass one of the first `k + 1` parts
    pub some_within : (may : ℕ → Bool) (count : ℕ) → count ≡ bound → (found next joined : List ℕ)
        → found ≡ numbers_where bound (λ n. may n && list_any (λ part. test part n) (take k parts))
        → next ≡ numbers_where bound (λ n. may n && test (get_or parts k d) n)
        → joined ≡ all_items count found next
        → joined ≡ numbers_where bound (λ n. may n && list_any (λ part. test part n) (take (k + 1) parts))
    some_within may count counted found next joined found_is next_is joined_is =
        joined_is
        ∙ (λ i. all_items (counted i) (found_is i) (next_is i))
        ∙ all_items-numbers_where bound (λ n. may n && list_any (λ part. test part n) (take k parts))
        (λ n. may n && test (get_or parts k d) n)
        ∙ (λ i. numbers_where bound (λ n. further n i))
      where
        apart : (a b c : Bool) → ((a && b) || (a && c)) ≡ (a && (b || c))
        apart true b c = refl
        apart false b c = refl

        further : (n : ℕ) → ((may n && list_any (λ part. test part n) (take k parts))
            || (may n && test (get_or parts k d) n))
            ≡ (may n && list_any (λ part. test part n) (take (k + 1) parts))
        further n =
            apart (may n) (list_any (λ part. test part n) (take k parts)) (test (get_or parts k d) n)
            ∙ ap (λ (b : Bool). may n && b) (sym (any_take (λ part. test part n) parts k d within))
            ∙ ap (λ (m : ℕ). may n && list_any (λ part. test part n) (take m parts)) (sym (next_place k))

-- a disjunction without parts finds no candidate
pub some_of_none : (bound : ℕ) (may : ℕ → Bool) (found : List ℕ) → found ≡ []
    → found ≡ numbers_where bound (λ n. may n && false)
some_of_none bound may found is =
    is ∙ sym (numbers_where-none bound) ∙ (λ i. numbers_where bound (λ n. sym (and-false (may n)) i))

-- ---- sets of concepts and of groups, restricted to candidates
module _ (release : Release) (may : ℕ → Bool) where
  -- filtering the numbers of a set of concepts by the candidates gives the numbers of the candidates in the set
  pub kept_set : (set : ℕ → Bool) (some found : List ℕ) → some ≡ numbers_in release set → found ≡ filter may some
      → found ≡ numbers_within release may set
  kept_set set some found some_is found_is =
      restricted_to (length release.concepts) may (λ n. set (get_or release.concepts n 0)) some found some_is found_is

  -- filtering the numbers of a set of groups by the candidates gives the numbers of the candidates in the set
  pub kept_groups : (set : List Pair → Bool) (some found : List ℕ) → some ≡ groups_where release set
      → found ≡ filter may some
      → found ≡ groups_within release may set
  kept_groups set some found some_is found_is =
      restricted_to (length (all_groups release)) may
      (λ n. some_group_in release set (slice_get (all_groups release) n)) some found some_is found_is
