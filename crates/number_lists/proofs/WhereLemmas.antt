-- The numbers below a bound that pass a test.
use Rattle.std.proofs.Common.{ℕ, zero, suc, ◌+◌, ◌-◌, ◌<◌, ◌≤◌, ◌≡◌, Bool, true, false, ◌&&◌, ◌||◌, cond, ltb, eqb}
use Rattle.std.proofs.Common.{List, [], ◌∷◌, ◌++◌}
use Rattle.std.proofs.Common.{length, refl, sym, ap, ◌∙◌, ⊎_elim, arith, inl, inr, append-nil, Contains}
use Rattle.std.specs.List.{range_with_len, count_by, filter}
use Rattle.std.proofs.lemmas.Bool.{lt-ltb, le-ltb, eq-eqb, ne_eqb, cases_lt, cases_eq}
use Rattle.std.proofs.lemmas.List.Sums.{length-filter, count_by-le-length}
use Rattle.std.proofs.lemmas.List.FromFn.{length-range_with_len}
use Rattle.number_lists.specs.Members.{has}
use Rattle.number_lists.specs.Rising.{numbers_where, listed_numbers}
use Rattle.number_lists.proofs.BlockLemmas.{filter-twice}
use Rattle.number_lists.proofs.MemberLemmas.{contains_had, had_contained}

-- the numbers from `low` on, `count` of them, that pass a test
abbrev pub numbers_from : ℕ → ℕ → (ℕ → Bool) → List ℕ
numbers_from low count test = filter test (range_with_len low count)

-- tests that agree on the `count` numbers from `low` on keep the same numbers of them
pub numbers_from-agree : (low count : ℕ) (p q : ℕ → Bool) → ((n : ℕ) → low ≤ n → n < low + count → p n ≡ q n)
    → numbers_from low count p ≡ numbers_from low count q
numbers_from-agree low zero p q agree = refl
numbers_from-agree low (suc count) p q agree =
    let here : p low ≡ q low = agree low (omega arith) (omega arith) in
    let rest : numbers_from (low + 1) count p ≡ numbers_from (low + 1) count q =
    numbers_from-agree (low + 1) count p q (λ n above below. agree n (omega arith) (omega arith)) in
    (λ i. cond (here i) (low ∷ rest i) (rest i))

-- tests that agree below `bound` give the same list
pub numbers_where-agree : (bound : ℕ) (p q : ℕ → Bool) → ((n : ℕ) → n < bound → p n ≡ q n)
    → numbers_where bound p ≡ numbers_where bound q
numbers_where-agree bound p q agree = numbers_from-agree 0 bound p q (λ n _ below. agree n (omega arith))

-- no number below `low` is in `numbers_from`
has-below : (low count : ℕ) (p : ℕ → Bool) (n : ℕ) → n < low → has (numbers_from low count p) n ≡ false
has-below low zero p n below = refl
has-below low (suc count) p n below =
    let apart : eqb low n ≡ false = ne_eqb low n (λ e. omega arith) in
    let rest : has (numbers_from (low + 1) count p) n ≡ false = has-below (low + 1) count p n (omega arith) in
    elim (p low) as (λ b. has (cond b (low ∷ numbers_from (low + 1) count p) (numbers_from (low + 1) count p)) n
    ≡ false) [ true ↦ (λ i. apart i || rest i) | false ↦ rest ]

-- a number of the range is in `numbers_from` exactly if it passes the test
has-from : (low count : ℕ) (p : ℕ → Bool) (n : ℕ) → low ≤ n → n < low + count → has (numbers_from low count p) n ≡ p n
has-from low zero p n above below = absurd (omega arith)
has-from low (suc count) p n above below =
    elim (cases_eq low n) [
      | inl same ↦
          let kept : has (numbers_from (low + 1) count p) n ≡ false = has-below (low + 1) count p n (omega arith) in
          let here : eqb low n ≡ true = eq-eqb low n same in
          (elim (p low) as (λ b. has (cond b (low ∷ numbers_from (low + 1) count p)
          (numbers_from (low + 1) count p)) n ≡ b)
          [ true ↦ (λ i. here i || has (numbers_from (low + 1) count p) n) | false ↦ kept ]) ∙ ap p same
      | inr apart ↦
          let rest : has (numbers_from (low + 1) count p) n ≡ p n =
          has-from (low + 1) count p n (omega arith) (omega arith) in
          let other : eqb low n ≡ false = ne_eqb low n apart in
          (elim (p low) as (λ b. has (cond b (low ∷ numbers_from (low + 1) count p)
          (numbers_from (low + 1) count p)) n ≡ p n)
          [ true ↦ (λ i. other i || has (numbers_from (low + 1) count p) n) ∙ rest | false ↦ rest ])
    ]

-- a number below `bound` is in `numbers_where` exactly if it passes the test
pub has-numbers_where : (bound : ℕ) (p : ℕ → Bool) (n : ℕ) → n < bound → has (numbers_where bound p) n ≡ p n
has-numbers_where bound p n below = has-from 0 bound p n (omega arith) (omega arith)

-- no number from the end of the range on is in `numbers_from`
has-past_from : (low count : ℕ) (p : ℕ → Bool) (n : ℕ) → low + count ≤ n → has (numbers_from low count p) n ≡ false
has-past_from low zero p n past = refl
has-past_from low (suc count) p n past =
    let apart : eqb low n ≡ false = ne_eqb low n (λ e. omega arith) in
    let rest : has (numbers_from (low + 1) count p) n ≡ false = has-past_from (low + 1) count p n (omega arith) in
    elim (p low) as (λ b. has (cond b (low ∷ numbers_from (low + 1) count p) (numbers_from (low + 1) count p)) n
    ≡ false) [ true ↦ (λ i. apart i || rest i) | false ↦ rest ]

-- no number from `bound` on is in `numbers_where`
pub has-numbers_where_past : (bound : ℕ) (p : ℕ → Bool) (n : ℕ) → bound ≤ n → has (numbers_where bound p) n ≡ false
has-numbers_where_past bound p n past = has-past_from 0 bound p n (omega arith)

-- any number is in `numbers_where` exactly if it is below `bound` and passes the test
pub has-numbers_where_any : (bound : ℕ) (p : ℕ → Bool) (n : ℕ) → has (numbers_where bound p) n ≡ (ltb n bound && p n)
has-numbers_where_any bound p n =
    elim (cases_lt n bound) [
      | inl below ↦ has-numbers_where bound p n below ∙ (λ i. sym (lt-ltb n bound below) i && p n)
      | inr past ↦ has-numbers_where_past bound p n past ∙ (λ i. sym (le-ltb n bound past) i && p n)
    ]

-- the numbers of two successive ranges that pass a test are those of the first range, followed by those of the
-- second
pub numbers_from-add : (low count more : ℕ) (p : ℕ → Bool)
    → numbers_from low (count + more) p ≡ numbers_from low count p ++ numbers_from (low + count) more p
numbers_from-add low zero more p = (λ i. numbers_from (low-zero i) (zero-more i) p)
  where
    low-zero : low ≡ low + 0
    low-zero = omega arith

    zero-more : 0 + more ≡ more
    zero-more = omega arith
numbers_from-add low (suc count) more p =
    let after : numbers_from (low + 1) (count + more) p ≡ numbers_from (low + 1) count p
    ++ numbers_from (low + 1 + count) more p = numbers_from-add (low + 1) count more p in
    let place : low + 1 + count ≡ low + suc count = omega arith in
    let long : suc count + more ≡ suc (count + more) = omega arith in
    let joined : numbers_from (low + 1) (count + more) p ≡ numbers_from (low + 1) count p
    ++ numbers_from (low + suc count) more p = after
    ∙ (λ i. numbers_from (low + 1) count p ++ numbers_from (place i) more p) in
    (λ i. numbers_from low (long i) p) ∙
    (elim (p low) as (λ b. cond b (low ∷ numbers_from (low + 1) (count + more) p)
    (numbers_from (low + 1) (count + more) p)
    ≡ cond b (low ∷ numbers_from (low + 1) count p) (numbers_from (low + 1) count p)
    ++ numbers_from (low + suc count) more p) [ true ↦ (λ i. low ∷ joined i) | false ↦ joined ])

-- the numbers below `bound + more` that pass are those below `bound`, followed by those of the next `more` numbers
pub numbers_where-add : (bound more : ℕ) (p : ℕ → Bool)
    → numbers_where (bound + more) p ≡ numbers_where bound p ++ filter p (range_with_len bound more)
numbers_where-add bound more p =
    let place : 0 + bound ≡ bound = omega arith in
    numbers_from-add 0 bound more p ∙ (λ i. numbers_from 0 bound p ++ numbers_from (place i) more p)

-- the numbers below `bound + 1` that pass are those below `bound`, followed by `bound` if it passes
pub numbers_where-more : (bound : ℕ) (p : ℕ → Bool)
    → numbers_where (bound + 1) p ≡ numbers_where bound p ++ cond (p bound) (bound ∷ []) []
numbers_where-more bound p = numbers_where-add bound 1 p

-- if no number of the range passes, `numbers_from` is empty
pub numbers_from-none : (low count : ℕ) (p : ℕ → Bool) → ((n : ℕ) → low ≤ n → n < low + count → p n ≡ false)
    → numbers_from low count p ≡ []
numbers_from-none low zero p none = refl
numbers_from-none low (suc count) p none =
    (λ i. cond (none low (omega arith) (omega arith) i) (low ∷ numbers_from (low + 1) count p)
    (numbers_from (low + 1) count p))
    ∙ numbers_from-none (low + 1) count p (λ n above below. none n (omega arith) (omega arith))

-- if no number from `bound` up to `further` passes, both bounds give the same list
pub numbers_where-skip : (bound further : ℕ) (p : ℕ → Bool) → bound ≤ further
    → ((n : ℕ) → bound ≤ n → n < further → p n ≡ false) → numbers_where further p ≡ numbers_where bound p
numbers_where-skip bound further p le none =
    let long : further ≡ bound + (further - bound) = omega arith in
    (λ i. numbers_where (long i) p) ∙ numbers_where-add bound (further - bound) p
    ∙ ap (λ rest. numbers_where bound p ++ rest)
    (numbers_from-none bound (further - bound) p (λ n above below. none n above (omega arith)))
    ∙ append-nil (numbers_where bound p)

-- if `number` is the least number from `bound` on that passes, the numbers below `number + 1` that pass are those
-- below `bound`, followed by `number`
pub numbers_where-next : (bound number : ℕ) (p : ℕ → Bool) → bound ≤ number
    → ((n : ℕ) → bound ≤ n → n < number → p n ≡ false) → p number ≡ true
    → numbers_where (number + 1) p ≡ numbers_where bound p ++ number ∷ []
numbers_where-next bound number p le none here =
    numbers_where-more number p ∙ (λ i. numbers_where-skip bound number p le none i ++ cond (here i) (number ∷ []) [])

-- ---- filtering `numbers_where`
-- filtering the numbers that pass `p` by `q` gives those that pass both
pub filter-numbers_where : (bound : ℕ) (p q : ℕ → Bool)
    → filter q (numbers_where bound p) ≡ numbers_where bound (λ n. p n && q n)
filter-numbers_where bound p q = filter-twice q p (range_with_len 0 bound)

-- `listed_numbers bound` of the list `numbers_where bound p` is this list
pub listed_numbers-numbers_where : (bound : ℕ) (p : ℕ → Bool)
    → listed_numbers bound (numbers_where bound p) ≡ numbers_where bound p
listed_numbers-numbers_where bound p =
    numbers_where-agree bound (has (numbers_where bound p)) p (λ n below. has-numbers_where bound p n below)

-- ---- the length of `numbers_where`
-- `numbers_where` has as many items as numbers of the range pass
pub length-numbers_where : (bound : ℕ) (p : ℕ → Bool)
    → length (numbers_where bound p) ≡ count_by p (range_with_len 0 bound)
length-numbers_where bound p = length-filter p (range_with_len 0 bound)

-- `numbers_where bound` has at most `bound` items
pub length-numbers_where-le : (bound : ℕ) (p : ℕ → Bool) → length (numbers_where bound p) ≤ bound
length-numbers_where-le bound p =
    omega (
      arith,
      length-numbers_where bound p,
      count_by-le-length p (range_with_len 0 bound),
      length-range_with_len 0
          bound,
    )

-- if every number passes, `numbers_from` is the range
numbers_from-all : (low count : ℕ) → numbers_from low count (λ _. true) ≡ range_with_len low count
numbers_from-all low zero = refl
numbers_from-all low (suc count) = ap (λ rest. low ∷ rest) (numbers_from-all (low + 1) count)

-- if every number passes, `numbers_where` is the range below `bound`
pub numbers_where-all : (bound : ℕ) → numbers_where bound (λ _. true) ≡ range_with_len 0 bound
numbers_where-all bound = numbers_from-all 0 bound

-- if no number passes, `numbers_where` is empty
pub numbers_where-none : (bound : ℕ) → numbers_where bound (λ _. false) ≡ []
numbers_where-none bound = numbers_from-none 0 bound (λ _. false) (λ n _ _. refl)

-- the range of the numbers below `bound + 1` is that of the numbers below `bound`, followed by `bound`
pub range_more : (bound : ℕ) → range_with_len 0 (bound + 1) ≡ range_with_len 0 bound ++ bound ∷ []
range_more bound = sym (numbers_where-all (bound + 1)) ∙ numbers_where-more bound (λ _. true)
    ∙ ap (λ numbers. numbers ++ bound ∷ []) (numbers_where-all bound)

-- ---- the members of `numbers_where`
-- a number below `count` that passes is in `numbers_where`
pub where_there : (count : ℕ) (test : ℕ → Bool) (n : ℕ) → n < count → test n ≡ true
    → Contains (numbers_where count test) n
where_there count test n below told =
    contains_had (numbers_where count test) n (has-numbers_where count test n below ∙ told)

-- a number in `numbers_where` is below `count` and passes
pub there_where : (count : ℕ) (test : ℕ → Bool) (n : ℕ) → Contains (numbers_where count test) n
    → (n < count) × (test n ≡ true)
there_where count test n there = ⊎_elim
    (λ (below : n < count). (
      below,
      sym (has-numbers_where count test n below)
          ∙ had_contained (numbers_where count test) n there,
    ))
    (λ (past : count ≤ n). absurd (cc (
      had_contained (numbers_where count test) n there,
      has-numbers_where_past count
          test n past,
    )))
    (cases_lt n count)
