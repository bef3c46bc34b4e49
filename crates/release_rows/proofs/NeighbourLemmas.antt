-- A number occurs more than once in a sorted list if it equals the number before it.
use Rattle.std.proofs.lemmas.Grind.{common_steps, take_at_read}
use Rattle.std.proofs.Common.{ℕ, Bool, false, zero, suc, ◌≡◌, ◌≢◌, ◌<◌, ◌≤◌, ◌+◌, ◌-◌, ◌==◌, ◌↔◌, inl, inr, List, []}
use Rattle.std.proofs.Common.{◌∷◌, ◌++◌, length, get_or, take, cond, nat_eq, nat_lt, sym, ◌∙◌, ap, subst, refl, arith}
use Rattle.std.proofs.Common.{rules, All, AllPairs, Contains, IsPermutation, IsSorted, append-nil, nat_cmp, is_lt}
use Rattle.std.proofs.Common.{ltb-false, ltb-true, filter, true, not}
use Rattle.std.specs.List.{dedup}
use Rattle.std.specs.List.Sorted.{IsNonDecreasing, IsStrictlyIncreasing}
use Rattle.std.proofs.lemmas.Bool.{cases_Bool, cond_both}
use Rattle.std.proofs.lemmas.Bool.Decides.{nat_tests}
use Rattle.std.proofs.lemmas.List.Elements.{filter-append, All-cons, All-nil, All-contains}
use Rattle.std.proofs.lemmas.List.Kept.{AllPairs-cons, Contains-dedup_nat, Contains-from_dedup}
use Rattle.std.proofs.lemmas.List.Sorted.{IsNonDecreasingBy-from_sort, IsPermutation-sym, sum_by-IsPermutation}
use Rattle.std.proofs.lemmas.List.Sorted.{Contains-permutation}
use Rattle.std.proofs.lemmas.List.Sums.{sum_by-append, sum_by-cons, sum_by_more, sum_by_push}
use Rattle.std.proofs.lemmas.Map.Keys.{IsStrictlyIncreasing-dedup, non_decreasing_from_sorted}
use Rattle.std.proofs.lemmas.Map.Keys.{sorted_from_strictly_increasing}
use Rattle.number_lists.specs.Members.{has, times}
use Rattle.number_lists.proofs.MemberLemmas.{contains_had, had_contained, had_not}
use Rattle.release_rows.specs.inside.Repeated.{equal_neighbours}
use Rattle.number_lists.proofs.IncreasingLemmas.{earlier_below}
use Rattle.std.proofs.lemmas.List.Filters.{sum_by-filter_both}

-- one more number adds itself to the equal neighbours if it equals the number before it; otherwise it adds nothing
more_neighbour : (xs : List ℕ) (k : ℕ) → suc k < length xs
    → equal_neighbours (take (suc (suc k)) xs) ≡ equal_neighbours (take (suc k) xs)
    ++ cond (get_or xs k 0 == get_or xs (suc k) 0) (get_or xs (suc k) 0 ∷ []) []
more_neighbour [] k within = absurd (omega arith)
more_neighbour (x ∷ []) k within = absurd (omega arith)
more_neighbour (x ∷ y ∷ xs) zero within = refl
more_neighbour (x ∷ y ∷ xs) (suc k) within = grind (arith, nat_tests, more_neighbour (y ∷ xs) k (omega arith))

-- the equal neighbours of the first `place + 1` numbers are those of the first `place`, and the next number if it
-- equals the one before it
pub neighbours_more : (xs : List ℕ) (place : ℕ) → 1 ≤ place → place < length xs
    → equal_neighbours (take (place + 1) xs) ≡ equal_neighbours (take place xs)
    ++ cond (get_or xs (place - 1) 0 == get_or xs place 0) (get_or xs place 0 ∷ []) []
neighbours_more xs place some within = grind (arith, equal_neighbours, more_neighbour, cond)

-- a list has no more equal neighbours than numbers
pub neighbours_few : (xs : List ℕ) → length (equal_neighbours xs) ≤ length xs
neighbours_few [] = omega arith
neighbours_few (x ∷ []) = omega arith
neighbours_few (x ∷ y ∷ xs) = grind (arith, nat_tests, neighbours_few (y ∷ xs))

-- if the numbers never fall, their equal neighbours never fall, and none is below the first number
neighbours_rise : (x : ℕ) (xs : List ℕ) → IsNonDecreasing (x ∷ xs)
    → AllPairs (λ a b. a ≤ b) (equal_neighbours (x ∷ xs)) × All (λ y. x ≤ y) (equal_neighbours (x ∷ xs))
neighbours_rise x [] up = ((λ i j d before within. absurd (omega arith)), All-nil (λ y. x ≤ y))
neighbours_rise x (y ∷ xs) up =
    let rest = neighbours_rise y xs (λ i j d before within. up (suc i) (suc j) d (omega arith) (omega arith)) in
    let first : x ≤ y = up 0 1 0 (omega arith) (omega arith) in
    let least : All (λ z. x ≤ z) (equal_neighbours (y ∷ xs)) = λ k d within. omega (arith, rest.1 k d within, first) in
    let Rises : List ℕ → Type 0 = λ zs. AllPairs (λ a b. a ≤ b) zs × All (λ z. x ≤ z) zs in
    cond_both (x == y) (y ∷ equal_neighbours (y ∷ xs)) (equal_neighbours (y ∷ xs)) Rises
    (λ same. (AllPairs-cons (λ a b. a ≤ b) y _ rest.1 rest.0, All-cons (λ z. x ≤ z) y _ first least))
    (λ apart. (rest.0, least))

not_below : (one other : ℕ) → other ≤ one → is_lt (nat_cmp one other) ≡ false
not_below one other above = grind (arith, nat_tests)

sorted_neighbours : (xs : List ℕ) → IsNonDecreasing xs → IsSorted nat_cmp (equal_neighbours xs)
sorted_neighbours [] up = λ k d low within. absurd (omega arith)
sorted_neighbours (x ∷ xs) up = λ k d low within.
    let rises = (neighbours_rise x xs up).0 k (k + 1) d (omega arith) within in
    not_below (get_or _ (k + 1) d) (get_or _ k d) rises

-- a list contains a number exactly if the number occurs in it at least once
times-has : (key : ℕ) (xs : List ℕ) → has xs key ≡ nat_lt 0 (times key xs)
times-has key [] = refl
times-has key (x ∷ xs) = grind (arith, nat_tests, (times-has key xs), (sum_by-cons (λ y. cond (y == key) 1 0) x xs))

-- a number that occurs at least once is contained in the list
pub stands : (key : ℕ) (xs : List ℕ) → 1 ≤ times key xs → Contains xs key
stands key xs some = grind (arith, nat_tests, (contains_had xs key), (times-has key xs))

-- a number that is contained in the list occurs at least once
pub times-some : (key : ℕ) (xs : List ℕ) → Contains xs key → 1 ≤ times key xs
times-some key xs there = let some =
    ltb-true 0 (times key xs) (sym (times-has key xs) ∙ had_contained xs key there) in omega arith

-- a number that is not contained in the list occurs 0 times
pub times-none : (key : ℕ) (xs : List ℕ) → (Contains xs key → ⊥) → times key xs ≡ 0
times-none key xs none = let few =
    ltb-false 0 (times key xs) (sym (times-has key xs) ∙ had_not xs key none) in omega arith

-- if the numbers never fall, each number occurs once less among the equal neighbours
times-neighbours : (key : ℕ) (xs : List ℕ) → IsNonDecreasing xs → times key (equal_neighbours xs) ≡ times key xs - 1
times-neighbours key [] up = refl
times-neighbours key (x ∷ []) up = grind (arith, nat_tests, sum_by-cons (λ z. cond (z == key) 1 0) x [])
times-neighbours key (x ∷ y ∷ xs) up =
    let rest = times-neighbours key (y ∷ xs)
    (λ i j d before within. up (suc i) (suc j) d (omega arith) (omega arith)) in
    let whole = sum_by-cons (λ z. cond {A = ℕ} (z == key) 1 0) x (y ∷ xs) in
    let later = sum_by-cons (λ z. cond {A = ℕ} (z == key) 1 0) y xs in
    let more = sum_by-cons (λ z. cond {A = ℕ} (z == key) 1 0) y (equal_neighbours (y ∷ xs)) in
    let none : x ≢ y → x ≡ key → times key (y ∷ xs) ≡ 0 = λ apart is. times-none key (y ∷ xs) (λ there.
    omega (
      arith,
      up 0 1 0 (omega arith) (omega arith),
      up 1 (suc there.0) key (omega arith) (omega (arith, there.1)),
      there.2,
      apart,
      is,
    )) in
    grind (arith, nat_tests, rest, whole, later, more, none)

-- no number occurs twice in a list whose numbers rise
pub rising_once : (xs : List ℕ) → IsStrictlyIncreasing xs → (key : ℕ) → times key xs ≤ 1
rising_once xs up key =
    omega (
      arith,
      times-neighbours key xs (non_decreasing_from_sorted xs (sorted_from_strictly_increasing xs up)),
      ap (times key) (no_neighbour xs up),
    )
  where
    no_neighbour : (xs : List ℕ) → IsStrictlyIncreasing xs → equal_neighbours xs ≡ []
    no_neighbour [] up = refl
    no_neighbour (x ∷ []) up = refl
    no_neighbour (x ∷ y ∷ xs) up =
        let below : x < y = up 0 (omega arith) in
        grind (
          arith,
          nat_tests,
          below,
          no_neighbour (y ∷ xs)
              (λ k within. earlier_below (x ∷ y ∷ xs) up (suc k) (suc (k + 1)) (omega arith) (omega arith)),
        )

-- each number occurs once less among the equal neighbours of the sorted list than in the list
pub times_again : (keys sorted : List ℕ) → IsPermutation keys sorted → IsSorted nat_cmp sorted → (key : ℕ)
    → times key (equal_neighbours sorted) ≡ times key keys - 1
times_again keys sorted moved up key =
    omega (
      arith,
      times-neighbours key sorted (IsNonDecreasingBy-from_sort (λ x. x) sorted up),
      sum_by-IsPermutation (λ other. cond {A = ℕ} (other == key) 1 0) keys sorted moved,
    )

-- a sorted list without repetitions rises, and contains the numbers of the list
module _ (keys sorted repeated : List ℕ) (moved : IsPermutation keys sorted) (up : IsSorted nat_cmp sorted)
    (are : repeated ≡ dedup nat_eq sorted) where
  -- the sorted list without repetitions rises
  pub once_rises : IsStrictlyIncreasing repeated
  once_rises = rw are (IsStrictlyIncreasing-dedup sorted up)

  -- the sorted list without repetitions contains exactly the numbers of `keys`
  pub once_members : (key : ℕ) → Contains repeated key ↔ (1 ≤ times key keys)
  once_members key = (
    (λ there. times-some key keys (Contains-permutation sorted keys key (IsPermutation-sym keys sorted moved)
        (Contains-from_dedup nat_eq sorted key (subst (λ (numbers : List ℕ). Contains numbers key) are there)))),
    (λ some. subst (λ (numbers : List ℕ). Contains numbers key) (sym are)
        (Contains-dedup_nat sorted key (Contains-permutation keys sorted key moved (stands key keys some)))),
  )

-- a number that fails a test does not occur among those that pass
times-side : (test : ℕ → Bool) (key : ℕ) (keys : List ℕ) → test key ≡ false → times key (filter test keys) ≡ 0
times-side test key [] other = refl
times-side test key (x ∷ keys) other = grind (arith, nat_tests, sum_by-cons, times-side test key keys other)

-- the numbers that pass a test and those that fail are as many as all
pub length-sides : (test : ℕ → Bool) (keys : List ℕ)
    → length (filter test keys) + length (filter (λ x. not (test x)) keys) ≡ length keys
length-sides test [] = refl
length-sides test (x ∷ keys) = grind (arith, nat_tests, length-sides test keys)

-- a number that occurs once less in each part of a list cut at `bound` occurs in the parts together exactly if it
-- occurs twice in the list
pub twice_on_a_side : (bound : ℕ) (keys low high : List ℕ)
    → ((key : ℕ) → times key low ≡ times key (filter (λ x. nat_lt x bound) keys) - 1)
    → ((key : ℕ) → times key high ≡ times key (filter (λ x. not (nat_lt x bound)) keys) - 1)
    → (key : ℕ) → (1 ≤ times key (low ++ high)) ↔ (2 ≤ times key keys)
twice_on_a_side bound keys low high lows highs key =
    let both = sum_by-filter_both (λ x. nat_lt x bound) (λ x. not (nat_lt x bound)) (λ x. refl)
    (λ other. cond {A = ℕ} (other == key) 1 0) keys in
    let all = sum_by-append (λ other. cond {A = ℕ} (other == key) 1 0) low high in
    elim (cases_Bool (nat_lt key bound)) [
      | inl below ↦
          let none = times-side (λ x. not (nat_lt x bound)) key keys (ap not below) in (
            (λ some. omega (arith, some, both, all, none, lows key, highs key)),
            (λ twice. omega (arith, twice, both, all, none, lows key, highs key)),
          )
      | inr above ↦
          let none = times-side (λ x. nat_lt x bound) key keys above in (
            (λ some. omega (arith, some, both, all, none, lows key, highs key)),
            (λ twice. omega (arith, twice, both, all, none, lows key, highs key)),
          )
    ]

-- if no number is found to occur twice, each occurs at most once
pub none_twice : (repeated keys : List ℕ) → length repeated ≡ 0
    → ((key : ℕ) → Contains repeated key ↔ (2 ≤ times key keys)) → (key : ℕ) → times key keys ≤ 1
none_twice repeated keys none members key = grind (arith, (members key).1)

-- one more number is added to those that pass a test if it passes
pub filter_more : (passes : ℕ → Bool) (xs : List ℕ) (i : ℕ) → i < length xs
    → filter passes (take (i + 1) xs)
    ≡ filter passes (take i xs) ++ cond (passes (get_or xs i 0)) (get_or xs i 0 ∷ []) []
filter_more passes xs i within = rw ((take_at_read xs i 0 within).1, filter-append) refl

-- the rules for the loop over neighbours
pub ruleset neighbours_by_one = (append-nil, nat_tests, common_steps, neighbours_more)

-- A number is late if it is not above all numbers before it. All equal numbers but the first are late.

-- each number occurs in `seen` at most once more than among the late numbers `following`
abbrev pub AreAfter : List ℕ → List ℕ → Type 0
AreAfter seen following = (key : ℕ) → times key seen ≤ 1 + times key following

module _ (keys following : List ℕ) (i : ℕ) (within : i < length keys) (are : AreAfter (take i keys) following) where
  -- a further number, which is late, keeps `AreAfter` if it is added to the late numbers
  pub after_pushed : AreAfter (take (i + 1) keys) (following ++ get_or keys i 0 ∷ [])
  after_pushed key = omega (
    arith,
    are key,
    sum_by_more (λ other. cond (other == key) 1 0) keys i 0 within,
    sum_by_push (λ other. cond (other == key) 1 0) following (get_or keys i 0),
  )

  -- a further number, which is above all numbers seen, keeps `AreAfter` without being added
  pub after_kept : (highest : ℕ) → All (λ key. key ≤ highest) (take i keys) → highest < get_or keys i 0
      → AreAfter (take (i + 1) keys) following
  after_kept highest low above key =
      let none : get_or keys i 0 ≡ key → times key (take i keys) ≡ 0 =
      λ same. times-none key (take i keys) (λ there. omega (
        arith,
        All-contains (λ key. key ≤ highest) (take i keys) key low there,
      )) in
      grind (arith, nat_tests, are key, none, sum_by_more (λ other. cond {A = ℕ} (other == key) 1 0) keys i 0 within)

-- a number of `others` does not occur among the numbers that are not in `others`
times-left : (others : List ℕ) (key : ℕ) (keys : List ℕ) → has others key ≡ true
    → times key (filter (λ x. not (has others x)) keys) ≡ 0
times-left others key [] had = refl
times-left others key (x ∷ keys) had = grind (arith, nat_tests, sum_by-cons, times-left others key keys had)

-- a number occurs twice in a list exactly if it occurs twice among the numbers that equal a late one
pub twice_among : (keys following sorted others : List ℕ) → AreAfter keys following → IsPermutation following sorted
    → others ≡ dedup nat_eq sorted
    → (key : ℕ) → (2 ≤ times key (filter (has others) keys)) ↔ (2 ≤ times key keys)
twice_among keys following sorted others are moved once key =
    let both = sum_by-filter_both (has others) (λ x. not (has others x)) (λ x. refl)
    (λ other. cond {A = ℕ} (other == key) 1 0) keys in (
      (λ twice. omega (arith, twice, both)),
      (λ twice.
          let kept = Contains-dedup_nat sorted key
          (Contains-permutation following sorted key moved
          (stands key following (omega (arith, twice, are key)))) in
          omega (
            arith,
            twice,
            both,
            times-left others key keys
                (rw once (had_contained (dedup nat_eq sorted) key kept)),
          )),
    )
