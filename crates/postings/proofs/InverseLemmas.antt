-- Numbers and their places among them: what a column that follows the numbers has at the place of a number is the cell
-- of that number.
use Rattle.std.proofs.Common.{ℕ, zero, suc, ◌+◌, ◌==◌, ◌≡◌, ◌≢◌, ◌≤◌, ◌<◌, ◌∷◌, [], ◌∙◌, ⊎_elim, Bool, true, false}
use Rattle.std.proofs.Common.{cond}
use Rattle.std.proofs.Common.{List, Some, length, get_or, map, set, take, refl, sym, ap, subst, arith}
use Rattle.std.specs.Prelude.{All, Contains, slice_get, slice_index, slice_index_or}
use Rattle.std.specs.List.{concat, range_with_len}
use Rattle.std.proofs.lemmas.Bool.{cases_eq, eq-eqb}
use Rattle.std.proofs.lemmas.List.{get_or_default, get_or-map, get_or-set_other, get_or-set_same, length-map}
use Rattle.std.proofs.lemmas.List.{same_lists, take_more}
use Rattle.std.proofs.lemmas.List.Elements.{Contains-append_left, Contains-append_right, Contains-push_cases}
use Rattle.std.proofs.lemmas.Option.{get_or_from_slice_get, slice_get-get_or, slice_get_within}
use Rattle.postings.specs.inside.Cells.{IsColumn}
use Rattle.postings.specs.Places.{places_by, places_from, places_where}

-- ---- the places of the numbers, one by one
-- each of the first `n` numbers stands at its place
abbrev pub ArePlaced : List ℕ → ℕ → List ℕ → Type 0
ArePlaced numbers n places =
    (number : ℕ) → Contains (take n numbers) number
    → (slice_index places number < n) × (slice_index numbers (slice_index places number) ≡ number)

-- `ArePlaced` holds for the first 0 numbers, whatever `places` has
pub none_placed : (numbers places : List ℕ) → ArePlaced numbers 0 places
none_placed numbers places number there = absurd (omega (arith, there.1))

-- if `places` has the places of the first `n` numbers, then setting the place of number `n` to `n` makes it so for the
-- first `n + 1`
pub placed_more : (numbers places : List ℕ) (n : ℕ) → n < length numbers → get_or numbers n 0 < length places
    → ArePlaced numbers n places
    → ArePlaced numbers (n + 1) (set places (get_or numbers n 0) n)
placed_more numbers places n within room so_far number there = ⊎_elim own other (cases_eq number new)
  where
    new : ℕ
    new = get_or numbers n 0

    own : number ≡ new → (get_or (set places new n) number 0 < n + 1)
        × (get_or numbers (get_or (set places new n) number 0) 0 ≡ number)
    own same =
        let at : get_or (set places new n) number 0 ≡ n =
        ap (λ (k : ℕ). get_or (set places new n) k 0) same ∙ get_or-set_same places new n 0 room in
        (omega (arith, at), ap (λ (k : ℕ). get_or numbers k 0) at ∙ sym same)

    other : number ≢ new → (get_or (set places new n) number 0 < n + 1)
        × (get_or numbers (get_or (set places new n) number 0) 0 ≡ number)
    other apart =
        let at : get_or (set places new n) number 0 ≡ get_or places number 0 =
        get_or-set_other places new number n 0 apart in
        let before : Contains (take n numbers) number =
        ⊎_elim (λ (is : Contains (take n numbers) number). is) (λ (is : new ≡ number). absurd (apart (sym is)))
        (Contains-push_cases (take n numbers) new number
        (subst (λ (xs : List ℕ). Contains xs number) (take_more numbers n 0 within) there)) in
        let found = so_far number before in
        (omega (arith, at, found.0), ap (λ (k : ℕ). get_or numbers k 0) at ∙ found.1)

-- if `places` has the places of all `numbers`, looking up the place of a number of the list finds that number
pub placed : (numbers places : List ℕ) → ArePlaced numbers (length numbers) places → (number : ℕ)
    → Contains (take (length numbers) numbers) number
    → slice_get numbers (slice_index places number) ≡ Some number
placed numbers places are number there =
    let found = are number there in
    slice_get-get_or numbers (get_or places number 0) 0 found.0 ∙ ap (λ (n : ℕ). Some n) found.1

-- ---- columns that follow the numbers
module _ (numbers places : List ℕ) (count : ℕ) (long : length places ≡ count)
    (found : (number : ℕ) → number < count → slice_get numbers (slice_index places number) ≡ Some number) where
  -- the place of each number below `count` is below the length of `numbers`
  pub place_within : (number : ℕ) → number < count → get_or places number 0 < length numbers
  place_within number below = slice_get_within numbers (get_or places number 0) number (found number below)

  -- if a column has the cells in the order of `numbers`, then its cell at the place of a number is the cell of that
  -- number
  pub cell_back : {X : Type 0} (cells column : List X) → length cells ≡ count → IsColumn cells numbers column
      → (number : ℕ) → number < count → (d : X)
      → get_or column (get_or places number 0) d ≡ get_or cells number d
  cell_back {X} cells column many is number below d =
      ap (λ (xs : List X). get_or xs (get_or places number 0) d) (is d)
      ∙ get_or-map (λ at. get_or cells at d) numbers (get_or places number 0) 0 d (place_within number below)
      ∙ ap (λ (at : ℕ). get_or cells at d)
      (get_or_from_slice_get numbers (get_or places number 0) number 0 (found number below))

  -- if a column has the cells in the order of `numbers`, then reading it at `places` gives the cells in their own order
  pub column_back : {X : Type 0} (cells column : List X) → length cells ≡ count → IsColumn cells numbers column
      → (d : X) → map (λ place. slice_index_or column place d) places ≡ cells
  column_back {X} cells column many is d =
      same_lists (map (λ place. get_or column place d) places) cells
      (length-map places (λ place. get_or column place d) ∙ long ∙ sym many)
      (λ number e within.
      let below : number < count = omega (arith, within, length-map places (λ place. get_or column place d), long) in
      get_or-map (λ place. get_or column place d) places number 0 e (omega (arith, below, long))
      ∙ cell_back cells column many is number below d
      ∙ get_or_default cells number d e (omega (arith, below, many)))

-- ---- the places by a key
-- if item `n` passes, `place + n` is among the places of passing items counted from `place`
pub place_there : {X : Type 0} (test : X → Bool) (place : ℕ) (xs : List X) (n : ℕ) (d : X) → n < length xs
    → test (get_or xs n d) ≡ true
    → Contains (places_from place test xs) (place + n)
place_there test place [] n d within passes = absurd (omega (arith, within))
place_there test place (x ∷ xs) zero d within passes =
    subst (λ b. Contains (cond b (place ∷ places_from (place + 1) test xs) (places_from (place + 1) test xs))
    (place + 0)) (sym passes)
    (0, omega arith, omega arith)
place_there test place (x ∷ xs) (suc n) d within passes =
    by (test x) (subst (λ at. Contains (places_from (place + 1) test xs) at) same
    (place_there test (place + 1) xs n d (omega (arith, within)) passes))
  where
    same : place + 1 + n ≡ place + suc n
    same = omega arith

    by : (b : Bool) → Contains (places_from (place + 1) test xs) (place + suc n)
        → Contains (cond b (place ∷ places_from (place + 1) test xs) (places_from (place + 1) test xs)) (place + suc n)
    by true there = Contains-append_right (place ∷ []) (places_from (place + 1) test xs) (place + suc n) there
    by false there = there

-- an item in the list of a number of a range is in all lists joined
in_lists : (lists : ℕ → List ℕ) (x key from n : ℕ) → from ≤ key → key < from + n → Contains (lists key) x
    → Contains (concat (map lists (range_with_len from n))) x
in_lists lists x key from zero above below there = absurd (omega (arith, above, below))
in_lists lists x key from (suc n) above below there =
    ⊎_elim
    (λ (same : key ≡ from).
    Contains-append_left (lists from) (concat (map lists (range_with_len (from + 1) n))) x
    (subst (λ (k : ℕ). Contains (lists k) x) same there))
    (λ (other : key ≢ from).
    Contains-append_right (lists from) (concat (map lists (range_with_len (from + 1) n))) x
    (in_lists lists x key (from + 1) n (omega (arith, above, other)) (omega (arith, below)) there))
    (cases_eq key from)

-- if each key is below `count`, each place of `keys` is in one of the lists by key
pub each_place : (count : ℕ) (keys : List ℕ) → All (λ key. key < count) keys → (place : ℕ) → place < length keys
    → Contains (concat (places_by count keys)) place
each_place count keys small place within =
    let key = get_or keys place 0 in
    in_lists (λ key. places_where (λ other. other == key) keys) place key 0 count (omega arith)
    (omega (arith, small place 0 within))
    (subst (λ at. Contains (places_where (λ other. other == key) keys) at) (omega arith)
    (place_there (λ other. other == key) 0 keys place 0 within (eq-eqb key key refl)))
