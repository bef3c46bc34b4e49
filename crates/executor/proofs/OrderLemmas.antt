-- What the parts of a node, of concepts or of groups, mean and count together if they are executed in another order.
use Rattle.std.proofs.Common.{ℕ, zero, suc, ◌+◌, ◌∷◌, [], ◌++◌, ◌==◌, ◌≡◌, ◌≤◌, ◌<◌, ◌∙◌, Bool, true, false, not}
use Rattle.std.proofs.Common.{◌&&◌, ◌||◌, List, Option, None, Some, length, get_or, map, take, refl, sym, ap, subst}
use Rattle.std.proofs.Common.{arith}
use Rattle.std.specs.Prelude.{IsPermutation, slice_get, sum_by}
use Rattle.std.specs.List.{list_all, list_any, range_with_len}
use Rattle.std.proofs.lemmas.Bool.{eqb-true}
use Rattle.std.proofs.lemmas.List.{get_or_default, length-map, map_push, nil_from_length, take_all}
use Rattle.std.proofs.lemmas.List.Folds.{list_all-map}
use Rattle.std.proofs.lemmas.List.FromFn.{fill_by_all, length-range_with_len}
use Rattle.std.proofs.lemmas.List.Sorted.{All-permutation, IsPermutation-map, length_permutation}
use Rattle.std.proofs.lemmas.List.Sorted.{list_any-IsPermutation, sum_by-IsPermutation}
use Rattle.std.proofs.lemmas.List.Sums.{sum_by-cons}
use Rattle.std.proofs.lemmas.Option.{slice_get_read}
use Rattle.number_lists.specs.Members.{has}
use Rattle.number_lists.specs.Rising.{numbers_where}
use Rattle.number_lists.proofs.BlockLemmas.{All-mapped, All-range}
use Rattle.number_lists.proofs.WhereLemmas.{range_more}
use Rattle.candidates.proofs.ListLemmas.{all_take}
use Rattle.candidates.proofs.WithinLemmas.{all_within}
use Rattle.plan_bounds.proofs.LoopLemmas.{Sum}
use Rattle.reading.specs.Counted.{CountsWithin, full}
use Rattle.reading.specs.declared.counter.Counter.{Counter}
use Rattle.executor.specs.inside.PartOrder.{IsOrderOf, IsPlaceAt}
use Rattle.executor.proofs.WorkLemmas.{SomeSoFar, some_next, some_start, some_turn, sum_all}

-- ---- an order is made of the places beside their estimates
-- one more place beside its estimate follows the places before it
pub places_more : (items next : List (ℕ × ℕ)) (estimate place : ℕ) → map (λ r. r.1) items ≡ range_with_len 0 place
    → next ≡ items ++ (estimate, place) ∷ [] → map (λ r. r.1) next ≡ range_with_len 0 (place + 1)
places_more items next estimate place before next_is =
    ap (map (λ r. r.1)) next_is
    ∙ map_push (λ r. r.1) items (estimate, place)
    ∙ ap (λ (places : List ℕ). places ++ place ∷ []) before
    ∙ sym (range_more place)

-- all places beside their estimates, however they are moved, are an order of the parts
pub places_all : (items order : List (ℕ × ℕ)) (place count : ℕ) → map (λ r. r.1) items ≡ range_with_len 0 place
    → place ≡ count → IsPermutation items order → IsOrderOf count order
places_all items order place count before all moved =
    subst (λ (places : List ℕ). IsPermutation places (map (λ r. r.1) order)) (before ∙ ap (range_with_len 0) all)
    (IsPermutation-map (λ r. r.1) items order moved)

-- ---- lists and permutations
-- a list and a permutation of it pass a test alike
all_permuted : {X : Type 0} (test : X → Bool) (xs ys : List X) → IsPermutation xs ys → list_all test xs
    ≡ list_all test ys
all_permuted {X} test xs ys moved =
    not_any xs ∙ ap not (list_any-IsPermutation (λ x. not (test x)) xs ys moved) ∙ sym (not_any ys)
  where
    both : (a b c : Bool) → b ≡ not c → (a && b) ≡ not (not a || c)
    both true b c is = is
    both false b c is = refl

    not_any : (zs : List X) → list_all test zs ≡ not (list_any (λ x. not (test x)) zs)
    not_any [] = refl
    not_any (z ∷ zs) = both (test z) (list_all test zs) (list_any (λ x. not (test x)) zs) (not_any zs)

-- a sum over mapped items is the sum of what they are mapped to
sum_by-map : {X Y : Type 0} (number : Y → ℕ) (f : X → Y) (xs : List X) → sum_by number (map f xs)
    ≡ sum_by (λ x. number (f x)) xs
sum_by-map number f [] = refl
sum_by-map number f (x ∷ xs) =
    omega (
      arith,
      sum_by-cons number (f x) (map f xs),
      sum_by-cons (λ x. number (f x)) x xs,
      sum_by-map number f xs,
    )

-- the parts at all places are the parts
some_placed : {Part : Type 0} (parts : List Part) → map Some parts
    ≡ map (slice_get parts) (range_with_len 0 (length parts))
some_placed {Part} parts =
    fill_by_all (slice_get parts) (map Some parts) (length parts) None (length-map parts Some)
    (λ k within. some_at parts k)
  where
    some_at : (xs : List Part) (k : ℕ) → get_or (map Some xs) k None ≡ slice_get xs k
    some_at [] k = refl
    some_at (x ∷ xs) zero = refl
    some_at (x ∷ xs) (suc k) = some_at xs k

-- ---- what the parts give by their places
-- what a part gives; `other` if there is no part
abbrev pub of_option : {Part X : Type 0} → X → (Part → X) → Option Part → X
of_option other of_part None = other
of_option other of_part (Some part) = of_part part

-- whether a number passes the test of the part at a place
abbrev pub placed_test : {Part : Type 0} → (Part → ℕ → Bool) → List Part → ℕ × ℕ → ℕ → Bool
placed_test test parts item n = of_option true (λ part. test part n) (slice_get parts item.1)

-- the numbers of the parts at places, added up
abbrev pub placed_sum : {Part : Type 0} → Sum Part → List Part → Sum (ℕ × ℕ)
placed_sum sum parts = record {
  of_part = λ item. of_option 0 sum.of_part (slice_get parts item.1);
  of_parts = sum_by (λ item. of_option 0 sum.of_part (slice_get parts item.1));
  none = refl;
  more = sum_by-cons (λ item. of_option 0 sum.of_part (slice_get parts item.1));
}

-- `part` is the part that is executed at `turn`
pub record IsAtTurn {Part : Type 0} (parts : List Part) (order : List (ℕ × ℕ)) (turn : ℕ) (part : Part) : Type 0 where
  -- `turn` is one of the turns
  pub within : turn < length order
  -- the part stands at the place that the order has at `turn`
  pub is : slice_get parts (get_or order turn (0, 0)).1 ≡ Some part

-- the part at the place that the order has at `turn` is executed at `turn`
pub at_turn : {Part : Type 0} {parts : List Part} {order : List (ℕ × ℕ)} {turn place : ℕ} {part : Part}
    → IsPlaceAt (length parts) order turn place → part ≡ get_or parts place part → IsAtTurn parts order turn part
at_turn {parts = parts} {place = place} {part} placed is = record {
  within = placed.within;
  is = ap (slice_get parts) (sym placed.is) ∙ slice_get_read parts (length parts) place part refl placed.inside is;
}

-- each place of an order is the place of a part
pub is_place : (count : ℕ) (order : List (ℕ × ℕ)) → IsOrderOf count order → (turn : ℕ) → turn < length order
    → (get_or order turn (0, 0)).1 < count
is_place count order is turn within =
    All-mapped (λ place. place < count) (λ r. r.1) order
    (All-permutation (λ place. place < count) (range_with_len 0 count) (map (λ r. r.1) order) is
    (All-range (λ place. place < count) 0 count (λ k low high. omega (arith, high)))) turn (0, 0) within

module _ {Part : Type 0} (parts : List Part) (order : List (ℕ × ℕ)) (is : IsOrderOf (length parts) order) where
  -- there are as many turns as parts
  same_length : length order ≡ length parts
  same_length =
      omega (
        arith,
        length_permutation (range_with_len 0 (length parts)) (map (λ r. r.1) order) is,
        length-map order (λ r. r.1),
        length-range_with_len 0 (length parts),
      )

  -- without turns there are no parts
  pub no_turns : {empty : Bool} → empty ≡ (length order == 0) → empty ≡ true → parts ≡ []
  no_turns told is_empty = nil_from_length parts (sym same_length ∙ eqb-true (length order) 0 (sym told ∙ is_empty))

  -- a number passes the tests of the parts at the places of the order exactly if it passes those of all parts
  all_placed : (test : Part → ℕ → Bool) (n : ℕ) → list_all (λ item. placed_test test parts item n) order
      ≡ list_all (λ part. test part n) parts
  all_placed test n =
      let passes : Option Part → Bool = of_option true (λ part. test part n) in
      let places : List ℕ = range_with_len 0 (length parts) in
      sym (list_all-map (λ place. passes (slice_get parts place)) (λ r. r.1) order)
      ∙ sym (all_permuted (λ place. passes (slice_get parts place)) places (map (λ r. r.1) order) is)
      ∙ sym (list_all-map passes (slice_get parts) places)
      ∙ ap (list_all passes) (sym (some_placed parts))
      ∙ list_all-map passes Some parts

  -- the sum over the parts at the places of the order is the sum over all parts
  sum_placed : (sum : Sum Part) → (placed_sum sum parts).of_parts order ≡ sum.of_parts parts
  sum_placed sum =
      let number : Option Part → ℕ = of_option 0 sum.of_part in
      let places : List ℕ = range_with_len 0 (length parts) in
      sym (sum_by-map (λ place. number (slice_get parts place)) (λ r. r.1) order)
      ∙ sum_by-IsPermutation (λ place. number (slice_get parts place)) places (map (λ r. r.1) order) is
      ∙ sym (sum_by-map number (slice_get parts) places)
      ∙ ap (sum_by number) (sym (some_placed parts))
      ∙ total parts
    where
      total : (some : List Part) → sum_by (of_option 0 sum.of_part) (map Some some) ≡ sum.of_parts some
      total [] = sym sum.none
      total (part ∷ some) =
          omega (
            arith,
            sum_by-cons (of_option 0 sum.of_part) (Some part) (map Some some),
            sum.more part some,
            total some,
          )

-- ---- what was found after a turn
module _ {Part : Type 0} (bound : ℕ) (test : Part → ℕ → Bool) (parts : List Part) (order : List (ℕ × ℕ))
    (may : ℕ → Bool)
  where
    -- the numbers that may be and pass the tests of the parts of the first `turn` turns
    abbrev pub passed : ℕ → List ℕ
    passed turn = numbers_where bound
        (λ n. may n && list_all (λ item. placed_test test parts item n) (take turn order))

    -- the test of the part at a turn is that of its place
    tested : {turn : ℕ} {part : Part} → IsAtTurn parts order turn part → (n : ℕ) → test part n
        ≡ placed_test test parts (get_or order turn (0, 0)) n
    tested at n = ap (of_option true (λ (part : Part). test part n)) (sym at.is)

    -- the first part finds what passes the tests of the first turn
    pub first_passed : {part : Part} → IsAtTurn parts order 0 part → (found : List ℕ)
        → found ≡ numbers_where bound (λ n. may n && test part n) → found ≡ passed 1
    first_passed at found found_is =
        found_is
        ∙ (λ i. numbers_where bound (λ n. may n && (tested at n
        ∙ sym (all_take (λ item. placed_test test parts item n) order 0 (0, 0) at.within)) i))

    -- what a part finds of what passes the tests of the first `turn` turns passes those of one turn more
    pub next_passed : {turn : ℕ} {part : Part} → IsAtTurn parts order turn part
        → (found next : List ℕ) → found ≡ passed turn
        → next ≡ numbers_where bound (λ n. has found n && test part n) → next ≡ passed (turn + 1)
    next_passed {turn} at found next found_is next_is =
        all_within bound (placed_test test parts) order turn (0, 0) at.within may found next found_is
        (next_is ∙ (λ i. numbers_where bound (λ n. has found n && tested at n i)))

    -- what passes the tests of all turns passes those of all parts
    pub all_passed : IsOrderOf (length parts) order → (turn : ℕ) (found : List ℕ) → length order ≤ turn
        → found ≡ passed turn
        → found ≡ numbers_where bound (λ n. may n && list_all (λ part. test part n) parts)
    all_passed is turn found past found_is =
        found_is
        ∙ ap (λ (some : List (ℕ × ℕ)). numbers_where bound
        (λ n. may n && list_all (λ item. placed_test test parts item n) some)) (take_all turn order past)
        ∙ (λ i. numbers_where bound (λ n. may n && all_placed parts order is test n i))

-- ---- what has been counted after a turn
-- loop invariant: the counts are those of the parts of the first `turn` turns
pub record TurnsSoFar {Part : Type 0} (least most : Sum Part) (parts : List Part) (order : List (ℕ × ℕ)) (turn : ℕ)
    (early late : Counter) : Type 0 where
  -- what is counted is that of the places that the order has before `turn`
  pub so_far : SomeSoFar (placed_sum least parts) (placed_sum most parts) (λ turn. 0) order turn early.count late.count

module _ {Part : Type 0} {least most : Sum Part} {parts : List Part} {order : List (ℕ × ℕ)} where
  -- before the first turn, `TurnsSoFar` holds with nothing counted
  pub turn_none : (visits : Counter) → TurnsSoFar least most parts order 0 visits visits
  turn_none visits = record { so_far = some_start visits.count }

  module _ {turn : ℕ} {early between : Counter} (turns : TurnsSoFar least most parts order turn early between) where
    -- a turn that executes its part keeps `TurnsSoFar`
    pub turn_more : {late : Counter} {part : Part} → IsAtTurn parts order turn part
        → CountsWithin (most.of_part part) between late
        → full (between.count + least.of_part part) ≤ late.count
        → TurnsSoFar least most parts order (turn + 1) early late
    turn_more at counted floor =
        let number : (sum : Sum Part) → (placed_sum sum parts).of_part (get_or order turn (0, 0)) ≡ sum.of_part _ =
        λ sum. ap (of_option 0 sum.of_part) at.is in
        record {
          so_far = some_turn turns.so_far (get_or order turn (0, 0)) at.within
              (get_or_default order turn (0, 0) (get_or order turn (0, 0)) at.within) 0
              (omega arith) counted.grows
              (omega (arith, counted.within, number most)) (omega (arith, floor, number least));
        }

    module _ (is : IsOrderOf (length parts) order) where
      -- what has been counted and what is counted for the part at `turn` are within the sum over all parts
      pub turn_next : {late : Counter} {part : Part} → IsAtTurn parts order turn part
          → CountsWithin (most.of_part part) between late → CountsWithin (most.of_parts parts) early late
      turn_next {late} at counted = record {
        grows = omega (arith, turns.so_far.grows, counted.grows);
        within = omega (
          arith,
          some_next {next = late.count} turns.so_far (get_or order turn (0, 0)) at.within
              (get_or_default order turn (0, 0) (get_or order turn (0, 0)) at.within) 0
              (omega arith) (omega (arith, counted.within, ap (of_option 0 most.of_part) at.is)),
          sum_placed parts order is most,
        );
      }

      -- after the last turn, what has been counted is within the sum over all parts
      pub turn_counted : length order ≤ turn → CountsWithin (most.of_parts parts) early between
      turn_counted past = record {
        grows = turns.so_far.grows;
        within = omega (
          arith,
          turns.so_far.counts.within,
          sum_all (placed_sum most parts) order turn past,
          sum_placed parts order is most,
        );
      }

      -- after the last turn, at least the floors of all parts have been counted
      pub turn_floor : length order ≤ turn → full (early.count + least.of_parts parts) ≤ between.count
      turn_floor past = omega (
        arith,
        turns.so_far.counts.floor,
        sum_all (placed_sum least parts) order turn past,
        sum_placed parts order is least,
      )

-- what is counted for the first part is within the sum over all parts
pub first_counted : {Part : Type 0} (most : Sum Part) {parts : List Part} {order : List (ℕ × ℕ)}
    → IsOrderOf (length parts) order
    → {early late : Counter} {part : Part} → IsAtTurn parts order 0 part → CountsWithin (most.of_part part) early late
    → CountsWithin (most.of_parts parts) early late
first_counted most is {early} at counted = turn_next {least = most} {most = most} (turn_none early) is at counted
