-- The attribute rows of a release by their sources have the rows of each concept, in their order.
use Rattle.std.proofs.Common.{ℕ, zero, suc, ◌+◌, ◌==◌, ◌≡◌, ◌≢◌, ◌<◌, ◌≤◌, ◌&&◌, ◌++◌, []}
use Rattle.std.proofs.Common.{◌∙◌, ⊎_elim, List, length, get_or, Bool, true, false, cond, refl, sym, ap, subst, arith}
use Rattle.std.proofs.Common.{append-nil}
use Rattle.std.specs.Prelude.{Contains}
use Rattle.std.specs.List.{filter, flat_map, range_with_len}
use Rattle.std.specs.List.Sorted.{IsStrictlyIncreasing}
use Rattle.std.proofs.lemmas.Bool.{cases_eq, eq-eqb, ne_eqb}
use Rattle.std.proofs.lemmas.List.{get_or_default}
use Rattle.std.proofs.lemmas.List.Elements.{Contains-get_or}
use Rattle.release_model.specs.Pairs.{rows_of}
use Rattle.release_model.specs.Release.{Attribute, Release}
use Rattle.held_release.specs.AttributesBySource.{attributes_by_source}
use Rattle.number_lists.proofs.PlaceLemmas.{place_of, place_of-get_or}
use Rattle.number_lists.proofs.BlockLemmas.{blocks-same, blocks_by_place, filter-flat_map, filter-none, filter-twice}
use Rattle.number_lists.proofs.BlockLemmas.{filter-within, flat_map-within}

-- blocks that are all empty but block `j` have no item, if the range does not have `j`
none_left : {X : Type 0} (xs : List X) (j from n : ℕ) → j < from
    → flat_map (λ k. cond (k == j) xs []) (range_with_len from n) ≡ []
none_left xs j from zero past = refl
none_left xs j from (suc n) past =
    (λ i. cond (ne_eqb from j (λ same. absurd (omega arith)) i) xs [] ++ none_left xs j (from + 1) n (omega arith) i)

-- blocks that are all empty but block `j` have the items of that block, if the range has `j`
one_left : {X : Type 0} (xs : List X) (j from n : ℕ) → from ≤ j → j < from + n
    → flat_map (λ k. cond (k == j) xs []) (range_with_len from n) ≡ xs
one_left xs j from zero least below = absurd (omega arith)
one_left xs j from (suc n) least below = ⊎_elim
    (λ (same : from ≡ j). (λ i. cond (eq-eqb from j same i) xs [] ++ none_left xs j (from + 1) n (omega arith) i)
    ∙ append-nil xs)
    (λ (other : from ≢ j). (λ i. cond (ne_eqb from j other i) xs [] ++ one_left xs j (from + 1) n (further other)
    (omega arith) i))
    (cases_eq from j)
  where
    further : from ≢ j → from + 1 ≤ j
    further other = omega arith

-- the rows of a concept among its rows are its rows
rows_twice : (rows : List Attribute) (one other : ℕ) → one ≡ other
    → filter (λ (row : Attribute). row.source == other) (filter (λ (row : Attribute). row.source == one) rows)
    ≡ filter (λ (row : Attribute). row.source == other) rows
rows_twice rows one other same =
    filter-twice (λ (row : Attribute). row.source == other) (λ (row : Attribute). row.source == one) rows
    ∙ filter-within (λ (row : Attribute). (row.source == one) && (row.source == other))
    (λ (row : Attribute). row.source == other) rows
    (λ k d below. (λ i. ((get_or rows k d).source == same i) && ((get_or rows k d).source == other))
    ∙ twice ((get_or rows k d).source == other))
  where
    twice : (b : Bool) → (b && b) ≡ b
    twice true = refl
    twice false = refl

-- no row of a concept is among the rows of another
rows_apart : (rows : List Attribute) (one other : ℕ) → one ≢ other
    → filter (λ (row : Attribute). row.source == other) (filter (λ (row : Attribute). row.source == one) rows) ≡ []
rows_apart rows one other apart =
    filter-twice (λ (row : Attribute). row.source == other) (λ (row : Attribute). row.source == one) rows
    ∙ filter-none (λ (row : Attribute). (row.source == one) && (row.source == other)) rows
    (λ k d below. never (get_or rows k d).source)
  where
    never : (id : ℕ) → ((id == one) && (id == other)) ≡ false
    never id = ⊎_elim
        (λ (same : id ≡ one). (λ i. eq-eqb id one same i
        && ne_eqb id other (λ (also : id ≡ other). apart (sym same ∙ also)) i))
        (λ (differs : id ≢ one). (λ i. ne_eqb id one differs i && (id == other)))
        (cases_eq id one)

module _ (release : Release) (rising : IsStrictlyIncreasing release.concepts) (rows : List Attribute)
    (are : rows ≡ attributes_by_source release) where
  -- the rows of the concept with a number are its rows in the release
  rows_of_number : (j : ℕ) → j < length release.concepts
      → filter (λ (row : Attribute). row.source == get_or release.concepts j 0) rows
      ≡ rows_of release (get_or release.concepts j 0)
  rows_of_number j below =
      let id : ℕ → ℕ = λ k. get_or release.concepts k 0 in
      let own : List Attribute → List Attribute = filter (λ (row : Attribute). row.source == id j) in
      ap own (are ∙ blocks_by_place (rows_of release) release.concepts 0)
      ∙ filter-flat_map (λ (row : Attribute). row.source == id j) (λ k. rows_of release (id k))
      (range_with_len 0 (length release.concepts))
      ∙ blocks-same (λ k. own (rows_of release (id k))) (λ k. cond (k == j) (rows_of release (id j)) []) 0
      (length release.concepts)
      (λ k near. block k (omega arith))
      ∙ one_left (rows_of release (id j)) j 0 (length release.concepts) (omega arith) (omega arith)
    where
      block : (k : ℕ) → k < length release.concepts
          → filter (λ (row : Attribute). row.source == get_or release.concepts j 0)
          (rows_of release (get_or release.concepts k 0))
          ≡ cond (k == j) (rows_of release (get_or release.concepts j 0)) []
      block k near = ⊎_elim
          (λ (same : k ≡ j). rows_twice release.attributes (get_or release.concepts k 0) (get_or release.concepts j 0)
          (ap (λ n. get_or release.concepts n 0) same)
          ∙ (λ i. cond (sym (eq-eqb k j same) i) (rows_of release (get_or release.concepts j 0)) []))
          (λ (other : k ≢ j). rows_apart release.attributes (get_or release.concepts k 0) (get_or release.concepts j 0)
          (λ same. other (sym (place_of-get_or release.concepts rising k near) ∙ ap (place_of release.concepts) same
          ∙ place_of-get_or release.concepts rising j below))
          ∙ (λ i. cond (sym (ne_eqb k j other) i) (rows_of release (get_or release.concepts j 0)) []))
          (cases_eq k j)

  -- for a concept in force, filtering the rows ordered by source by that source gives the concept's rows in the release
  pub rows_of_again : (concept : ℕ) → Contains release.concepts concept
      → filter (λ (row : Attribute). row.source == concept) rows ≡ rows_of release concept
  rows_of_again concept there =
      subst (λ (id : ℕ). filter (λ (row : Attribute). row.source == id) rows ≡ rows_of release id)
      (get_or_default release.concepts there.0 0 concept there.1 ∙ there.2)
      (rows_of_number there.0 there.1)

  -- ordering rows by source that are already ordered by source changes nothing
  pub by_source_again : rows ≡ flat_map (λ concept. filter (λ (row : Attribute). row.source == concept) rows)
      release.concepts
  by_source_again =
      are
      ∙ flat_map-within (rows_of release) (λ concept. filter (λ (row : Attribute). row.source == concept) rows)
      release.concepts
      (λ k d below. sym (rows_of_again (get_or release.concepts k d) (Contains-get_or release.concepts k d below)))
