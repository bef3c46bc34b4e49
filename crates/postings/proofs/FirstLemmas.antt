-- The first of the items that are the same are the distinct items of a list, and of the rows that pass a test those
-- that entries call first give the distinct pairs.
use Rattle.std.proofs.Common.{◌≡◌, ◌&&◌, ◌||◌, ◌++◌, ◌∷◌, [], ◌∙◌, not, List, map, Bool, true, false, cond}
use Rattle.std.proofs.Common.{refl, sym, ap, append-nil}
use Rattle.std.specs.List.{filter, list_any}
use Rattle.std.proofs.lemmas.List.{map-append}
use Rattle.std.proofs.lemmas.List.Elements.{filter-append, filter_agree}
use Rattle.std.proofs.lemmas.List.Folds.{list_any-append}
use Rattle.release_model.specs.Pairs.{Pair, pair_eq}
use Rattle.number_lists.specs.Distinct.{distinct}
use Rattle.release_model.specs.Release.{Attribute}
use Rattle.release_model.proofs.PairLemmas.{tells_same_pair}
use Rattle.number_lists.proofs.ListLemmas.{both_ways}
use Rattle.postings.specs.Entries.{Entry, entries_after, entries_of, is_alike, is_alike_in_group}
use Rattle.number_lists.proofs.BlockLemmas.{any-filter, any-map, filter-all, filter-twice}

-- the items of a list that are the same neither as an item of `before` nor as an earlier item of the list
abbrev pub firsts_after : {X : Type 0} → (X → X → Bool) → List X → List X → List X
firsts_after same before [] = []
firsts_after same before (x ∷ xs) =
    cond (not (list_any (same x) before)) (x ∷ firsts_after same (before ++ x ∷ []) xs)
    (firsts_after same (before ++ x ∷ []) xs)

module _ {X : Type 0} (same : X → X → Bool) (flips : (x y : X) → same x y ≡ same y x) where
  -- the first items of a list that comes after `before` are its distinct items that are not the same as one of
  -- `before`
  firsts_kept : (before xs : List X)
      → firsts_after same before xs ≡ filter (λ x. not (list_any (same x) before)) (distinct same xs)
  firsts_kept before [] = refl
  firsts_kept before (x ∷ xs) =
      let rest : firsts_after same (before ++ x ∷ []) xs
      ≡ filter (λ y. not (list_any (same y) before)) (filter (λ y. not (same x y)) (distinct same xs)) =
      firsts_kept (before ++ x ∷ []) xs
      ∙ filter_agree (λ y. not (list_any (same y) (before ++ x ∷ [])))
      (λ y. not (same x y) && not (list_any (same y) before))
      (λ y. test y) (distinct same xs)
      ∙ sym (filter-twice (λ y. not (list_any (same y) before)) (λ y. not (same x y)) (distinct same xs)) in
      λ i. cond (not (list_any (same x) before)) (x ∷ rest i) (rest i)
    where
      both : (a b : Bool) → not (a || (b || false)) ≡ (not b && not a)
      both true true = refl
      both true false = refl
      both false true = refl
      both false false = refl

      test : (y : X) → not (list_any (same y) (before ++ x ∷ [])) ≡ (not (same x y) && not (list_any (same y) before))
      test y =
          ap not (list_any-append (same y) before (x ∷ []))
          ∙ (λ i. not (list_any (same y) before || (flips y x i || false)))
          ∙ both (list_any (same y) before) (same x y)

  -- the items that no earlier item equals by `same` are the distinct items of the list
  pub firsts_distinct : (xs : List X) → firsts_after same [] xs ≡ distinct same xs
  firsts_distinct xs = firsts_kept [] xs ∙ filter-all (λ x. true) (distinct same xs) (λ k d below. refl)

-- the equality test of pairs is symmetric
pub pair_eq-flips : (one other : Pair) → pair_eq one other ≡ pair_eq other one
pair_eq-flips one other =
    both_ways (pair_eq one other) (pair_eq other one)
    (λ told. (tells_same_pair other one).1 (sym ((tells_same_pair one other).0 told)))
    (λ told. (tells_same_pair one other).1 (sym ((tells_same_pair other one).0 told)))

-- rows that pass a test, each with a pair, if the rows that pass are alike exactly if they have one pair
module _ (pick : Attribute → Bool) (give : Attribute → Pair) (alike : Attribute → Attribute → Bool)
    (agree : (row other : Attribute) → pick row ≡ true
    → alike row other ≡ (pick other && pair_eq (give row) (give other)))
    (first : Entry → Bool)
    (says : (row : Attribute) (before : List Attribute)
    → first (record {
      row = row;
      is_first = not (list_any (is_alike row) before);
      is_first_in_group =
          not (list_any (is_alike_in_group row) before);
    }) ≡ not (list_any (alike row) before)) where
  -- the first of the rows that come after `before` have the pairs that are first after the pairs of `before`
  firsts_following : (before rows : List Attribute)
      → map (λ (entry : Entry). give entry.row)
      (filter (λ (entry : Entry). pick entry.row && first entry) (entries_after before rows))
      ≡ firsts_after pair_eq (map give (filter pick before)) (map give (filter pick rows))
  firsts_following before [] = refl
  firsts_following before (row ∷ rows) = by (pick row) refl (firsts_following (before ++ row ∷ []) rows)
    where
      given : List Entry → List Pair
      given entries = map (λ (entry : Entry). give entry.row)
          (filter (λ (entry : Entry). pick entry.row && first entry) entries)

      entry : Entry
      entry = record {
        row = row;
        is_first = not (list_any (is_alike row) before);
        is_first_in_group =
            not (list_any (is_alike_in_group row) before);
      }

      later : List Pair
      later = map give (filter pick rows)

      known : List Pair
      known = map give (filter pick before)

      more : (b : Bool) → pick row ≡ b
          → map give (filter pick (before ++ row ∷ [])) ≡ known ++ map give (cond b (row ∷ []) [])
      more b is =
          ap (map give) (filter-append pick before (row ∷ []) ∙ (λ i. filter pick before ++ cond (is i) (row ∷ []) []))
          ∙ map-append give (filter pick before) (cond b (row ∷ []) [])

      new : pick row ≡ true → first entry ≡ not (list_any (pair_eq (give row)) known)
      new is =
          says row before
          ∙ ap not (any-agree before ∙ sym (any-map (pair_eq (give row)) give (filter pick before)
          ∙ any-filter (λ other. pair_eq (give row) (give other)) pick before))
        where
          any-agree : (others : List Attribute) → list_any (alike row) others
              ≡ list_any (λ other. pick other && pair_eq (give row) (give other)) others
          any-agree [] = refl
          any-agree (other ∷ others) = λ i. agree row other is i || any-agree others i

      by : (b : Bool) → pick row ≡ b → given (entries_after (before ++ row ∷ []) rows)
          ≡ firsts_after pair_eq (map give (filter pick (before ++ row ∷ []))) later
          → given (entry ∷ entries_after (before ++ row ∷ []) rows)
          ≡ firsts_after pair_eq known (map give (filter pick (row ∷ rows)))
      by true is rest =
          let found = filter (λ (entry : Entry). pick entry.row && first entry)
          (entries_after (before ++ row ∷ []) rows) in
          let new_one : Bool = not (list_any (pair_eq (give row)) known) in
          let following : map (λ (entry : Entry). give entry.row) found
          ≡ firsts_after pair_eq (known ++ give row ∷ []) later = rest
          ∙ ap (λ (all : List Pair). firsts_after pair_eq all later) (more true is) in
          (λ i. map (λ (entry : Entry). give entry.row) (cond (is i && new is i) (entry ∷ found) found))
          ∙ inside new_one found
          ∙ (λ i. cond new_one (give row ∷ following i) (following i))
          ∙ (λ i. firsts_after pair_eq known (map give (cond (sym is i) (row ∷ filter pick rows) (filter pick rows))))
        where
          inside : (b : Bool) (found : List Entry)
              → map (λ (entry : Entry). give entry.row) (cond b (entry ∷ found) found)
              ≡ cond b (give row ∷ map (λ (entry : Entry). give entry.row) found)
              (map (λ (entry : Entry). give entry.row) found)
          inside true found = refl
          inside false found = refl
      by false is rest =
          let found = filter (λ (entry : Entry). pick entry.row && first entry)
          (entries_after (before ++ row ∷ []) rows) in
          (λ i. map (λ (entry : Entry). give entry.row) (cond (is i && first entry) (entry ∷ found) found))
          ∙ rest
          ∙ ap (λ (all : List Pair). firsts_after pair_eq all later) (more false is ∙ append-nil known)
          ∙ (λ i. firsts_after pair_eq known (map give (cond (sym is i) (row ∷ filter pick rows) (filter pick rows))))

  -- the pairs of the picked rows that are the first with their pair are the distinct pairs of all picked rows
  pub firsts_give_distinct : (rows : List Attribute)
      → map (λ (entry : Entry). give entry.row)
      (filter (λ (entry : Entry). pick entry.row && first entry) (entries_of rows))
      ≡ distinct pair_eq (map give (filter pick rows))
  firsts_give_distinct rows = firsts_following [] rows
      ∙ firsts_distinct pair_eq pair_eq-flips (map give (filter pick rows))
