-- Each group has a row.
use Rattle.std.proofs.Common.{ℕ, ◌==◌, ◌≡◌, ◌<◌, ◌&&◌, ◌||◌, ◌∷◌, [], ◌∙◌, Bool, true, false, cond, not, List, length}
use Rattle.std.proofs.Common.{get_or, map}
use Rattle.std.proofs.Common.{refl, sym, ap, arith}
use Rattle.std.specs.Prelude.{All, Contains, nat_eq}
use Rattle.std.specs.List.{filter, list_any}
use Rattle.std.proofs.lemmas.Bool.{and_from, eq-eqb, true≢false}
use Rattle.std.proofs.lemmas.List.{get_or-map}
use Rattle.std.proofs.lemmas.List.Elements.{All-append, All-contains, All-contains_itself, All-filter, All-map}
use Rattle.std.proofs.lemmas.List.Elements.{Contains-get_or, filter_passes}
use Rattle.release_model.specs.Groups.{group_numbers, pairs_in}
use Rattle.release_model.specs.Pairs.{pair_eq, pair_of, rows_of}
use Rattle.release_model.specs.Release.{Attribute, Release}
use Rattle.release_model.proofs.PairLemmas.{tells_same_pair}
use Rattle.number_lists.specs.RisingOrder.{rising}
use Rattle.number_lists.proofs.RisingOrderLemmas.{keeps_rising}
use Rattle.postings.specs.Groups.{ConceptGroup, GroupKey, groups_among, is_in_group, keys_of, numbered, ungrouped}
use Rattle.postings.specs.Places.{places_where}
use Rattle.number_lists.proofs.BlockLemmas.{All-flat_map}
use Rattle.postings.proofs.KeyLemmas.{group_with, groups_at}
use Rattle.number_lists.proofs.ListLemmas.{some_item_passes}
use Rattle.held_release.proofs.DistinctPlaceLemmas.{All-distinct}
use Rattle.postings.proofs.PlaceLemmas.{length-places_from, places_where-within, rows_at_places}

-- ---- the groups of a concept
module _ (release : Release) (concept : ℕ) where
  abbrev HasRow : GroupKey → Type 0
  HasRow key = list_any (is_in_group (group_with concept key)) release.attributes ≡ true

  abbrev is_own : Attribute → Bool
  is_own row = row.source == concept

  -- the rows of the concept that pass a test are among all rows
  own_there : (test : Attribute → Bool) → All (Contains release.attributes) (filter test (rows_of release concept))
  own_there test = All-filter test (Contains release.attributes) (rows_of release concept)
      (All-filter is_own (Contains release.attributes) release.attributes (All-contains_itself release.attributes))

  -- the rows of the concept that pass a test have it as their source
  own_passes : (test : Attribute → Bool) → All (λ row. is_own row ≡ true) (filter test (rows_of release concept))
  own_passes test = All-filter test (λ row. is_own row ≡ true) (rows_of release concept)
      (filter_passes is_own release.attributes)

  -- each group with a number has a row
  number_has : All (λ number. HasRow (numbered number)) (rising (group_numbers release concept))
  number_has k d below =
      All-contains (λ number. HasRow (numbered number)) (group_numbers release concept)
      (get_or (rising (group_numbers release concept)) k d)
      (All-distinct nat_eq (λ number. HasRow (numbered number)) numbers
      (All-filter (λ group. not (group == 0)) (λ number. HasRow (numbered number))
      (map (λ (row : Attribute). row.group) (rows_of release concept))
      (All-map (λ number. HasRow (numbered number)) (λ (row : Attribute). row.group) (rows_of release concept) each)))
      (((keeps_rising (group_numbers release concept)).1 (get_or (rising (group_numbers release concept)) k d)).0
      (Contains-get_or (rising (group_numbers release concept)) k d below))
    where
      numbers : List ℕ
      numbers = filter (λ group. not (group == 0)) (map (λ (row : Attribute). row.group) (rows_of release concept))

      each : All (λ (row : Attribute). HasRow (numbered row.group)) (rows_of release concept)
      each k d below =
          let row : Attribute = get_or (rows_of release concept) k d in
          some_item_passes (is_in_group (group_with concept (numbered row.group))) release.attributes row
          ((All-filter is_own (Contains release.attributes) release.attributes (All-contains_itself release.attributes))
          k d below)
          (and_from (is_own row) (row.group == row.group) (filter_passes is_own release.attributes k d below)
          (eq-eqb row.group row.group refl))

  -- each group of a pair has a row
  pair_has : All (λ pair. HasRow (ungrouped pair)) (pairs_in release concept 0)
  pair_has =
      All-distinct pair_eq (λ pair. HasRow (ungrouped pair)) (map pair_of (filter alone (rows_of release concept)))
      (All-map (λ pair. HasRow (ungrouped pair)) pair_of (filter alone (rows_of release concept)) each)
    where
      alone : Attribute → Bool
      alone row = row.group == 0

      each : All (λ row. HasRow (ungrouped (pair_of row))) (filter alone (rows_of release concept))
      each k d below =
          let row : Attribute = get_or (filter alone (rows_of release concept)) k d in
          some_item_passes (is_in_group (group_with concept (ungrouped (pair_of row)))) release.attributes row
          (own_there alone k d below)
          (and_from (is_own row) (alone row && pair_eq (pair_of row) (pair_of row)) (own_passes alone k d below)
          (and_from (alone row) (pair_eq (pair_of row) (pair_of row))
          (filter_passes alone (rows_of release concept) k d below)
          ((tells_same_pair (pair_of row) (pair_of row)).1 refl)))

  -- each group of the concept has a row
  keys_have : All HasRow (keys_of release concept)
  keys_have =
      All-append HasRow (map numbered (rising (group_numbers release concept)))
      (map ungrouped (pairs_in release concept 0))
      (All-map HasRow numbered (rising (group_numbers release concept)) number_has)
      (All-map HasRow ungrouped (pairs_in release concept 0) pair_has)

-- ---- the groups of some concepts
-- each group of `concepts` contains at least one attribute row of the release
pub groups_have : (release : Release) (concepts : List ℕ)
    → All (λ (group : ConceptGroup). list_any (is_in_group group) release.attributes ≡ true)
    (groups_among release concepts)
groups_have release concepts =
    All-flat_map (λ (group : ConceptGroup). list_any (is_in_group group) release.attributes ≡ true) (groups_at release)
    concepts
    (λ concept there. All-map (λ (group : ConceptGroup). list_any (is_in_group group) release.attributes ≡ true)
    (group_with concept)
    (keys_of release concept) (keys_have release concept))

-- ---- the first row that passes a test
some_left : {X : Type 0} (test : X → Bool) (xs : List X) → list_any test xs ≡ true → 0 < length (filter test xs)
some_left test [] any = absurd (true≢false (sym any))
some_left test (x ∷ xs) any = by (test x) refl (λ later. some_left test xs later)
  where
    by : (b : Bool) → test x ≡ b → (list_any test xs ≡ true → 0 < length (filter test xs))
        → 0 < length (cond b (x ∷ filter test xs) (filter test xs))
    by true is rest = omega arith
    by false is rest = rest (ap (λ (b : Bool). b || list_any test xs) (sym is) ∙ any)

module _ {X : Type 0} (test : X → Bool) (xs : List X) (any : list_any test xs ≡ true) where
  -- if an item passes, the list of places of passing items is not empty
  pub some_place : 0 < length (places_where test xs)
  some_place = omega (arith, length-places_from test 0 xs, some_left test xs any)

  -- if an item passes, the first place of a passing item is below the length of the list
  pub first_within : (d : ℕ) → get_or (places_where test xs) 0 d < length xs
  first_within d = places_where-within test xs 0 d some_place

  -- if an item passes, the item at the first place of a passing item passes
  pub first_passes : (d : ℕ) (x : X) → test (get_or xs (get_or (places_where test xs) 0 d) x) ≡ true
  first_passes d x =
      ap test (sym (get_or-map (λ place. get_or xs place x) (places_where test xs) 0 d x some_place)
      ∙ ap (λ (found : List X). get_or found 0 x) (rows_at_places test xs x))
      ∙ filter_passes test xs 0 x (some_left test xs any)
