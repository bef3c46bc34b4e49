-- Whether an operator leads to a concept, tested by the concept's own lists.
use Rattle.std.proofs.Common.{ℕ, Bool, ◌≡◌, ◌<◌, ◌∙◌, true, false, not, [], ◌∷◌, ◌&&◌, ◌||◌, List}
use Rattle.std.proofs.Common.{arith, refl, sym, ap, subst}
use Rattle.std.specs.Prelude.{◌==◌, filter, if◌then◌else◌}
use Rattle.std.specs.List.{list_any}
use Rattle.std.proofs.lemmas.Bool.Decides.{nat_tests}
use Rattle.release_model.specs.Release.{Release}
use Rattle.number_lists.specs.KeyedLists.{list_of}
use Rattle.number_lists.proofs.ListLemmas.{passing_item, some_item_passes, both_ways}
use Rattle.number_lists.specs.Rising.{IsRisingBelow}
use Rattle.idset.specs.Sets.{all_items}
use Rattle.number_lists.specs.Members.{has}
use Rattle.number_lists.proofs.WhereLemmas.{filter-numbers_where, has-numbers_where}
use Rattle.number_lists.proofs.RisingLemmas.{numbers_where-rising, rises_within-filter, rising_is_numbers_where}
use Rattle.number_lists.proofs.RisingLemmas.{all_below}
use Rattle.ancestor_index.specs.HierarchyLists.{Hierarchy}
use Rattle.number_lists.proofs.MemberLemmas.{contains_had, had_contained}
use Rattle.walks.specs.inside.Joined.{AreJoined, opposite_of, is_whole, direct_of}
use Rattle.walks.specs.Related.{IsOver, apart, joined}
use Rattle.walks.specs.inside.Steps.{stepped}
use Rattle.walks.specs.Families.{lists_of}
use Rattle.walks.specs.declared.family.Family.{Family}
use Rattle.walks.specs.declared.family.Family.TheVariants as family
use Rattle.walks.specs.declared.family.Reach.{Reach}
use Rattle.walks.specs.declared.family.Reach.TheVariants.{Listed, ListedOrSelf, Apart}
use Rattle.candidates.proofs.WithinLemmas.{has_kept, restricted_to}
use Rattle.walks.proofs.JoinedLemmas.{listed_stands, over_direct, stands, stands_listed}

-- an equation may be read from either side
same_either_way : (one other : ℕ) → ((one == other) || false) ≡ (other == one)
same_either_way one other = grind (arith, nat_tests)

-- a list has an item of the set of a single concept exactly if it has the concept
any_of_one : (concept : ℕ) (list : List ℕ) → list_any (has (concept ∷ [])) list ≡ has list concept
any_of_one concept [] = refl
any_of_one concept (first ∷ rest) =
    (λ i. same_either_way concept first i || any_of_one concept rest i)

-- a single concept that is not in its own list is what `apart` finds
pub one_left : (lists : List (List ℕ)) (concept : ℕ) → has (list_of lists concept) concept ≡ false
    → apart lists (concept ∷ []) ≡ concept ∷ []
one_left lists concept absent =
    ap (λ (there : Bool). if not there then concept ∷ [] else [])
    (any_of_one concept (list_of lists concept) ∙ absent)

-- for a single concept that is in its own list, `apart` finds nothing
pub none_left : (lists : List (List ℕ)) (concept : ℕ) → has (list_of lists concept) concept ≡ true
    → apart lists (concept ∷ []) ≡ []
none_left lists concept there =
    ap (λ (listed : Bool). if not listed then concept ∷ [] else [])
    (any_of_one concept (list_of lists concept) ∙ there)

-- a concept stands to another in a family exactly if the other stands to it in the family that leads back
stands_opposite : (release : Release) (f : Family) (a b : ℕ) → stands release f a b ≡ stands release (opposite_of f) b a
stands_opposite release family.Ancestors a b = refl
stands_opposite release family.Descendants a b = refl
stands_opposite release family.Parents a b = refl
stands_opposite release family.Children a b = refl

-- to lead back twice is to follow the first family
opposite_and_forth : (f : Family) → opposite_of (opposite_of f) ≡ f
opposite_and_forth family.Ancestors = refl
opposite_and_forth family.Descendants = refl
opposite_and_forth family.Parents = refl
opposite_and_forth family.Children = refl

-- the family opposite to ancestors or descendants is descendants or ancestors
pub opposite_is_whole : (f : Family) → is_whole f ≡ true → is_whole (opposite_of f) ≡ true
opposite_is_whole family.Ancestors whole = refl
opposite_is_whole family.Descendants whole = refl
opposite_is_whole family.Parents whole = whole
opposite_is_whole family.Children whole = whole

module _ (count : ℕ) (hierarchy : Hierarchy) (over : IsOver count hierarchy) (items : List ℕ)
    (rises : IsRisingBelow count items) where
  module _ (f : Family) (concept : ℕ) (inside : concept < count) where
    abbrev lists : List (List ℕ)
    lists = lists_of hierarchy f

    abbrev own : List ℕ
    own = list_of (lists_of hierarchy (opposite_of f)) concept

    -- if the list of an item has `concept`, the list that leads back from `concept` has an item
    there : list_any (λ other. has (list_of lists other) concept) items ≡ true → list_any (has items) own ≡ true
    there told =
        let from = passing_item (λ other. has (list_of lists other) concept) items told in
        let below : from.0 < count =
        subst (λ (n : ℕ). n < count) from.1.2 (all_below count items rises from.1.0 from.0 from.1.1) in
        let stood = listed_stands count hierarchy over f from.0 concept below from.2 in
        some_item_passes (has items) own from.0
        (contains_had own from.0 (stands_listed count hierarchy over (opposite_of f) concept from.0 inside below
        (sym (stands_opposite over.release f from.0 concept) ∙ stood.1)))
        (had_contained items from.0 from.1)

    -- if the list that leads back from `concept` has an item, the list of an item has `concept`
    again : list_any (has items) own ≡ true → list_any (λ other. has (list_of lists other) concept) items ≡ true
    again told =
        let from = passing_item (has items) own told in
        let stood = listed_stands count hierarchy over (opposite_of f) concept from.0 inside
        (had_contained own from.0 from.1) in
        some_item_passes (λ other. has (list_of lists other) concept) items from.0 (contains_had items from.0 from.2)
        (stands_listed count hierarchy over f from.0 concept stood.0 inside
        (stands_opposite over.release f from.0 concept ∙ stood.1))

    -- the opposite list of `concept` contains an item exactly if the list of an item contains `concept`
    pub asked_any : list_any (has items) own ≡ list_any (λ other. has (list_of lists other) concept) items
    asked_any = both_ways (list_any (has items) own) (list_any (λ other. has (list_of lists other) concept) items) again
        there

    -- the opposite list of `concept` contains an item exactly if `joined` of the items contains `concept`
    pub asked_opposite : list_any (has items) own ≡ has (joined count lists items) concept
    asked_opposite = asked_any
        ∙ sym (has-numbers_where count (λ n. list_any (λ other. has (list_of lists other) n) items) concept inside)

    -- `concept` is an item or in `joined` of the items exactly if the union of both contains it
    pub asked_or_self : (has items concept || has (joined count lists items) concept)
        ≡ has (all_items count items (joined count lists items)) concept
    asked_or_self = sym (has-numbers_where count (λ n. has items n || has (joined count lists items) n) concept inside)

    -- `concept` is an item whose list contains no item exactly if `apart` of the items contains it
    pub asked_apart : (has items concept && not (list_any (has items) (list_of lists concept)))
        ≡ has (apart lists items) concept
    asked_apart = sym (has_kept (λ other. not (list_any (has items) (list_of lists other))) items concept)

  -- `concept` is not in the union of the items' opposite lists exactly if its own list contains no item
  pub asked_outside : (f : Family) (concept : ℕ) → concept < count → (found : List ℕ)
      → AreJoined (lists_of hierarchy (opposite_of f)) items found
      → not (has found concept) ≡ not (list_any (has items) (list_of (lists_of hierarchy f) concept))
  asked_outside f concept inside found joined =
      ap not (joined concept ∙ sym (asked_any (opposite_of f) concept inside)
      ∙ (λ i. list_any (has items) (list_of (lists_of hierarchy (opposite_and_forth f i)) concept)))

  -- testing that neither the direct list nor the whole list of `concept` contains an item is the same as testing the
  -- whole list
  pub apart_direct : (f : Family) (concept : ℕ) → concept < count
      → (not (list_any (has items) (list_of (lists_of hierarchy (direct_of f)) concept))
      && not (list_any (has items) (list_of (lists_of hierarchy f) concept)))
      ≡ not (list_any (has items) (list_of (lists_of hierarchy f) concept))
  apart_direct f concept inside =
      by_direct (list_any (has items) (list_of (lists_of hierarchy (direct_of f)) concept))
      (over_direct count hierarchy over f concept inside (has items))
    where
      by_direct : (direct : Bool)
          → (direct ≡ true → list_any (has items) (list_of (lists_of hierarchy f) concept) ≡ true)
          → (not direct && not (list_any (has items) (list_of (lists_of hierarchy f) concept)))
          ≡ not (list_any (has items) (list_of (lists_of hierarchy f) concept))
      by_direct true far = sym (ap not (far refl))
      by_direct false far = refl

  -- the numbers that a step finds rise below `count`
  pub related_rises : (lists : List (List ℕ)) (reach : Reach) → IsRisingBelow count (stepped lists count reach items)
  related_rises lists Listed = numbers_where-rising count (λ n. list_any (λ other. has (list_of lists other) n) items)
  related_rises lists ListedOrSelf = numbers_where-rising count (λ n. has items n || has (joined count lists items) n)
  related_rises lists Apart =
      rises_within-filter 0 count (λ concept. not (list_any (has items) (list_of lists concept))) items rises

  -- keeping those of `wanted` that a step finds is the same as keeping those that it finds that are in `wanted`
  pub related_asked : (lists : List (List ℕ)) (reach : Reach) (wanted : List ℕ) → IsRisingBelow count wanted
      → filter (has (stepped lists count reach items)) wanted ≡ filter (has wanted) (stepped lists count reach items)
  related_asked lists reach wanted wanted_rises =
      ap (filter (has related)) (rising_is_numbers_where count wanted wanted_rises)
      ∙ filter-numbers_where count (has wanted) (has related)
      ∙ sym (restricted_to count (has wanted) (has related) related (filter (has wanted) related)
      (rising_is_numbers_where count related (related_rises lists reach)) refl)
    where
      related : List ℕ
      related = stepped lists count reach items
