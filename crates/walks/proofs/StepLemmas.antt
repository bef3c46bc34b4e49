-- The operators lead to the same concepts by the lists of an index as by the is-a rows.
use Rattle.std.proofs.Common.{ℕ, ◌≡◌, ◌<◌, ◌∙◌, Bool, true, not, ◌&&◌, ◌||◌, List, length, get_or, refl, sym, ap, subst}
use Rattle.std.specs.Prelude.{Contains, filter}
use Rattle.std.specs.List.{list_any}
use Rattle.std.proofs.lemmas.Bool.{and_from, and_parts}
use Rattle.std.proofs.lemmas.List.{get_or_default}
use Rattle.std.proofs.lemmas.List.Elements.{Contains-get_or}
use Rattle.hierarchy.specs.Hierarchy.{reaches}
use Rattle.release_model.specs.Release.{Release}
use Rattle.constraint_tree.specs.Walks.{is_above, is_below, is_child, is_just_above, is_just_below, some_member, walks}
use Rattle.constraint_tree.specs.declared.operator.Operator.{Operator}
use Rattle.constraint_tree.specs.declared.operator.Operator.TheVariants.{Descendants, DescendantsOrSelf, Children}
use Rattle.constraint_tree.specs.declared.operator.Operator.TheVariants.{ChildrenOrSelf, Ancestors, AncestorsOrSelf}
use Rattle.constraint_tree.specs.declared.operator.Operator.TheVariants.{Parents, ParentsOrSelf, Top, Bottom}
use Rattle.number_lists.proofs.ListLemmas.{passing_item, some_item_passes, both_ways}
use Rattle.idset.specs.Sets.{all_items}
use Rattle.number_lists.specs.Members.{has}
use Rattle.number_lists.proofs.WhereLemmas.{filter-numbers_where, has-numbers_where, numbers_where-agree, there_where}
use Rattle.number_lists.proofs.WhereLemmas.{where_there}
use Rattle.number_lists.specs.KeyedLists.{list_of}
use Rattle.ancestor_index.specs.HierarchyLists.{hierarchy_of, lists_where}
use Rattle.number_lists.proofs.MemberLemmas.{contains_had, had_contained}
use Rattle.ancestor_index.proofs.ClosureLemmas.{list_of-where}
use Rattle.candidates.specs.Numbers.{numbers_in}
use Rattle.walks.specs.Related.{apart, joined, related_to}
use Rattle.candidates.proofs.Normal.{either_in}

module _ (release : Release) (set : ℕ → Bool) (items : List ℕ) (is : items ≡ numbers_in release set) where
  abbrev count : ℕ
  count = length release.concepts

  abbrev id : ℕ → ℕ
  id n = get_or release.concepts n 0

  -- an item is the number of a concept in the set
  member : (n : ℕ) → Contains items n → (n < count) × (set (id n) ≡ true)
  member n there = there_where count (λ m. set (id m)) n (subst (λ (xs : List ℕ). Contains xs n) is there)

  -- the number of a concept in the set is an item
  member_there : (n : ℕ) → n < count → set (id n) ≡ true → Contains items n
  member_there n within holds =
      subst (λ (xs : List ℕ). Contains xs n) (sym is) (where_there count (λ m. set (id m)) n within holds)

  -- the list of `concept` has n exactly if `test` relates the two concepts
  in_list : (test : ℕ → ℕ → Bool) (concept n : ℕ) → concept < count → n < count
      → has (list_of (lists_where count (λ a b. test (id a) (id b))) concept) n ≡ test (id concept) (id n)
  in_list test concept n below within =
      ap (λ (xs : List ℕ). has xs n) (list_of-where count (λ a b. test (id a) (id b)) concept below)
      ∙ has-numbers_where count (λ b. test (id concept) (id b)) n within

  -- if lists are made by `test`, `joined` of the numbers of `set` has the numbers of the concepts to which some concept
  -- in `set` is related by `test`
  pub joined_is : (test : ℕ → ℕ → Bool)
      → joined count (lists_where count (λ a b. test (id a) (id b))) items
      ≡ numbers_in release (λ concept. some_member release set (λ other. test other concept))
  joined_is test =
      numbers_where-agree count _ (λ n. some_member release set (λ other. test other (id n)))
      (λ n within. both_ways _ _ (there n within) (opposite n within))
    where
      lists : List (List ℕ)
      lists = lists_where count (λ a b. test (id a) (id b))

      there : (n : ℕ) → n < count → list_any (λ concept. has (list_of lists concept) n) items ≡ true
          → some_member release set (λ other. test other (id n)) ≡ true
      there n within holds =
          let found = passing_item (λ concept. has (list_of lists concept) n) items holds in
          let at = member found.0 found.1 in
          some_item_passes (λ other. set other && test other (id n)) release.concepts (id found.0)
          (Contains-get_or release.concepts found.0 0 at.0)
          (and_from _ _ at.1 (sym (in_list test found.0 n at.0 within) ∙ found.2))

      opposite : (n : ℕ) → n < count → some_member release set (λ other. test other (id n)) ≡ true
          → list_any (λ concept. has (list_of lists concept) n) items ≡ true
      opposite n within holds =
          let found = passing_item (λ other. set other && test other (id n)) release.concepts holds in
          let k : ℕ = found.1.0 in
          let below : k < count = found.1.1 in
          let at : id k ≡ found.0 = get_or_default release.concepts k 0 found.0 below ∙ found.1.2 in
          let both = and_parts (set found.0) (test found.0 (id n)) found.2 in
          some_item_passes (λ concept. has (list_of lists concept) n) items k
          (member_there k below (ap set at ∙ both.0))
          (in_list test k n below within ∙ ap (λ (other : ℕ). test other (id n)) at ∙ both.1)

  -- if lists are made by `test`, `apart` of the numbers of `set` has the numbers of the concepts in `set` that are
  -- related by `test` to no concept in `set`
  pub apart_is : (test : ℕ → ℕ → Bool)
      → apart (lists_where count (λ a b. test (id a) (id b))) items
      ≡ numbers_in release (λ concept. set concept && not (some_member release set (λ other. test concept other)))
  apart_is test =
      ap (filter (λ concept. not (list_any (has items) (list_of lists concept)))) is
      ∙ filter-numbers_where count (λ n. set (id n)) (λ concept. not (list_any (has items) (list_of lists concept)))
      ∙ numbers_where-agree count _ (λ n. set (id n) && not (some_member release set (λ other. test (id n) other)))
      (λ n within i. set (id n) && not (both_ways _ _ (there n within) (opposite n within) i))
    where
      lists : List (List ℕ)
      lists = lists_where count (λ a b. test (id a) (id b))

      there : (n : ℕ) → n < count → list_any (has items) (list_of lists n) ≡ true
          → some_member release set (λ other. test (id n) other) ≡ true
      there n within holds =
          let found = passing_item (has items) (list_of lists n) holds in
          let at = member found.0 (contains_had items found.0 found.2) in
          some_item_passes (λ other. set other && test (id n) other) release.concepts (id found.0)
          (Contains-get_or release.concepts found.0 0 at.0)
          (and_from _ _ at.1 (sym (in_list test n found.0 within at.0)
          ∙ had_contained (list_of lists n) found.0 found.1))

      opposite : (n : ℕ) → n < count → some_member release set (λ other. test (id n) other) ≡ true
          → list_any (has items) (list_of lists n) ≡ true
      opposite n within holds =
          let found = passing_item (λ other. set other && test (id n) other) release.concepts holds in
          let k : ℕ = found.1.0 in
          let below : k < count = found.1.1 in
          let at : id k ≡ found.0 = get_or_default release.concepts k 0 found.0 below ∙ found.1.2 in
          let both = and_parts (set found.0) (test (id n) found.0) found.2 in
          some_item_passes (has items) (list_of lists n) k
          (contains_had (list_of lists n) k (in_list test n k within below ∙ ap (test (id n)) at ∙ both.1))
          (had_contained items k (member_there k below (ap set at ∙ both.0)))

  -- the union of the items and their joined lists are the numbers of the concepts in `set` or in `test`
  or_self : (lists : List (List ℕ)) (test : ℕ → Bool) → joined count lists items ≡ numbers_in release test
      → all_items count items (joined count lists items) ≡ numbers_in release (λ concept. set concept || test concept)
  or_self lists test found = either_in release items (joined count lists items) set test is found count refl

  -- from the numbers of `set`, an operator leads by the lists to the numbers of the concepts that it denotes by the
  -- is-a rows
  pub related_is : (operator : Operator) → related_to (hierarchy_of release) count operator items
      ≡ numbers_in release (walks release operator set)
  related_is Descendants = joined_is (λ a b. reaches release.isa b a)
  related_is DescendantsOrSelf = or_self _ (is_below release set) (joined_is (λ a b. reaches release.isa b a))
  related_is Children = joined_is (λ a b. is_child release b a)
  related_is ChildrenOrSelf = or_self _ (is_just_below release set) (joined_is (λ a b. is_child release b a))
  related_is Ancestors = joined_is (λ a b. reaches release.isa a b)
  related_is AncestorsOrSelf = or_self _ (is_above release set) (joined_is (λ a b. reaches release.isa a b))
  related_is Parents = joined_is (λ a b. is_child release a b)
  related_is ParentsOrSelf = or_self _ (is_just_above release set) (joined_is (λ a b. is_child release a b))
  related_is Top = apart_is (λ a b. reaches release.isa a b)
  related_is Bottom = apart_is (λ a b. reaches release.isa b a)
