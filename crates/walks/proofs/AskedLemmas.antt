-- To know where an operator leads from a set, among concepts that are tested by their own lists, it is enough to know
-- which members of the set are in these lists.
use Rattle.std.proofs.Common.{ℕ, Bool, ◌≡◌, ◌<◌, ◌∙◌, ◌==◌, inl, inr, true, false, not, ◌&&◌, ◌||◌, List, length, []}
use Rattle.std.proofs.Common.{◌∷◌, get_or, refl, sym, ap, subst, arith}
use Rattle.std.specs.Prelude.{All, filter}
use Rattle.std.specs.List.{flat_map, list_any, range_with_len}
use Rattle.std.proofs.lemmas.Bool.{eq-eqb, eqb-true, false≢true, ne_eqb, or_cases, or_left, or_right}
use Rattle.std.proofs.lemmas.List.{get_or_default, nil_from_length}
use Rattle.std.proofs.lemmas.List.Filters.{length-filter_both}
use Rattle.std.proofs.lemmas.List.FromFn.{length-range_with_len}
use Rattle.std.proofs.lemmas.List.Elements.{All-append, All-cons, All-nil, All-tail}
use Rattle.std.proofs.lemmas.List.Folds.{list_any-append}
use Rattle.std.proofs.Math.Bool.{and-false}
use Rattle.constraint_tree.specs.declared.operator.Operator.{Operator}
use Rattle.constraint_tree.specs.declared.operator.Operator.TheVariants.{Descendants, DescendantsOrSelf, Children}
use Rattle.constraint_tree.specs.declared.operator.Operator.TheVariants.{ChildrenOrSelf, Ancestors, AncestorsOrSelf}
use Rattle.constraint_tree.specs.declared.operator.Operator.TheVariants.{Parents, ParentsOrSelf, Top, Bottom}
use Rattle.number_lists.specs.Rising.{IsRisingBelow, listed_numbers, numbers_where}
use Rattle.idset.specs.Sets.{all_items}
use Rattle.number_lists.specs.Members.{has}
use Rattle.number_lists.proofs.WhereLemmas.{filter-numbers_where, has-numbers_where, numbers_where-agree}
use Rattle.number_lists.proofs.WhereLemmas.{numbers_where-all}
use Rattle.number_lists.proofs.RisingLemmas.{numbers_where-rising, rising_is_numbers_where, all_below}
use Rattle.number_lists.specs.KeyedLists.{list_of}
use Rattle.ancestor_index.specs.HierarchyLists.{Hierarchy}
use Rattle.number_lists.proofs.MemberLemmas.{contains_had, had_contained}
use Rattle.walks.specs.Asked.{AreEnough, asked_lists}
use Rattle.walks.specs.inside.Joined.{opposite_of}
use Rattle.walks.specs.inside.Steps.{asked_by, asked_of, has_length, keeps_apart, leads_to_self, stepped}
use Rattle.walks.specs.declared.family.Reach.{Reach}
use Rattle.walks.specs.declared.family.Step.{Step}
use Rattle.std.specs.Bool.{beq}
use Rattle.walks.specs.Related.{IsOver, apart, joined, related_to}
use Rattle.walks.specs.Families.{lists_of}
use Rattle.walks.specs.declared.family.Family.{Family}
use Rattle.walks.specs.declared.family.Family.TheVariants as family
use Rattle.walks.specs.declared.family.Reach.TheVariants.{Listed, ListedOrSelf, Apart}
use Rattle.walks.proofs.RelatedLemmas.{asked_apart, asked_opposite, asked_or_self, related_rises}
use Rattle.number_lists.proofs.ListLemmas.{any_agree}
use Rattle.walks.proofs.JoinedLemmas.{over_list, stands}

-- what is in the list of one of `concepts` is in all their lists, one after the other
in_joined : (each : ℕ → List ℕ) (concepts : List ℕ) (concept n : ℕ) → has concepts concept ≡ true
    → has (each concept) n ≡ true
    → has (flat_map each concepts) n ≡ true
in_joined each [] concept n there within = absurd (false≢true there)
in_joined each (first ∷ rest) concept n there within =
    list_any-append (λ item. item == n) (each first) (flat_map each rest)
    ∙ elim (or_cases (first == concept) (has rest concept) there) [
      | inl here ↦
          or_left (has (each first) n) (has (flat_map each rest) n)
          (ap (λ (k : ℕ). has (each k) n) (eqb-true first concept here) ∙ within)
      | inr later ↦ or_right (has (each first) n) (has (flat_map each rest) n)
          (in_joined each rest concept n later within)
    ]

-- if the numbers in each list are below `count`, so are the numbers in all lists, one after the other
below_joined : (count : ℕ) (each : ℕ → List ℕ) (concepts : List ℕ)
    → All (λ concept. All (λ n. n < count) (each concept)) concepts
    → All (λ n. n < count) (flat_map each concepts)
below_joined count each [] below = All-nil (λ n. n < count)
below_joined count each (concept ∷ rest) below =
    All-append (λ n. n < count) (each concept) (flat_map each rest) (below 0 concept (omega arith))
    (below_joined count each rest (All-tail (λ c. All (λ n. n < count) (each c)) concept rest below))

-- a step that leads to the concepts from which it starts and to others has the reach `ListedOrSelf`
pub leads_to_self_is : (reach : Reach) → leads_to_self reach ≡ true → reach ≡ ListedOrSelf
leads_to_self_is Listed leads = absurd (false≢true leads)
leads_to_self_is ListedOrSelf leads = refl
leads_to_self_is Apart leads = absurd (false≢true leads)

module _ (count : ℕ) (hierarchy : Hierarchy) (over : IsOver count hierarchy) where
  -- the concepts, each followed by its list, are all below the number of concepts
  pub with_lists_below : (f : Family) (concepts : List ℕ) → All (λ concept. concept < count) concepts
      → All (λ n. n < count) (flat_map (λ concept. concept ∷ list_of (lists_of hierarchy f) concept) concepts)
  with_lists_below f concepts below =
      below_joined count (λ concept. concept ∷ list_of (lists_of hierarchy f) concept) concepts
      (λ k d within. each (get_or concepts k d) (below k d within))
    where
      each : (concept : ℕ) → concept < count → All (λ n. n < count) (concept ∷ list_of (lists_of hierarchy f) concept)
      each concept inside =
          All-cons (λ n. n < count) concept (list_of (lists_of hierarchy f) concept) inside
          (all_below count (list_of (lists_of hierarchy f) concept)
          (subst (IsRisingBelow count) (sym (over_list count hierarchy over f concept inside))
          (numbers_where-rising count (stands over.release f concept))))

  -- the concepts and the items of their lists are together enough to test the concepts
  pub with_lists_enough : (f : Family) (concepts : List ℕ) → All (λ concept. concept < count) concepts
      → AreEnough (lists_of hierarchy f) (has concepts)
      (has (listed_numbers count (flat_map (λ concept. concept ∷ list_of (lists_of hierarchy f) concept) concepts)))
  with_lists_enough f concepts below concept there = (
    known concept (in_joined each concepts concept concept there
        (or_left (concept == concept) _ (eq-eqb concept concept refl))),
    λ n listed. known n (in_joined each concepts concept n there (or_right (concept == n) _ listed)),
  )
    where
      each : ℕ → List ℕ
      each c = c ∷ list_of (lists_of hierarchy f) c

      known : (n : ℕ) → has (flat_map each concepts) n ≡ true → has (listed_numbers count (flat_map each concepts)) n
          ≡ true
      known n told =
          let found = contains_had (flat_map each concepts) n told in
          has-numbers_where count (has (flat_map each concepts)) n
          (subst (λ (m : ℕ). m < count) found.2 (with_lists_below f concepts below found.0 n found.1))
          ∙ told

  -- the numbers that an operator leads to rise below `count`
  operator_rises : (operator : Operator) (items : List ℕ) → IsRisingBelow count items
      → IsRisingBelow count (related_to hierarchy count operator items)
  operator_rises Descendants items rises = related_rises count hierarchy over items rises hierarchy.descendants Listed
  operator_rises DescendantsOrSelf items rises =
      related_rises count hierarchy over items rises hierarchy.descendants ListedOrSelf
  operator_rises Children items rises = related_rises count hierarchy over items rises hierarchy.children Listed
  operator_rises ChildrenOrSelf items rises =
      related_rises count hierarchy over items rises hierarchy.children ListedOrSelf
  operator_rises Ancestors items rises = related_rises count hierarchy over items rises hierarchy.ancestors Listed
  operator_rises AncestorsOrSelf items rises =
      related_rises count hierarchy over items rises hierarchy.ancestors ListedOrSelf
  operator_rises Parents items rises = related_rises count hierarchy over items rises hierarchy.parents Listed
  operator_rises ParentsOrSelf items rises =
      related_rises count hierarchy over items rises hierarchy.parents ListedOrSelf
  operator_rises Top items rises = related_rises count hierarchy over items rises hierarchy.ancestors Apart
  operator_rises Bottom items rises = related_rises count hierarchy over items rises hierarchy.descendants Apart

  -- a rising list of `count` numbers below `count` has all of them
  each_there : (items : List ℕ) → IsRisingBelow count items → length items ≡ count → (n : ℕ) → n < count
      → has items n ≡ true
  each_there items rises full n inside =
      told (has items n)
      (sym (has-numbers_where count (λ m. not (has items m)) n inside) ∙ ap (λ (xs : List ℕ). has xs n) no_others)
    where
      others : List ℕ
      others = numbers_where count (λ n. not (has items n))

      no_others : others ≡ []
      no_others =
          nil_from_length others (omega (
            arith,
            full,
            ap (λ (xs : List ℕ). length xs) (rising_is_numbers_where count items rises),
            length-filter_both (has items) (λ n. not (has items n)) (λ n. refl) (range_with_len 0 count),
            length-range_with_len 0 count,
          ))

      told : (b : Bool) → not b ≡ false → b ≡ true
      told true none = refl
      told false none = sym none

  -- if `items` has all numbers below `count`, its union with any numbers below `count` has all numbers below `count`
  pub all_with_own : (items others : List ℕ) → IsRisingBelow count items → length items ≡ count
      → all_items count items others ≡ range_with_len 0 count
  all_with_own items others rises full =
      numbers_where-agree count (λ n. has items n || has others n) (λ _. true)
      (λ n inside. (λ i. each_there items rises full n inside i || has others n))
      ∙ numbers_where-all count

  -- if a set has all numbers below `count`, a step that does not lead to the concepts of the set themselves leads to
  -- the concepts whose list, by which they are tested, has an item, or is empty if the step keeps concepts apart
  pub reached_from_all : (step : Step) (items : List ℕ) → IsRisingBelow count items → length items ≡ count
      → leads_to_self step.reach ≡ false
      → stepped (lists_of hierarchy step.family) count step.reach items
      ≡ numbers_where count (has_length (lists_of hierarchy (asked_of step)) (keeps_apart step.reach))
  reached_from_all step items rises full others =
      rising_is_numbers_where count related (related_rises count hierarchy over items rises lists step.reach)
      ∙ numbers_where-agree count (has related)
      (has_length (lists_of hierarchy (asked_of step)) (keeps_apart step.reach))
      (λ n inside. by_reach n inside step.reach others)
    where
      lists : List (List ℕ)
      lists = lists_of hierarchy step.family

      related : List ℕ
      related = stepped lists count step.reach items

      any_item : (f : Family) (n : ℕ) → n < count
          → list_any (has items) (list_of (lists_of hierarchy f) n)
          ≡ not (length (list_of (lists_of hierarchy f) n) == 0)
      any_item f n inside =
          some_item (list_of (lists_of hierarchy f) n)
          (all_below count (list_of (lists_of hierarchy f) n)
          (subst (IsRisingBelow count) (sym (over_list count hierarchy over f n inside))
          (numbers_where-rising count (stands over.release f n))))
        where
          some_item : (list : List ℕ) → All (λ item. item < count) list
              → list_any (has items) list ≡ not (length list == 0)
          some_item [] below = refl
          some_item (first ∷ rest) below =
              (λ i. each_there items rises full first (below 0 first (omega arith)) i || list_any (has items) rest)
              ∙ sym (ap not (ne_eqb (length (first ∷ rest)) 0 (λ none. absurd (omega (arith, none)))))

      not_false : (b : Bool) → not b ≡ beq b false
      not_false true = refl
      not_false false = refl

      is_true : (b : Bool) → not (not b) ≡ beq b true
      is_true true = refl
      is_true false = refl

      by_reach : (n : ℕ) → n < count → (reach : Reach) → leads_to_self reach ≡ false
          → has (stepped lists count reach items) n
          ≡ has_length (lists_of hierarchy (asked_by step.family reach)) (keeps_apart reach) n
      by_reach n inside Listed others =
          sym (asked_opposite count hierarchy over items rises step.family n inside)
          ∙ any_item (opposite_of step.family) n inside
          ∙ not_false (length (list_of (lists_of hierarchy (opposite_of step.family)) n) == 0)
      by_reach n inside ListedOrSelf others = absurd (false≢true (sym others))
      by_reach n inside Apart others =
          sym (asked_apart count hierarchy over items rises step.family n inside)
          ∙ (λ i. each_there items rises full n inside i && not (any_item step.family n inside i))
          ∙ is_true (length (list_of lists n) == 0)

  -- two sets, `part` and `set`, that agree on the numbers in `enough`
  module _ (set part : List ℕ) (set_rises : IsRisingBelow count set) (part_rises : IsRisingBelow count part) (enough : ℕ
      → Bool)
      (same : (n : ℕ) → enough n ≡ true → has part n ≡ has set n) where
    -- a list of numbers in `enough` has one of `part` exactly if it has one of `set`
    same_any : (list : List ℕ) → ((n : ℕ) → has list n ≡ true → enough n ≡ true)
        → list_any (has part) list ≡ list_any (has set) list
    same_any list all =
        any_agree list (has part) (has set) 0
        (λ k within. same (get_or list k 0) (all (get_or list k 0)
        (had_contained list (get_or list k 0) (k, within, get_or_default list k (get_or list k 0) 0 within))))

    module _ (f : Family) (concept : ℕ) (inside : concept < count) where
      -- if the list that leads back from `concept` is in `enough`, the joined lists of `part` and of `set` agree on
      -- `concept`
      listed : ((n : ℕ) → has (list_of (lists_of hierarchy (opposite_of f)) concept) n ≡ true → enough n ≡ true)
          → has (joined count (lists_of hierarchy f) part) concept
          ≡ has (joined count (lists_of hierarchy f) set) concept
      listed all =
          sym (asked_opposite count hierarchy over part part_rises f concept inside)
          ∙ same_any (list_of (lists_of hierarchy (opposite_of f)) concept) all
          ∙ asked_opposite count hierarchy over set set_rises f concept inside

      -- if `concept` and the list that leads back from it are in `enough`, `part` and `set` with their joined lists
      -- agree on `concept`
      or_self : enough concept ≡ true
          → ((n : ℕ) → has (list_of (lists_of hierarchy (opposite_of f)) concept) n ≡ true → enough n ≡ true)
          → has (all_items count part (joined count (lists_of hierarchy f) part)) concept
          ≡ has (all_items count set (joined count (lists_of hierarchy f) set)) concept
      or_self own all =
          sym (asked_or_self count hierarchy over part part_rises f concept inside)
          ∙ (λ i. same concept own i || listed all i)
          ∙ asked_or_self count hierarchy over set set_rises f concept inside

      -- if `concept` and its list are in `enough`, it is kept apart in `part` exactly if it is in `set`
      kept : enough concept ≡ true → ((n : ℕ) → has (list_of (lists_of hierarchy f) concept) n ≡ true → enough n ≡ true)
          → has (apart (lists_of hierarchy f) part) concept ≡ has (apart (lists_of hierarchy f) set) concept
      kept own all =
          sym (asked_apart count hierarchy over part part_rises f concept inside)
          ∙ (λ i. same concept own i && not (same_any (list_of (lists_of hierarchy f) concept) all i))
          ∙ asked_apart count hierarchy over set set_rises f concept inside

    -- an operator leads to `concept` from `part` exactly if it does from `set`, if `concept` and the list by which it
    -- is tested are in `enough`
    same_related : (operator : Operator) (concept : ℕ) → concept < count → enough concept ≡ true
        → ((n : ℕ) → has (list_of (asked_lists hierarchy operator) concept) n ≡ true → enough n ≡ true)
        → has (related_to hierarchy count operator part) concept ≡ has (related_to hierarchy count operator set) concept
    same_related Descendants concept inside own all = listed family.Descendants concept inside all
    same_related DescendantsOrSelf concept inside own all = or_self family.Descendants concept inside own all
    same_related Children concept inside own all = listed family.Children concept inside all
    same_related ChildrenOrSelf concept inside own all = or_self family.Children concept inside own all
    same_related Ancestors concept inside own all = listed family.Ancestors concept inside all
    same_related AncestorsOrSelf concept inside own all = or_self family.Ancestors concept inside own all
    same_related Parents concept inside own all = listed family.Parents concept inside all
    same_related ParentsOrSelf concept inside own all = or_self family.Parents concept inside own all
    same_related Top concept inside own all = kept family.Ancestors concept inside own all
    same_related Bottom concept inside own all = kept family.Descendants concept inside own all

    -- if `part` and `set` agree on `enough`, which is enough to test the candidates, then an operator leads from `part`
    -- to the same candidates as from `set`
    pub related_from_part : (operator : Operator) (may : ℕ → Bool)
        → AreEnough (asked_lists hierarchy operator) may enough
        → filter may (related_to hierarchy count operator part) ≡ filter may (related_to hierarchy count operator set)
    related_from_part operator may are_enough =
        kept_of part part_rises ∙ numbers_where-agree count _ _ each ∙ sym (kept_of set set_rises)
      where
        related : List ℕ → List ℕ
        related items = related_to hierarchy count operator items

        kept_of : (items : List ℕ) → IsRisingBelow count items
            → filter may (related items) ≡ numbers_where count (λ n. has (related items) n && may n)
        kept_of items rises =
            ap (filter may) (rising_is_numbers_where count (related items) (operator_rises operator items rises))
            ∙ filter-numbers_where count (has (related items)) may

        asked : (n : ℕ) → n < count → (b : Bool) → may n ≡ b → (has (related part) n && b) ≡ (has (related set) n && b)
        asked n inside true told =
            let here = are_enough n told in
            ap (λ (there : Bool). there && true) (same_related operator n inside here.0 here.1)
        asked n inside false told = and-false (has (related part) n) ∙ sym (and-false (has (related set) n))

        each : (n : ℕ) → n < count → (has (related part) n && may n) ≡ (has (related set) n && may n)
        each n inside = asked n inside (may n) refl
