-- How many items the lists of some concepts have together: no more than all lists of their family.
use Rattle.std.proofs.Common.{ℕ, ◌+◌, ◌∷◌, [], ◌≡◌, ◌<◌, ◌≤◌, ◌∙◌, Bool, true, false, not, cond, List, length, map}
use Rattle.std.proofs.Common.{refl, sym, ap, subst, arith, length-append}
use Rattle.std.specs.Bool.{beq}
use Rattle.std.specs.Prelude.{filter, nat_lt}
use Rattle.std.specs.List.{concat, flat_map, range_with_len, sum_by}
use Rattle.std.proofs.lemmas.List.Filters.{sum_by-filter_both}
use Rattle.std.proofs.lemmas.Bool.{lt-ltb}
use Rattle.std.proofs.lemmas.List.Concat.{concat_is, length-flat_map}
use Rattle.std.proofs.lemmas.List.Folds.{flat_map-map}
use Rattle.std.proofs.lemmas.List.Sums.{length-filter, sum_by-cons}
use Rattle.number_lists.proofs.BlockLemmas.{items_by_place}
use Rattle.number_lists.proofs.RisingLemmas.{rising_is_numbers_where}
use Rattle.number_lists.specs.KeyedLists.{list_of}
use Rattle.number_lists.specs.Members.{has}
use Rattle.number_lists.specs.Rising.{IsRisingBelow, numbers_where}
use Rattle.constraint_tree.specs.declared.operator.Operator.{Operator}
use Rattle.constraint_tree.specs.declared.operator.Operator.TheVariants.{Descendants, DescendantsOrSelf, Children}
use Rattle.constraint_tree.specs.declared.operator.Operator.TheVariants.{ChildrenOrSelf, Ancestors, AncestorsOrSelf}
use Rattle.constraint_tree.specs.declared.operator.Operator.TheVariants.{Parents, ParentsOrSelf, Top, Bottom}
use Rattle.ancestor_index.specs.HierarchyLists.{Hierarchy, lists_where}
use Rattle.postings.specs.Indexed.{Indexed}
use Rattle.walks.specs.Asked.{asked_lists}
use Rattle.walks.specs.Families.{all_items_of, family_of, items_in, lists_of}
use Rattle.walks.specs.Related.{IsOver}
use Rattle.walks.specs.Reads.{asked_items, items_at_most, walk_items}
use Rattle.walks.specs.declared.family.Family.{Family}
use Rattle.walks.specs.declared.family.Family.TheVariants as family
use Rattle.walks.proofs.JoinedLemmas.{over_length, over_lists, stands}
use Rattle.reading.specs.Counted.{CountsWithin, HandsOut, full}
use Rattle.reading.specs.declared.counter.Counter.{Counter}
use Rattle.reading.proofs.CountLemmas.{counted_both, counted_out}
use Rattle.candidates.specs.Extents.{AreListed, IsStatsOf}
use Rattle.candidates.specs.declared.candidates.CandidateStats.{CandidateStats}
use Rattle.candidates.specs.declared.candidates.ListStats.{ListStats}
use Rattle.walks.specs.inside.Counts.{told_of}
use Rattle.walks.specs.inside.Joined.{is_long, with_length}
use Rattle.candidates.proofs.SumLemmas.{no_sum, sum_of_some, two_sums}

-- ---- all lists, one by one
-- all lists together have as many items as the lists of all keys, added up
all_one_by_one : (lists : List (List ℕ)) → length (concat lists) ≡ items_in lists (range_with_len 0 (length lists))
all_one_by_one lists =
    let all = range_with_len 0 (length lists) in
    ap (λ (xs : List (List ℕ)). length (concat xs)) (items_by_place lists [])
    ∙ ap (λ (xs : List ℕ). length xs)
    (concat_is (map (list_of lists) all) ∙ flat_map-map (λ xs. xs) (list_of lists) all)
    ∙ length-flat_map (list_of lists) all

-- the lists of rising `keys` have together at most as many items as all lists
pub items_of_some : (lists : List (List ℕ)) (keys : List ℕ) → IsRisingBelow (length lists) keys
    → items_in lists keys ≤ length (concat lists)
items_of_some lists keys rising =
    omega (
      arith,
      sum_of_some (λ key. length (list_of lists key)) (has keys) (range_with_len 0 (length lists)),
      ap (items_in lists) (rising_is_numbers_where (length lists) keys rising),
      all_one_by_one lists,
    )

-- ---- transposed lists have as many items
-- a double sum may be taken in either order
turned_sums : (f : ℕ → ℕ → ℕ) (xs ys : List ℕ)
    → sum_by (λ x. sum_by (f x) ys) xs ≡ sum_by (λ y. sum_by (λ x. f x y) xs) ys
turned_sums f [] ys = sym (no_sum ys)
turned_sums f (x ∷ xs) ys =
    sum_by-cons (λ x. sum_by (f x) ys) x xs
    ∙ (λ i. sum_by (f x) ys + turned_sums f xs ys i)
    ∙ sym (two_sums (f x) (λ y. sum_by (λ x. f x y) xs) ys)
    ∙ (λ i. sum_by (λ y. sym (sum_by-cons (λ x. f x y) x xs) i) ys)

-- the lists of a relation have as many items as the lists of all numbers below `count`, added up
length-all_where : (count : ℕ) (test : ℕ → ℕ → Bool)
    → length (concat (lists_where count test))
    ≡ sum_by (λ a. length (numbers_where count (test a))) (range_with_len 0 count)
length-all_where count test =
    let all = range_with_len 0 count in
    let list : ℕ → List ℕ = λ a. numbers_where count (test a) in
    ap (λ (xs : List ℕ). length xs) (concat_is (map list all) ∙ flat_map-map (λ xs. xs) list all)
    ∙ length-flat_map list all

-- transposed lists have as many items as the lists
turned_items : (count : ℕ) (test : ℕ → ℕ → Bool)
    → length (concat (lists_where count (λ a b. test b a))) ≡ length (concat (lists_where count test))
turned_items count test =
    let all = range_with_len 0 count in
    length-all_where count (λ a b. test b a)
    ∙ (λ i. sum_by (λ a. length-filter (λ b. test b a) all i) all)
    ∙ turned_sums (λ a b. cond (test b a) 1 0) all all
    ∙ (λ i. sum_by (λ b. sym (length-filter (test b) all) i) all)
    ∙ sym (length-all_where count test)

-- ---- the families of a hierarchy
-- all lists of a family have together `all_items_of` items
pub family_items : (count : ℕ) (hierarchy : Hierarchy) → IsOver count hierarchy → (f : Family)
    → length (concat (lists_of hierarchy f)) ≡ all_items_of hierarchy f
family_items count hierarchy over family.Ancestors = refl
family_items count hierarchy over family.Parents = refl
family_items count hierarchy over family.Descendants =
    ap (λ (xs : List (List ℕ)). length (concat xs)) (over_lists count hierarchy over family.Descendants)
    ∙ turned_items count (stands over.release family.Ancestors)
    ∙ ap (λ (xs : List (List ℕ)). length (concat xs)) (sym (over_lists count hierarchy over family.Ancestors))
family_items count hierarchy over family.Children =
    ap (λ (xs : List (List ℕ)). length (concat xs)) (over_lists count hierarchy over family.Children)
    ∙ turned_items count (stands over.release family.Parents)
    ∙ ap (λ (xs : List (List ℕ)). length (concat xs)) (sym (over_lists count hierarchy over family.Parents))

-- the lists of rising `concepts` have together at most as many items as all lists of the family
pub set_items : (count : ℕ) (hierarchy : Hierarchy) → IsOver count hierarchy → (f : Family) (concepts : List ℕ)
    → IsRisingBelow count concepts
    → items_in (lists_of hierarchy f) concepts ≤ all_items_of hierarchy f
set_items count hierarchy over f concepts rising =
    omega (
      arith,
      items_of_some (lists_of hierarchy f) concepts
          (subst (λ (n : ℕ). IsRisingBelow n concepts) (sym (over_length count hierarchy over f)) rising),
      family_items count hierarchy over f,
    )

-- the lists of rising `concepts` have together at most as many items as a walk from them may read
pub items_of_set : (count : ℕ) (hierarchy : Hierarchy) → IsOver count hierarchy → (f : Family) (concepts : List ℕ)
    → IsRisingBelow count concepts
    → items_in (lists_of hierarchy f) concepts ≤ items_at_most hierarchy f concepts
items_of_set count hierarchy over f concepts rising = at (nat_lt 1 (length concepts))
  where
    at : (many : Bool) → items_in (lists_of hierarchy f) concepts
        ≤ cond many (all_items_of hierarchy f) (items_in (lists_of hierarchy f) concepts)
    at true = set_items count hierarchy over f concepts rising
    at false = omega arith

-- a walk from rising `concepts` may read at most as many items as all lists of the family have
pub at_most_all : (count : ℕ) (hierarchy : Hierarchy) → IsOver count hierarchy → (f : Family) (concepts : List ℕ)
    → IsRisingBelow count concepts
    → items_at_most hierarchy f concepts ≤ all_items_of hierarchy f
at_most_all count hierarchy over f concepts rising = at (nat_lt 1 (length concepts))
  where
    at : (many : Bool) → cond many (all_items_of hierarchy f) (items_in (lists_of hierarchy f) concepts)
        ≤ all_items_of hierarchy f
    at true = omega arith
    at false = set_items count hierarchy over f concepts rising

-- the lists of `concepts` in a family have no more items than the statistics of their lists say
told_items : (hierarchy : Hierarchy) (concepts : List ℕ) (lists : ListStats) → AreListed hierarchy concepts lists
    → (f : Family)
    → full (items_in (lists_of hierarchy f) concepts) ≤ told_of f lists
told_items hierarchy concepts lists listed family.Ancestors = listed.ancestors
told_items hierarchy concepts lists listed family.Descendants = listed.descendants
told_items hierarchy concepts lists listed family.Parents = listed.parents
told_items hierarchy concepts lists listed family.Children = listed.children

-- testing `concepts` reads at most as many items as their statistics allow: the concepts, and the lists of the family
-- `f` by which they are tested
pub asked_within : (indexed : Indexed) (operator : Operator) (f : Family) (concepts : List ℕ) (stats : CandidateStats)
    → IsStatsOf indexed concepts stats
    → lists_of indexed.hierarchy f ≡ asked_lists indexed.hierarchy operator
    → full (asked_items indexed.hierarchy operator concepts) ≤ full (stats.items + told_of f stats.lists)
asked_within indexed operator f concepts stats is asked =
    omega (
      arith,
      is.items,
      told_items indexed.hierarchy concepts stats.lists is.lists f,
      ap (λ (lists : List (List ℕ)). items_in lists concepts) asked,
    )

-- the long lists and the short lists of `concepts` have together as many items as all lists of `concepts`
pub long_and_others : (lists : List (List ℕ)) (concepts : List ℕ)
    → items_in lists (with_length lists true concepts) + items_in lists (with_length lists false concepts)
    ≡ items_in lists concepts
long_and_others lists concepts =
    sum_by-filter_both (λ concept. beq (is_long (list_of lists concept)) true)
    (λ concept. beq (is_long (list_of lists concept)) false)
    (λ concept. either (is_long (list_of lists concept))) (λ concept. length (list_of lists concept)) concepts
  where
    either : (long : Bool) → beq long false ≡ not (beq long true)
    either true = refl
    either false = refl

-- the long lists and the short lists of rising `concepts` have together at most as many items as all lists of the
-- family
pub parts_within : (count : ℕ) (hierarchy : Hierarchy) → IsOver count hierarchy → (f : Family) (concepts : List ℕ)
    → IsRisingBelow count concepts
    → items_in (lists_of hierarchy f) (with_length (lists_of hierarchy f) true concepts)
    + items_in (lists_of hierarchy f) (with_length (lists_of hierarchy f) false concepts) ≤ all_items_of hierarchy f
parts_within count hierarchy over f concepts rising =
    omega (arith, long_and_others (lists_of hierarchy f) concepts, set_items count hierarchy over f concepts rising)

-- the lists of the concepts that pass `test` have together at most as many items as those of all `concepts`
pub items_of_kept : (lists : List (List ℕ)) (test : ℕ → Bool) (concepts : List ℕ)
    → items_in lists (filter test concepts) ≤ items_in lists concepts
items_of_kept lists test concepts = sum_of_some (λ concept. length (list_of lists concept)) test concepts

-- handing out `concepts` and then reading the lists by which they are tested counts at most `asked_items`
pub asked_counted : (hierarchy : Hierarchy) (operator : Operator) (f : Family) {concepts own : List ℕ}
    {early between late : Counter}
    → lists_of hierarchy f ≡ asked_lists hierarchy operator → own ≡ concepts
    → HandsOut (length concepts) early between → CountsWithin (items_in (lists_of hierarchy f) own) between late
    → CountsWithin (asked_items hierarchy operator concepts) early late
asked_counted hierarchy operator f {concepts} asked same out lists =
    counted_both {first = length concepts} (counted_out out (omega arith)) lists
    (omega (
      arith,
      ap (items_in (lists_of hierarchy f)) same,
      ap (λ (some : List (List ℕ)). items_in some concepts) asked,
    ))

-- concepts, each followed by its list, are as many numbers as the concepts and the items of their lists
pub with_lists_length : (lists : List (List ℕ)) (concepts : List ℕ)
    → length (flat_map (λ concept. concept ∷ list_of lists concept) concepts) ≡ length concepts
    + items_in lists concepts
with_lists_length lists [] = omega arith
with_lists_length lists (concept ∷ concepts) =
    omega (
      arith,
      length-append (list_of lists concept) (flat_map (λ concept. concept ∷ list_of lists concept) concepts),
      sum_by-cons (λ concept. length (list_of lists concept)) concept concepts,
      with_lists_length lists concepts,
    )
