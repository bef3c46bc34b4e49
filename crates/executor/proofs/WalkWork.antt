-- What a walk reads, from what its operand has found, is within the bound of the node.
use Rattle.std.proofs.Common.{ℕ, ◌+◌, [], ◌≡◌, ◌≤◌, ◌<◌, ◌∙◌, Bool, true, false, cond, List, Option, None, Some}
use Rattle.std.proofs.Common.{length, refl, sym, ap, arith, rules}
use Rattle.std.specs.Prelude.{IsSome, if◌then◌else◌}
use Rattle.std.specs.List.Sorted.{IsStrictlyIncreasing}
use Rattle.std.proofs.lemmas.List.Sums.{sum_by-cons}
use Rattle.constraint_tree.specs.declared.operator.Operator.{Operator}
use Rattle.constraint_tree.specs.declared.operator.Operator.TheVariants.{Descendants, DescendantsOrSelf, Children}
use Rattle.constraint_tree.specs.declared.operator.Operator.TheVariants.{ChildrenOrSelf, Ancestors, AncestorsOrSelf}
use Rattle.constraint_tree.specs.declared.operator.Operator.TheVariants.{Parents, ParentsOrSelf, Top, Bottom}
use Rattle.release_model.specs.Release.{Release}
use Rattle.number_lists.specs.KeyedLists.{list_of}
use Rattle.number_lists.specs.Rising.{IsRisingBelow}
use Rattle.held_release.specs.Numbering.{concept_number}
use Rattle.set_algebra.specs.Meaning.{means}
use Rattle.set_algebra.specs.Physical.{Physical, logical, physical_empty, physical_all, physical_one, physical_walk}
use Rattle.set_algebra.specs.Physical.{physical_members, physical_and, physical_or, physical_minus, physical_values}
use Rattle.set_algebra.specs.Physical.{physical_pairs, physical_groups}
use Rattle.ancestor_index.specs.HierarchyLists.{Hierarchy}
use Rattle.postings.specs.Indexed.{Indexed, IsIndexOf}
use Rattle.plan_bounds.specs.Bounds.{walk_bound}
use Rattle.plan_bounds.specs.Counts.{counted, is_extreme, list_length, lists_along, lists_length, one_of}
use Rattle.plan_bounds.specs.Floors.{of_one as of_one_concept}
use Rattle.candidates.specs.Numbers.{numbers_in}
use Rattle.candidates.proofs.Normal.{as_list, one_in}
use Rattle.walks.specs.Families.{all_items_of, family_of, lists_of}
use Rattle.walks.specs.Reads.{walk_items}
use Rattle.walks.proofs.ReadLemmas.{at_most_all}

-- the floor of a walk node
abbrev walk_floor : Indexed → Operator → Option ℕ → ℕ
walk_floor indexed operator one = if is_extreme operator then 0 else of_one_concept indexed one
    (list_length indexed operator)

-- the lists of a walk are those of the operator's family
along : (hierarchy : Hierarchy) (operator : Operator) → lists_of hierarchy (family_of operator)
    ≡ lists_along hierarchy operator
along hierarchy Descendants = refl
along hierarchy DescendantsOrSelf = refl
along hierarchy Children = refl
along hierarchy ChildrenOrSelf = refl
along hierarchy Ancestors = refl
along hierarchy AncestorsOrSelf = refl
along hierarchy Parents = refl
along hierarchy ParentsOrSelf = refl
along hierarchy Top = refl
along hierarchy Bottom = refl

-- all lists of the operator's family have together `lists_length` items
pub all_along : (indexed : Indexed) (operator : Operator) → all_items_of indexed.hierarchy (family_of operator)
    ≡ lists_length indexed operator
all_along indexed Descendants = refl
all_along indexed DescendantsOrSelf = refl
all_along indexed Children = refl
all_along indexed ChildrenOrSelf = refl
all_along indexed Ancestors = refl
all_along indexed AncestorsOrSelf = refl
all_along indexed Parents = refl
all_along indexed ParentsOrSelf = refl
all_along indexed Top = refl
all_along indexed Bottom = refl

-- reading at most one concept and its list takes at most 1 and the length of its list
of_one : (indexed : Indexed) (operator : Operator) (number : Option ℕ)
    → length (as_list number) + walk_items indexed.hierarchy operator (as_list number)
    ≤ 1 + counted (λ n. length (list_of (lists_along indexed.hierarchy operator) n)) number
of_one indexed operator None = omega arith
of_one indexed operator (Some n) =
    omega (
      arith,
      sum_by-cons (λ key. length (list_of (lists_of indexed.hierarchy (family_of operator)) key)) n [],
      ap (λ (lists : List (List ℕ)). length (list_of lists n)) (along indexed.hierarchy operator),
    )

module _ (release : Release) (indexed : Indexed) (index : IsIndexOf indexed release)
    (rising : IsStrictlyIncreasing release.concepts)
    (items : List ℕ) (below : IsRisingBelow (length release.concepts) items) (operator : Operator) (size : ℕ)
    (few : length items ≤ size) where
  -- reading a set of concepts and their lists takes at most its size and the length of all lists
  of_any : length items + walk_items indexed.hierarchy operator items ≤ size + lists_length indexed operator
  of_any =
      omega (
        arith,
        few,
        at_most_all (length release.concepts) indexed.hierarchy
            (record { release = release; hierarchy_is = index.hierarchy; count_is = refl }) (family_of operator) items
            below,
        all_along indexed operator,
      )

  -- if `items` is what the operand means, and has at most `size` concepts, reading them and the lists of the operator's
  -- family takes at most the bound of the walk node itself
  pub walk_read : (plan : Physical) → items ≡ numbers_in release (means release (logical plan))
      → length items + walk_items indexed.hierarchy operator items ≤ walk_bound indexed operator (one_of plan) size
  walk_read (physical_one id) is =
      let number = concept_number release.concepts id in
      let one : items ≡ as_list number = is ∙ sym (one_in release rising id number refl) in
      omega (
        arith,
        of_one indexed operator number,
        ap (λ (xs : List ℕ). length xs + walk_items indexed.hierarchy operator xs) one,
        ap (λ (ids : List ℕ). counted (λ n. length (list_of (lists_along indexed.hierarchy operator) n))
            (concept_number ids id)) index.concepts,
      )
  walk_read physical_empty is = of_any
  walk_read physical_all is = of_any
  walk_read (physical_walk other operand) is = of_any
  walk_read (physical_members operand) is = of_any
  walk_read (physical_and parts) is = of_any
  walk_read (physical_or parts) is = of_any
  walk_read (physical_minus first second) is = of_any
  walk_read (physical_values start names) is = of_any
  walk_read (physical_pairs back count types test choice) is = of_any
  walk_read (physical_groups count units) is = of_any

-- if the operand is not the plan of one concept, the bound of a walk is the operand's size and the length of all lists
pub several_bound : (indexed : Indexed) (operator : Operator) (one : Option ℕ) (size : ℕ) → one ≡ None
    → walk_bound indexed operator one size ≡ size + lists_length indexed operator
several_bound indexed operator one size none = ap (λ (one : Option ℕ). walk_bound indexed operator one size) none

-- if the operand is not the plan of one concept, the floor of a walk is 0
pub several_floor : (indexed : Indexed) (operator : Operator) (one : Option ℕ) → one
    ≡ None → walk_floor indexed operator one ≡ 0
several_floor indexed operator one none = ap (walk_floor indexed operator) none ∙ at (is_extreme operator)
  where
    at : (extreme : Bool) → cond {A = ℕ} extreme 0 0 ≡ 0
    at true = refl
    at false = refl

-- a plan that reads rows if it does not use its candidates is not the plan of one concept
pub not_one : (one : Option ℕ) (rows : ℕ) → (IsSome one → rows ≡ 0) → 0 < rows → one ≡ None
not_one None rows none some = refl
not_one (Some id) rows none some = let is : IsSome (Some id) = search rules in absurd (omega (arith, none is, some))
