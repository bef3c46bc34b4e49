-- What is read of the components of reference sets is within the bound of the node.
use Rattle.std.proofs.Common.{ℕ, ◌+◌, [], ◌≡◌, ◌≤◌, ◌∙◌, List, Option, Some, None, length, refl, sym, ap, subst, arith}
use Rattle.std.specs.List.{concat}
use Rattle.std.specs.List.Sorted.{IsStrictlyIncreasing}
use Rattle.std.proofs.lemmas.List.Sums.{sum_by-cons}
use Rattle.release_model.specs.Release.{Release}
use Rattle.number_lists.specs.KeyedLists.{list_of}
use Rattle.number_lists.specs.Rising.{IsRisingBelow}
use Rattle.held_release.specs.Numbering.{concept_number}
use Rattle.set_algebra.specs.Meaning.{means}
use Rattle.set_algebra.specs.Physical.{Physical, logical, physical_empty, physical_all, physical_one, physical_walk}
use Rattle.set_algebra.specs.Physical.{physical_members, physical_and, physical_or, physical_minus, physical_values}
use Rattle.set_algebra.specs.Physical.{physical_pairs, physical_groups}
use Rattle.postings.specs.Indexed.{Indexed, IsIndexOf}
use Rattle.plan_bounds.specs.Bounds.{members_bound}
use Rattle.plan_bounds.specs.Counts.{counted, one_of}
use Rattle.candidates.specs.Numbers.{numbers_in}
use Rattle.candidates.proofs.Normal.{as_list, one_in}
use Rattle.walks.specs.Families.{items_in}
use Rattle.walks.proofs.ReadLemmas.{items_of_some}

-- reading at most one concept and its components takes at most 1 and the number of its components
of_one : (indexed : Indexed) (number : Option ℕ)
    → length (as_list number) + items_in indexed.members (as_list number)
    ≤ 1 + counted (λ n. length (list_of indexed.members n)) number
of_one indexed None = omega arith
of_one indexed (Some n) = omega (arith, sum_by-cons (λ key. length (list_of indexed.members key)) n [])

module _ (release : Release) (indexed : Indexed) (index : IsIndexOf indexed release)
    (rising : IsStrictlyIncreasing release.concepts)
    (lists : length indexed.members ≡ length indexed.concepts) (items : List ℕ)
    (below : IsRisingBelow (length release.concepts) items)
    (size : ℕ) (few : length items ≤ size) where
  -- reading a set of concepts and their components takes at most its size and all components
  of_any : length items + items_in indexed.members items ≤ size + length (concat indexed.members)
  of_any =
      let rises : IsRisingBelow (length indexed.members) items =
      subst (λ (n : ℕ). IsRisingBelow n items) (sym (lists ∙ ap (λ (xs : List ℕ). length xs) index.concepts)) below in
      omega (arith, few, items_of_some indexed.members items rises)

  -- if `items` is what `plan` means, and has at most `size` concepts, reading them and the components of their
  -- reference sets takes at most the bound of the `Members` node itself
  pub members_read : (plan : Physical) → items ≡ numbers_in release (means release (logical plan))
      → length items + items_in indexed.members items ≤ members_bound indexed (one_of plan) size
  members_read (physical_one id) is =
      let number = concept_number release.concepts id in
      let one : items ≡ as_list number = is ∙ sym (one_in release rising id number refl) in
      omega (
        arith,
        of_one indexed number,
        ap (λ (xs : List ℕ). length xs + items_in indexed.members xs) one,
        ap (λ (ids : List ℕ). counted (λ n. length (list_of indexed.members n)) (concept_number ids id)) index.concepts,
      )
  members_read physical_empty is = of_any
  members_read physical_all is = of_any
  members_read (physical_walk operator operand) is = of_any
  members_read (physical_members operand) is = of_any
  members_read (physical_and parts) is = of_any
  members_read (physical_or parts) is = of_any
  members_read (physical_minus first second) is = of_any
  members_read (physical_values start names) is = of_any
  members_read (physical_pairs back count types test choice) is = of_any
  members_read (physical_groups count units) is = of_any
