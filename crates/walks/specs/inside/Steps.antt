-- A step from a list of concepts along the lists of a family, and how it stands for an operator.
use Rattle.std.specs.Prelude.{ℕ, ◌≡◌, ◌==◌, Bool, true, false, List, length}
use Rattle.std.specs.Bool.{beq}
use Rattle.constraint_tree.specs.declared.operator.Operator.{Operator}
use Rattle.idset.specs.Sets.{all_items}
use Rattle.number_lists.specs.KeyedLists.{list_of}
use Rattle.ancestor_index.specs.HierarchyLists.{Hierarchy}
use Rattle.ancestor_index.specs.Wide.{IsWide}
use Rattle.walks.specs.declared.family.Family.{Family}
use Rattle.walks.specs.declared.family.Family.TheVariants as family
use Rattle.walks.specs.declared.family.Reach.{Reach}
use Rattle.walks.specs.declared.family.Reach.TheVariants.{Listed, ListedOrSelf, Apart}
use Rattle.walks.specs.declared.family.Step.{Step}
use Rattle.walks.specs.Asked.{asked_lists}
use Rattle.walks.specs.Families.{family_of, lists_of}
use Rattle.walks.specs.Related.{apart, joined, related_to}
use Rattle.walks.specs.inside.Joined.{opposite_of, is_whole}

-- the index has the list of a concept as a bitmap: it has one for long lists of descendants
abbrev pub HasWords : Hierarchy → Family → ℕ → Type 0
HasWords hierarchy family.Ancestors concept = ⊥
HasWords hierarchy family.Descendants concept =
    IsWide (length hierarchy.descendants) (list_of hierarchy.descendants concept)
HasWords hierarchy family.Parents concept = ⊥
HasWords hierarchy family.Children concept = ⊥

-- the concept numbers that a step finds from `concepts` along `lists`; `count` is the number of all
-- concepts
abbrev pub stepped : List (List ℕ) → ℕ → Reach → List ℕ → List ℕ
stepped lists count Listed concepts = joined count lists concepts
stepped lists count ListedOrSelf concepts = all_items count concepts (joined count lists concepts)
stepped lists count Apart concepts = apart lists concepts

-- whether a step leads to the concepts from which it starts and to others, as its reach says
abbrev pub leads_to_self : Reach → Bool
leads_to_self Listed = false
leads_to_self ListedOrSelf = true
leads_to_self Apart = false

-- whether a step leads only to concepts from which it starts, as its reach says
abbrev pub keeps_apart : Reach → Bool
keeps_apart Listed = false
keeps_apart ListedOrSelf = false
keeps_apart Apart = true

-- whether the list of `concept` is empty, or, if `empty` is false, whether it has an item
abbrev pub has_length : List (List ℕ) → Bool → ℕ → Bool
has_length lists empty concept = beq (length (list_of lists concept) == 0) empty

-- the family whose lists tell whether a step along `family` finds a concept
abbrev pub asked_by : Family → Reach → Family
asked_by family Listed = opposite_of family
asked_by family ListedOrSelf = opposite_of family
asked_by family Apart = family

-- the family whose lists tell whether a step finds a concept
abbrev pub asked_of : Step → Family
asked_of step = asked_by step.family step.reach

-- `step` finds what `operator` leads to
pub record IsStepFor (operator : Operator) (step : Step) : Type 0 where
  -- the step finds exactly what the operator leads to
  pub related : (hierarchy : Hierarchy) (count : ℕ) (concepts : List ℕ)
      → related_to hierarchy count operator concepts ≡ stepped (lists_of hierarchy step.family)
      count step.reach concepts
  -- the step follows the family of the operator
  pub family : step.family ≡ family_of operator
  -- the family of a step for `!!>` or `!!<` is ancestors or descendants
  pub whole : step.reach ≡ Apart → is_whole step.family ≡ true
  -- the step tests a concept by the lists by which the operator tests it
  pub asked : (hierarchy : Hierarchy)
      → lists_of hierarchy (asked_of step) ≡ asked_lists hierarchy operator
