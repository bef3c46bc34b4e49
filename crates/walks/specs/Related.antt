-- What an operator leads to from a list of concepts (Expression Constraint Language, "Simple
-- Expression Constraints"), by concept numbers and the lists of a hierarchy.
use Rattle.std.specs.Prelude.{ℕ, ◌≡◌, not, List, filter, length}
use Rattle.std.specs.List.{list_any}
use Rattle.release_model.specs.Release.{Release}
use Rattle.constraint_tree.specs.declared.operator.Operator.{Operator}
use Rattle.constraint_tree.specs.declared.operator.Operator.TheVariants.{Descendants, DescendantsOrSelf, Children}
use Rattle.constraint_tree.specs.declared.operator.Operator.TheVariants.{ChildrenOrSelf, Ancestors, AncestorsOrSelf}
use Rattle.constraint_tree.specs.declared.operator.Operator.TheVariants.{Parents, ParentsOrSelf, Top, Bottom}
use Rattle.idset.specs.Sets.{all_items}
use Rattle.number_lists.specs.Members.{has}
use Rattle.number_lists.specs.Rising.{numbers_where}
use Rattle.number_lists.specs.KeyedLists.{list_of}
use Rattle.ancestor_index.specs.HierarchyLists.{Hierarchy, hierarchy_of}

-- the numbers below `count` that are in the list of at least one of `concepts`, in rising order
abbrev pub joined : ℕ → List (List ℕ) → List ℕ → List ℕ
joined count lists concepts =
    numbers_where count (λ number. list_any (λ concept. has (list_of lists concept) number)
    concepts)

-- the concepts among `concepts` whose own list contains none of `concepts`
abbrev pub apart : List (List ℕ) → List ℕ → List ℕ
apart lists concepts = filter (λ concept. not (list_any (has concepts) (list_of lists concept)))
    concepts

-- the concept numbers that an operator leads to from `concepts`; `count` is the number of all
-- concepts
abbrev pub related_to : Hierarchy → ℕ → Operator → List ℕ → List ℕ
related_to hierarchy count Descendants concepts = joined count hierarchy.descendants concepts
related_to hierarchy count DescendantsOrSelf concepts =
    all_items count concepts (joined count hierarchy.descendants concepts)
related_to hierarchy count Children concepts = joined count hierarchy.children concepts
related_to hierarchy count ChildrenOrSelf concepts =
    all_items count concepts (joined count hierarchy.children concepts)
related_to hierarchy count Ancestors concepts = joined count hierarchy.ancestors concepts
related_to hierarchy count AncestorsOrSelf concepts =
    all_items count concepts (joined count hierarchy.ancestors concepts)
related_to hierarchy count Parents concepts = joined count hierarchy.parents concepts
related_to hierarchy count ParentsOrSelf concepts =
    all_items count concepts (joined count hierarchy.parents concepts)
related_to hierarchy count Top concepts = apart hierarchy.ancestors concepts
related_to hierarchy count Bottom concepts = apart hierarchy.descendants concepts

-- `hierarchy` is the hierarchy of `release`, which has `count` concepts
pub record IsOf (release : Release) (count : ℕ) (hierarchy : Hierarchy) : Type 0 where
  -- the lists are those that the release denotes
  pub hierarchy_is : hierarchy ≡ hierarchy_of release
  -- `count` is the number of concepts in the release
  pub count_is : count ≡ length release.concepts

-- `hierarchy` is the hierarchy of some release with `count` concepts
pub record IsOver (count : ℕ) (hierarchy : Hierarchy) : Type 0 where
  -- the release
  pub release : Release
  -- the lists are those that this release denotes
  pub hierarchy_is : hierarchy ≡ hierarchy_of release
  -- `count` is the number of concepts in this release
  pub count_is : count ≡ length release.concepts
