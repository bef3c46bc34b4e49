-- In the hierarchy of a release, each concept has its lists.
use Rattle.std.proofs.Common.{ℕ, ◌≡◌, ◌<◌, Bool, length, get_or, subst, sym, arith}
use Rattle.hierarchy.specs.Hierarchy.{reaches}
use Rattle.release_model.specs.Release.{Release}
use Rattle.ancestor_index.specs.HierarchyLists.{Hierarchy, hierarchy_of, is_child, lists_where}
use Rattle.ancestor_index.proofs.ClosureLemmas.{length-where}

-- the hierarchy has a list of ancestors, of descendants, of parents and of children for `concept`
pub record HasLists (index : Hierarchy) (concept : ℕ) : Type 0 where
  -- there is a list of ancestors for the concept
  pub ancestors : concept < length index.ancestors
  -- there is a list of descendants for the concept
  pub descendants : concept < length index.descendants
  -- there is a list of parents for the concept
  pub parents : concept < length index.parents
  -- there is a list of children for the concept
  pub children : concept < length index.children

-- if `index` is the hierarchy of the release, and `concept` is below the count of concepts, then the hierarchy has
-- all four lists for `concept`
pub concept_has_lists : (release : Release) (index : Hierarchy) (concept : ℕ) → index ≡ hierarchy_of release
    → concept < length release.concepts → HasLists index concept
concept_has_lists release index concept is below =
    subst (λ (index : Hierarchy). HasLists index concept) (sym is) (record {
      ancestors = listed (λ a b. reaches release.isa (id a) (id b));
      descendants = listed (λ a b. reaches release.isa (id b) (id a));
      parents = listed (λ a b. is_child release.isa (id a) (id b));
      children = listed (λ a b. is_child release.isa (id b) (id a));
    })
  where
    id : ℕ → ℕ
    id n = get_or release.concepts n 0

    -- in lists made by a test, `concept` has a list
    listed : (test : ℕ → ℕ → Bool) → concept < length (lists_where (length release.concepts) test)
    listed test = omega (arith, below, length-where (length release.concepts) test)
