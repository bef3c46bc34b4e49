-- The meaning of the tests on concepts in force and on the hierarchy.
use Rattle.std.proofs.Common.{◌==◌, ◌&&◌, Contains, refl, subst}
use Rattle.std.proofs.lemmas.Bool.{and_parts, and_from, eqb-true, eq-eqb}
use Rattle.hierarchy.specs.Hierarchy.{reaches}
use Rattle.number_lists.proofs.ListLemmas.{passing_item, some_item_passes}
use Rattle.hierarchy.proofs.HierarchyLemmas.{tells_reaches}
use Rattle.constraint_tree.specs.Walks.{TellsInForce, TellsBelow, TellsAbove, TellsChild}

-- `has_concept` is true exactly for the concepts of the release
pub tells_in_force : TellsInForce
tells_in_force release concept = (
  λ holds.
      let found = passing_item (λ item. item == concept) release.concepts holds in
      subst (Contains release.concepts) (eqb-true found.0 concept found.2) found.1,
  λ contained. some_item_passes (λ item. item == concept) release.concepts concept contained
      (eq-eqb concept concept refl),
)

-- `is_child` is true exactly for the pairs of concepts that an is-a row has, child first
pub tells_child : TellsChild
tells_child release child parent = (
  λ holds.
      let found = passing_item (λ row. (row.0 == child) && (row.1 == parent)) release.isa holds in
      let parts = and_parts (found.0.0 == child) (found.0.1 == parent) found.2 in
      let child_is = eqb-true found.0.0 child parts.0 in
      let parent_is = eqb-true found.0.1 parent parts.1 in
      subst (Contains release.isa) (λ i. (child_is i, parent_is i)) found.1,
  λ contained.
      some_item_passes (λ row. (row.0 == child) && (row.1 == parent)) release.isa (child, parent) contained
      (and_from _ _ (eq-eqb child child refl) (eq-eqb parent parent refl)),
)

-- `is_below` is true exactly for the concepts from which a chain of is-a rows leads up to a member of the set that is
-- in force
pub tells_below : TellsBelow
tells_below release set concept = (
  λ holds.
      let found = passing_item (λ member. set member && reaches release.isa concept member) release.concepts holds in
      let parts = and_parts (set found.0) (reaches release.isa concept found.0) found.2 in
      (found.0, found.1, parts.0, (tells_reaches release.isa concept found.0).0 parts.1),
  λ below.
      some_item_passes (λ member. set member && reaches release.isa concept member) release.concepts below.0 below.1
      (and_from _ _ below.2 ((tells_reaches release.isa concept below.0).1 below.3)),
)

-- `is_above` is true exactly for the concepts to which a chain of is-a rows leads up from a member of the set that is
-- in force
pub tells_above : TellsAbove
tells_above release set concept = (
  λ holds.
      let found = passing_item (λ member. set member && reaches release.isa member concept) release.concepts holds in
      let parts = and_parts (set found.0) (reaches release.isa found.0 concept) found.2 in
      (found.0, found.1, parts.0, (tells_reaches release.isa found.0 concept).0 parts.1),
  λ above.
      some_item_passes (λ member. set member && reaches release.isa member concept) release.concepts above.0 above.1
      (and_from _ _ above.2 ((tells_reaches release.isa above.0 concept).1 above.3)),
)
