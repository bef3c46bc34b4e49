use Rattle.std.proofs.Common.{◌<◌, length, arith}
use Rattle.release_tests.proofs.HierarchyLemmas.{concept_has_lists}
use Rattle.release_tests.proofs.hierarchy_tests.is_around.Goals as goal

-- the concept has a list of ancestors
pub ancestors-requires : goal.ancestors-requires
ancestors-requires c =
    let below : c.args.concept < length c.args.snapshot.now.release.concepts = omega arith in
    (concept_has_lists c.args.snapshot.now.release c.args.index.now c.args.concept c.requires below).ancestors

-- the concept has a list of descendants
pub descendants-requires : goal.descendants-requires
descendants-requires c =
    let below : c.args.concept < length c.args.snapshot.now.release.concepts = omega arith in
    (concept_has_lists c.args.snapshot.now.release c.args.index.now c.args.concept c.requires below).descendants

-- the concept has a list of parents
pub parents-requires : goal.parents-requires
parents-requires c =
    let below : c.args.concept < length c.args.snapshot.now.release.concepts = omega arith in
    (concept_has_lists c.args.snapshot.now.release c.args.index.now c.args.concept c.requires below).parents

-- the concept has a list of children
pub children-requires : goal.children-requires
children-requires c =
    let below : c.args.concept < length c.args.snapshot.now.release.concepts = omega arith in
    (concept_has_lists c.args.snapshot.now.release c.args.index.now c.args.concept c.requires below).children
