use Rattle.std.proofs.Common.{◌<◌, length, arith}
use Rattle.release_tests.proofs.HierarchyLemmas.{concept_has_lists}
use Rattle.release_tests.proofs.hierarchy_tests.has_words.Goals as goal

-- the concept has a list of descendants, so its words can be asked for
pub descendant_words-requires : goal.descendant_words-requires
descendant_words-requires c =
    let below : c.args.concept < length c.args.snapshot.now.release.concepts = omega arith in
    (concept_has_lists c.args.snapshot.now.release c.args.index.now c.args.concept c.requires below).descendants

-- the concept has a list of descendants
pub descendants-requires : goal.descendants-requires
descendants-requires c =
    let below : c.args.concept < length c.args.snapshot.now.release.concepts = omega arith in
    (concept_has_lists c.args.snapshot.now.release c.args.index.now c.args.concept c.requires below).descendants
