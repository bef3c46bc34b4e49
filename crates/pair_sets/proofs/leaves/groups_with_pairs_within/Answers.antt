use Rattle.std.proofs.Common.{ℕ, Bool, ◌∙◌, arith}
use Rattle.set_algebra.specs.Meaning.{has_pairs}
use Rattle.candidates.specs.Numbers.{is_one_of}
use Rattle.candidates.specs.Within.{groups_within, may_be}
use Rattle.pair_sets.proofs.leaves.groups_with_pairs_within.Goals as goal

-- the values that pass in the way that is taken are those that pass the test
pub returns-clause-found : goal.returns-clause-found
returns-clause-found g c =
    let release = c.args.reader.snapshot.now.release in
    let one : ℕ → Bool = is_one_of c.args.reader.indexes.now.concepts (g.S.ConceptSet.items_of c.args.types.now) in
    record {
      items =
          c.in_ok-found.ensures.items
          ∙ (λ i. groups_within release (may_be g.S.ConceptSet.items_of c.args.candidates.now)
          (has_pairs c.args.leaf.count one (λ value. c.in_ok-path.ensures.path.passes value i)));
      bound = c.in_ok-found.ensures.bound;
      floor = omega arith;
    }

-- the set or the numbers of the way are below the count of concepts
pub groups_with_pairs_by-requires-clause-path : goal.groups_with_pairs_by-requires-clause-path
groups_with_pairs_by-requires-clause-path g c = c.in_ok-path.ensures.path.below

-- the types whose rows the way reads are those in the set
pub groups_with_pairs_by-requires-clause-ids : goal.groups_with_pairs_by-requires-clause-ids
groups_with_pairs_by-requires-clause-ids g c = c.in_ok-path.ensures.path.types
