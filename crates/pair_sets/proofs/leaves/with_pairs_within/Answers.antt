use Rattle.std.proofs.Common.{ℕ, Bool, ◌∙◌, arith}
use Rattle.set_algebra.specs.Meaning.{has_pairs, pairs_of}
use Rattle.candidates.specs.Numbers.{is_one_of}
use Rattle.candidates.specs.Within.{may_be, numbers_within}
use Rattle.pair_sets.proofs.leaves.with_pairs_within.Goals as goal

-- the values that pass in the way that is taken are those that pass the test
pub returns-clause-found : goal.returns-clause-found
returns-clause-found g c =
    let release = c.args.reader.snapshot.now.release in
    let one : ℕ → Bool = is_one_of c.args.reader.indexes.now.concepts (g.S.ConceptSet.items_of c.args.types.now) in
    record {
      items =
          c.in_ok-found.ensures.items
          ∙ (λ i. numbers_within release (may_be g.S.ConceptSet.items_of c.args.candidates.now)
          (λ concept. has_pairs c.args.leaf.count one (λ value. c.in_ok-path.ensures.path.passes value i)
          (pairs_of release c.args.back concept)));
      bound = c.in_ok-found.ensures.bound;
      floor = omega arith;
    }

-- the set or the numbers of the way are below the count of concepts
pub with_pairs_by-requires-clause-path : goal.with_pairs_by-requires-clause-path
with_pairs_by-requires-clause-path g c = c.in_ok-path.ensures.path.below

-- the types whose rows the way reads are those in the set
pub with_pairs_by-requires-clause-ids : goal.with_pairs_by-requires-clause-ids
with_pairs_by-requires-clause-ids g c = c.in_ok-path.ensures.path.types
