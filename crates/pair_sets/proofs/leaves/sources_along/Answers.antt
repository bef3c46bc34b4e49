use Rattle.std.proofs.Common.{ℕ, Bool, List, None, ◌∙◌, length, ap, arith}
use Rattle.constraint_tree.specs.Passing.{is_outside}
use Rattle.release_model.specs.Pairs.{out_pairs}
use Rattle.set_algebra.specs.Meaning.{has_pairs}
use Rattle.candidates.specs.Numbers.{is_one_of, numbers_in}
use Rattle.pair_sets.proofs.SourceLemmas.{few_sources, some_pair_is_source}
use Rattle.pair_sets.proofs.leaves.sources_along.Goals as goal

-- the concepts with a pair along the types whose value is outside the empty set are the sources
pub returns-clause-items : goal.returns-clause-items
returns-clause-items g c =
    let release = c.args.reader.snapshot.now.release in
    let concepts = c.args.reader.indexes.now.concepts in
    let one : ℕ → Bool = is_one_of concepts (g.S.ConceptSet.items_of c.args.types.now) in
    c.in_ok-found.ensures.items one (c.as_slice.ensures.value ∙ c.in_ok-ids.ensures.ids)
    ∙ ap (λ (none : List ℕ). numbers_in release (λ concept. has_pairs (record { min = 1; max = None }) one
    (is_outside (is_one_of concepts none)) (out_pairs release concept))) c.in_ok-none.ensures.items
    ∙ some_pair_is_source release one

-- each source has a row with one of the types, and no row has two sources
pub returns-clause-few : goal.returns-clause-few
returns-clause-few g c =
    let indexed = c.args.reader.indexes.now in
    omega (
      arith,
      ap (λ (items : List ℕ). length items) (returns-clause-items g c),
      few_sources indexed c.args.reader.snapshot.now.release c.args.reader.index
          c.concept_count-count.ensures.rising
          (is_one_of indexed.concepts (g.S.ConceptSet.items_of c.args.types.now)),
    )
