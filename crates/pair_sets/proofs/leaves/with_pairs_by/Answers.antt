use Rattle.std.proofs.Common.{ℕ, Bool, List, ◌≡◌, ◌∙◌, sym, ap, subst}
use Rattle.std.specs.Prelude.{filter}
use Rattle.constraint_tree.specs.Passing.{is_within}
use Rattle.set_algebra.specs.Meaning.{has_pairs, pairs_of}
use Rattle.candidates.specs.Numbers.{is_one_of, numbers_in}
use Rattle.pair_sets.specs.Tested.{passes_of}
use Rattle.postings.specs.Indexed.{types_of}
use Rattle.pair_sets.specs.inside.AccessPaths.{HasTypes, passes_by}
use Rattle.candidates.specs.Within.{may_be, numbers_within}
use Rattle.pair_sets.specs.declared.access_paths.AccessPath.{AccessPath}
use Rattle.candidates.proofs.WithinLemmas.{kept_set}
use Rattle.pair_sets.proofs.leaves.with_pairs_by.Goals as goal

-- the concepts that are found by the rows of the candidates are the candidates whose number of matching pairs lies in
-- `count`
pub returns-in_ok-found-in-ByCandidates-clause-items : goal.returns-in_ok-found-in-ByCandidates-clause-items
returns-in_ok-found-in-ByCandidates-clause-items g c =
    let release = c.args.reader.snapshot.now.release in
    let concepts = c.args.reader.indexes.now.concepts in
    let one : ℕ → Bool = is_one_of concepts (g.S.ConceptSet.items_of c.args.types.now) in
    let may : ℕ → Bool = may_be g.S.ConceptSet.items_of c.args.candidates.now in
    c.in_ok-found-in-ByCandidates.ensures.items
    ∙ ap (λ (path : AccessPath _). numbers_within release may
    (λ concept. has_pairs c.args.count one (passes_by g.S.ConceptSet.items_of concepts path)
    (pairs_of release c.args.back concept)))
    (sym c.in-ByCandidates.is)

-- the candidates among the concepts that are found by value are the candidates whose number of matching pairs lies in
-- `count`
pub returns-in_ok-found-in-ByValue-clause-items : goal.returns-in_ok-found-in-ByValue-clause-items
returns-in_ok-found-in-ByValue-clause-items g c =
    let release = c.args.reader.snapshot.now.release in
    let concepts = c.args.reader.indexes.now.concepts in
    let one : ℕ → Bool = is_one_of concepts (g.S.ConceptSet.items_of c.args.types.now) in
    let may : ℕ → Bool = may_be g.S.ConceptSet.items_of c.args.candidates.now in
    kept_set release may
    (λ concept. has_pairs c.args.count one (is_within (is_one_of concepts c.in-ByValue.values.items))
    (pairs_of release c.args.back concept))
    (g.S.ConceptSet.items_of c.in_ok-some-in-ByValue.some) (g.S.ConceptSet.items_of c.in_ok-found-in-ByValue.found)
    (c.in_ok-some-in-ByValue.ensures.items
    ∙ ap (λ (values : List ℕ). numbers_in release
    (λ concept. has_pairs c.args.count one (is_within (is_one_of concepts values))
    (pairs_of release c.args.back concept)))
    c.deref.ensures.value)
    c.in_ok-found-in-ByValue.ensures.items
    ∙ ap (λ (path : AccessPath _). numbers_within release may
    (λ concept. has_pairs c.args.count one (passes_by g.S.ConceptSet.items_of concepts path)
    (pairs_of release c.args.back concept)))
    (sym c.in-ByValue.is)

-- the candidates among the concepts that are found by type are the candidates whose number of matching pairs lies in
-- `count`
pub returns-in_ok-found-in-ByType-clause-items : goal.returns-in_ok-found-in-ByType-clause-items
returns-in_ok-found-in-ByType-clause-items g c =
    let release = c.args.reader.snapshot.now.release in
    let concepts = c.args.reader.indexes.now.concepts in
    let one : ℕ → Bool = is_one_of concepts (g.S.ConceptSet.items_of c.args.types.now) in
    let may : ℕ → Bool = may_be g.S.ConceptSet.items_of c.args.candidates.now in
    let ids : c.deref-in-ByType.result.now ≡ filter one (types_of c.args.reader.indexes.now.rows) =
    c.deref-in-ByType.ensures.value
    ∙ subst (λ (path : AccessPath _). HasTypes (types_of c.args.reader.indexes.now.rows) one path) c.in-ByType.is
    c.requires.ids in
    let passes = passes_of g.S.ConceptSet.items_of concepts c.in-ByType.tested in
    kept_set release may (λ concept. has_pairs c.args.count one passes (pairs_of release c.args.back concept))
    (g.S.ConceptSet.items_of c.in_ok-some-in-ByType.some) (g.S.ConceptSet.items_of c.in_ok-found-in-ByType.found)
    (c.in_ok-some-in-ByType.ensures.items one ids)
    c.in_ok-found-in-ByType.ensures.items
    ∙ ap (λ (path : AccessPath _). numbers_within release may
    (λ concept. has_pairs c.args.count one (passes_by g.S.ConceptSet.items_of concepts path)
    (pairs_of release c.args.back concept)))
    (sym c.in-ByType.is)

-- a scan takes all concepts for candidates, so it finds each concept whose number of matching pairs lies in `count`
pub returns-in_ok-found-in-Scan-clause-items : goal.returns-in_ok-found-in-Scan-clause-items
returns-in_ok-found-in-Scan-clause-items g c =
    let release = c.args.reader.snapshot.now.release in
    let concepts = c.args.reader.indexes.now.concepts in
    let one : ℕ → Bool = is_one_of concepts (g.S.ConceptSet.items_of c.args.types.now) in
    let may : ℕ → Bool = may_be g.S.ConceptSet.items_of c.args.candidates.now in
    let passes = passes_of g.S.ConceptSet.items_of concepts c.in-Scan.tested in
    kept_set release may (λ concept. has_pairs c.args.count one passes (pairs_of release c.args.back concept))
    (g.S.ConceptSet.items_of c.in_ok-some-in-Scan.some) (g.S.ConceptSet.items_of c.in_ok-found-in-Scan.found)
    c.in_ok-some-in-Scan.ensures.items
    c.in_ok-found-in-Scan.ensures.items
    ∙ ap (λ (path : AccessPath _). numbers_within release may
    (λ concept. has_pairs c.args.count one (passes_by g.S.ConceptSet.items_of concepts path)
    (pairs_of release c.args.back concept)))
    (sym c.in-Scan.is)
