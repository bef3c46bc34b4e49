use Rattle.std.proofs.Common.{List, ℕ, Bool, ◌≡◌, ◌∙◌, ap, subst}
use Rattle.std.specs.Prelude.{filter}
use Rattle.constraint_tree.specs.Denotation.{is_value}
use Rattle.postings.specs.Indexed.{types_of}
use Rattle.pair_sets.specs.declared.choice.ValuesPath.{ValuesPath}
use Rattle.candidates.specs.Numbers.{is_one_of, numbers_in}
use Rattle.pair_sets.specs.inside.AccessPaths.{IsValuesPath}
use Rattle.pair_sets.proofs.leaves.values_by.Goals as goal

-- the sources whose rows are read are all of the set
pub returns-in_ok-found-in-BySource-clause-items : goal.returns-in_ok-found-in-BySource-clause-items
returns-in_ok-found-in-BySource-clause-items g c =
    let release = c.args.reader.snapshot.now.release in
    let concepts = c.args.reader.indexes.now.concepts in
    let one : ℕ → Bool = is_one_of concepts (g.S.ConceptSet.items_of c.args.types.now) in
    let items : List ℕ = g.S.ConceptSet.items_of c.args.sources in
    let same : c.in-BySource.own.items ≡ items =
    subst (λ (path : ValuesPath). IsValuesPath (types_of c.args.reader.indexes.now.rows) items one path)
    c.in-BySource.is
    c.requires.path in
    c.in_ok-found-in-BySource.ensures.items
    ∙ ap (λ (own : List ℕ). numbers_in release (is_value release (is_one_of concepts own) one))
    (c.as_slice.ensures.value ∙ same)

-- the types whose rows are read are all of the set
pub returns-in_ok-found-in-ByType-clause-items : goal.returns-in_ok-found-in-ByType-clause-items
returns-in_ok-found-in-ByType-clause-items g c =
    let one : ℕ → Bool = is_one_of c.args.reader.indexes.now.concepts (g.S.ConceptSet.items_of c.args.types.now) in
    let types : List ℕ = types_of c.args.reader.indexes.now.rows in
    let same : c.in-ByType.ids.items ≡ filter one types =
    subst (λ (path : ValuesPath). IsValuesPath types (g.S.ConceptSet.items_of c.args.sources) one path) c.in-ByType.is
    c.requires.path in
    c.in_ok-found-in-ByType.ensures.items one (c.as_slice-in-ByType.ensures.value ∙ same)
