use Rattle.std.proofs.Common.{◌≡◌, false, sym, subst}
use Rattle.std.specs.Prelude.{All}
use Rattle.release_model.specs.Release.{Attribute}
use Rattle.pair_sets.specs.Tested.{passes_of}
use Rattle.pair_sets.specs.declared.tested.Tested.{Tested}
use Rattle.pair_sets.proofs.VainLemmas.{no_row_passes}
use Rattle.pair_sets.proofs.passing.none_passes.Goals as goal

-- if none of the decimals meets the comparison, the value of no row passes
pub returns-then-from-rows : goal.returns-then-from-rows
returns-then-from-rows g c none =
    let indexed = c.args.reader.indexes.now in
    subst (λ (tested : Tested _). All (λ (row : Attribute).
    passes_of g.S.ConceptSet.items_of indexed.concepts tested row.value ≡ false) indexed.rows) (sym c.in-Number.is)
    (no_row_passes c.in-Number.compare c.in-Number.number.0 c.args.reader.snapshot.now.release indexed
    c.args.reader.index (c.none_meets.ensures none))
