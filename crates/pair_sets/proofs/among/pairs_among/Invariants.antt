use Rattle.std.proofs.Common.{◌≡◌, ◌≤◌, take}
use Rattle.pair_sets.specs.inside.Among.{pairs_among}
use Rattle.candidates.specs.Numbers.{is_one_of}
use Rattle.pair_sets.specs.Tested.{passes_of}
use Rattle.pair_sets.proofs.among.pairs_among.Given as goal

-- `pairs` is how many of the rows so far count
abbrev pub invariant-loop-n : goal.invariant-loop-n
invariant-loop-n g l = record {
  few : l.pairs ≤ l.n-index;
  pairs : l.pairs ≡ pairs_among l.reader.indexes.now l.grouped
      (is_one_of l.reader.indexes.now.concepts (g.S.ConceptSet.items_of l.types))
      (passes_of g.S.ConceptSet.items_of l.reader.indexes.now.concepts l.tested) (take l.n-index l.rows);
}
