use Rattle.std.proofs.Common.{List, ◌≡◌, ◌≤◌, ◌&&◌, take}
use Rattle.std.specs.Prelude.{count_by}
use Rattle.postings.specs.Columns.{AreSources, AreTypes}
use Rattle.postings.specs.Entries.{Entry}
use Rattle.postings.specs.Indexed.{types_of}
use Rattle.pair_sets.specs.inside.Hits.{has_source_in}
use Rattle.candidates.specs.Numbers.{is_one_of}
use Rattle.pair_sets.specs.Tested.{passes_of}
use Rattle.pair_sets.proofs.among.back_pairs_among.Given as goal

-- `pairs` is how many of the rows so far count
abbrev pub invariant-loop-place : goal.invariant-loop-place
invariant-loop-place g l = record {
  few : l.pairs ≤ l.place;
  pairs : (entries : List Entry) → AreSources l.reader.indexes.now.concepts entries l.sources
      → AreTypes (types_of l.reader.indexes.now.rows) entries l.cells
      → l.pairs ≡ count_by (λ (entry : Entry). entry.is_first
      && has_source_in (is_one_of l.reader.indexes.now.concepts (g.S.ConceptSet.items_of l.types))
      (passes_of g.S.ConceptSet.items_of l.reader.indexes.now.concepts l.tested) entry.row) (take l.place entries);
}
