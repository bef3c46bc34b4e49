use Rattle.std.proofs.Common.{◌≡◌, ◌++◌, ◌&&◌, length, ltb, take}
use Rattle.pair_sets.specs.inside.Hits.{value_of, picked}
use Rattle.pair_sets.specs.Tested.{passes_of}
use Rattle.pair_sets.proofs.hits.push_cells.Given as goal

-- the cells that pass of the places so far are pushed
abbrev pub invariant-loop-place : goal.invariant-loop-place
invariant-loop-place g l =
    l.hits.items
    ≡ l.fn.hits.items
    ++ picked (λ mark cell. ltb cell (length l.reader.indexes.now.concepts)
    && (mark.is_first && passes_of g.S.ConceptSet.items_of l.reader.indexes.now.concepts l.tested
    (value_of l.reader.indexes.now mark.number))) (λ mark cell. cell)
    (take l.place l.marks) (take l.place l.cells)
