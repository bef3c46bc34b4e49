use Rattle.std.proofs.Common.{◌≡◌, ◌++◌, ◌&&◌, take}
use Rattle.pair_sets.specs.inside.Hits.{value_of, picked}
use Rattle.pair_sets.specs.Tested.{passes_of}
use Rattle.pair_sets.proofs.hits.push_passing.Given as goal

-- the numbers of the marks whose value passes, of the places so far, are pushed
abbrev pub invariant-loop-place : goal.invariant-loop-place
invariant-loop-place g l =
    l.hits.items
    ≡ l.fn.hits.items
    ++ picked (λ mark cell. mark.is_first && passes_of g.S.ConceptSet.items_of l.reader.indexes.now.concepts l.tested
    (value_of l.reader.indexes.now cell)) (λ mark cell. mark.number)
    (take l.place l.marks) (take l.place l.cells)
