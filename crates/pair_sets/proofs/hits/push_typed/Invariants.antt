use Rattle.std.proofs.Common.{◌≡◌, ◌++◌, ◌&&◌, take}
use Rattle.pair_sets.specs.inside.Hits.{is_type_in, picked}
use Rattle.pair_sets.proofs.hits.push_typed.Given as goal

-- the numbers of the marks whose type is in the set, of the places so far, are pushed
abbrev pub invariant-loop-place : goal.invariant-loop-place
invariant-loop-place g l =
    l.hits.items
    ≡ l.fn.hits.items
    ++ picked (λ mark cell. mark.is_first && is_type_in l.reader.indexes.now (g.S.ConceptSet.items_of l.types) cell)
    (λ mark cell. mark.number)
    (take l.place l.marks) (take l.place l.cells)
