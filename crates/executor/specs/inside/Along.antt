-- What executing the start of dotted attributes, and going along their first name, promises.
use Rattle.std.specs.Prelude.{ℕ, ◌+◌, List, length}
use Rattle.release_model.specs.Release.{Release}
use Rattle.idset.specs.declared.concept_set.ConceptSet.{Ghosts}
use Rattle.constraint_tree.specs.Denotation.{is_value}
use Rattle.postings.specs.Indexed.{Indexed}
use Rattle.set_algebra.specs.Meaning.{means}
use Rattle.set_algebra.specs.Physical.{Physical, logical}
use Rattle.plan_bounds.specs.Bounds.{own_number}
use Rattle.plan_bounds.specs.Floors.{floor_number}
use Rattle.plan_bounds.specs.Nodes.{node_sum}
use Rattle.plan_bounds.specs.Sizes.{size}
use Rattle.candidates.specs.Numbers.{is_one_of, numbers_in}
use Rattle.reading.specs.Counted.{CountsWithin, IsFound}
use Rattle.reading.specs.declared.counter.Counter.{Counter}

-- a start and the values along one name count at most the bound of the start, its size, and all
-- rows
abbrev pub CountsAlong : Indexed → Physical → Counter → Counter → Type 0
CountsAlong indexed start = CountsWithin
    (node_sum (own_number indexed) start + (size indexed start + length indexed.rows))

-- an answer has the values, along the types with the numbers `types`, of what a start means, and at
-- least the floor of the start is counted
abbrev pub AnswersAlong : {S : Type 0} → Ghosts S → Release → Indexed → Physical → List ℕ → Counter
    → Counter → S → Type 0
AnswersAlong sets release indexed start types =
    IsFound sets (length release.concepts)
    (numbers_in release
    (is_value release (means release (logical start)) (is_one_of indexed.concepts types)))
    (node_sum (floor_number indexed) start)
