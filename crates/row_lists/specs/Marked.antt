-- The items of a list that are marked.
use Rattle.std.specs.Prelude.{Bool, if◌then◌else◌, List, [], ◌∷◌}

-- the items of a list whose marks are true
abbrev pub marked : {X : Type 0} → List Bool → List X → List X
marked (mark ∷ marks) (item ∷ items) =
    if mark then item ∷ marked marks items else marked marks items
marked _ _ = []
