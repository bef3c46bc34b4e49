use Rattle.std.proofs.Common.{◌≡◌, not, take}
use Rattle.std.specs.Prelude.{filter}
use Rattle.number_lists.specs.Members.{has}
use Rattle.walks.proofs.walks.kept_outside.Given as goal

-- `kept` are the concepts so far that are not in the set
abbrev pub invariant-loop-concept : goal.invariant-loop-concept
invariant-loop-concept g l =
    l.kept.items ≡ filter (λ concept. not (has (g.S.ConceptSet.items_of l.set) concept))
    (take l.concept-index l.concepts)
