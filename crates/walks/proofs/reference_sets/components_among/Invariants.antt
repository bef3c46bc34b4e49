use Rattle.std.proofs.Common.{◌≡◌, take}
use Rattle.std.specs.Prelude.{filter}
use Rattle.walks.specs.inside.Components.{is_in_one_of}
use Rattle.walks.proofs.reference_sets.components_among.Given as goal

-- `kept` are the components among the concepts so far
abbrev pub invariant-loop-concept : goal.invariant-loop-concept
invariant-loop-concept l =
    l.kept.items ≡ filter (is_in_one_of l.reader.indexes.now.members l.refsets) (take l.concept-index l.concepts)
