use Rattle.std.proofs.Common.{ℕ, List, ◌∙◌, arith, ap}
use Rattle.std.proofs.lemmas.List.{take_all}
use Rattle.walks.specs.inside.Components.{is_in_one_of}
use Rattle.walks.proofs.reference_sets.is_component.Goals as goal

-- after the last reference set, `found` says whether the concept is a component of one of all
pub returns : goal.returns
returns c =
    c.loop-refset.invariant
    ∙ ap (λ (refsets : List ℕ). is_in_one_of c.args.reader.indexes.now.members refsets c.args.concept)
    (take_all c.loop-refset.refset-index c.args.refsets.now (omega arith))
