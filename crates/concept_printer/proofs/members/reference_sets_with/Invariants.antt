use Rattle.std.proofs.Common.{◌≡◌, ℕ, take}
use Rattle.std.specs.List.{filter}
use Rattle.number_lists.specs.KeyedLists.{list_of}
use Rattle.number_lists.specs.Members.{has}
use Rattle.postings.specs.Indexed.{reference_sets_of}
use Rattle.concept_printer.proofs.members.reference_sets_with.Given as goal

-- the reference sets so far that have the component are kept
abbrev pub invariant-loop-set : goal.invariant-loop-set
invariant-loop-set l =
    l.sets.items
    ≡ filter (λ (set : ℕ). has (list_of l.indexes.members set) l.component)
    (take l.set-index (reference_sets_of l.indexes))
