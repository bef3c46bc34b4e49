-- What `with_empty_list` has kept.
use Rattle.std.specs.Prelude.{◌≡◌}
use Rattle.number_lists.specs.Rising.{numbers_where}
use Rattle.walks.specs.Families.{lists_of}
use Rattle.walks.specs.inside.Steps.{has_length}
use Rattle.walks.proofs.related.with_empty_list.Given as goal

-- `kept` are the numbers below `concept` whose lists are empty or not, as `empty` says
abbrev pub invariant-loop-concept : goal.invariant-loop-concept
invariant-loop-concept l =
    l.kept.items ≡ numbers_where l.concept (has_length (lists_of l.reader.indexes.now.hierarchy l.family) l.empty)
