use Rattle.std.proofs.Common.{◌≡◌, length, get_or}
use Rattle.number_lists.specs.Rising.{numbers_where}
use Rattle.idset.specs.Words.{is_set}
use Rattle.walks.specs.inside.Joined.{direct_of, turn_of}
use Rattle.walks.specs.Families.{lists_of}
use Rattle.walks.proofs.ReachedLemmas.{IsPassed}
use Rattle.walks.proofs.reached.reached.Given as goal

-- `found` is what the pass has found before the turn
abbrev pub invariant-loop-turn : goal.invariant-loop-turn
invariant-loop-turn g l = record {
  passed : IsPassed (lists_of l.reader.indexes.now.hierarchy l.family)
      (lists_of l.reader.indexes.now.hierarchy (direct_of l.family))
      (λ turn. get_or l.order (turn_of l.family (length l.order) turn) 0) l.turn
      (g.S.ConceptSet.items_of l.set) (numbers_where l.found.bound (is_set l.found.words.items));
  bound : l.found.bound ≡ g.S.ConceptSet.bound_of l.set;
}
