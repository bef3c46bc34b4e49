use Rattle.std.proofs.Common.{refl, inl}
use Rattle.hierarchy.proofs.SearchLemmas.{marked-from_followed}
use Rattle.hierarchy.proofs.cycle.is_reached_at_last.Goals as goal

-- after all rows are followed, the concept is marked exactly if it reaches itself
pub returns : goal.returns
returns c = (
  c.climb_to_end.ensures.reached (c.climb_in.ensures (λ concept marked. absurd (c.requires.none concept marked)))
      c.args.concept,
  marked-from_followed c.args.concept c.climb_to_end.new.reached c.climb_to_end.ensures.followed (inl refl),
)
