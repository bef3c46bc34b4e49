use Rattle.std.proofs.Common.{◌≡◌}
use Rattle.number_lists.specs.Rising.{numbers_where}
use Rattle.postings.specs.Indexed.{has_members}
use Rattle.postings.proofs.index.with_members.Given as goal

-- `concepts` has the concepts so far that have members
abbrev pub invariant-loop-concept : goal.invariant-loop-concept
invariant-loop-concept l = l.concepts.items ≡ numbers_where l.concept (has_members l.members)
