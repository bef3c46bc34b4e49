use Rattle.std.proofs.Common.{◌≡◌, ◌-◌}
use Rattle.postings.specs.inside.Coded.{AreRowMarks, groups_ahead}
use Rattle.postings.proofs.SourceRangeLemmas.{from_source}
use Rattle.postings.proofs.groups.marks_in.Given as goal

-- the marks are those of the sources so far, `ahead` is the number of their groups, and the rows of the other sources
-- are left
abbrev pub invariant-loop-source : goal.invariant-loop-source
invariant-loop-source l = record {
  marks : AreRowMarks l.source l.rows l.marks;
  ahead : l.ahead ≡ groups_ahead l.rows l.source;
  left : l.left ≡ from_source l.rows l.source (l.count - l.source);
}
