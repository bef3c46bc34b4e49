use Rattle.std.proofs.Common.{◌≡◌, ◌++◌, take}
use Rattle.postings.specs.inside.Coded.{source_marks}
use Rattle.postings.specs.inside.PairKeys.{pair_keys}
use Rattle.postings.proofs.PairKeyLemmas.{HaveShort}
use Rattle.postings.proofs.groups.push_sources.Given as goal

-- `seen` has the keys of the rows so far, and `sources` has got the marks of these rows
abbrev pub invariant-loop-row : goal.invariant-loop-row
invariant-loop-row l = record {
  short : HaveShort (take l.row-index l.rows);
  seen : l.seen ≡ pair_keys (take l.row-index l.rows);
  marks : l.sources.items ≡ l.fn.sources.items ++ source_marks (take l.row-index l.rows);
}
