use Rattle.std.proofs.Common.{ℕ, ◌-◌, ◌≡◌, ◌≤◌, ◌<◌, get_or, length}
use Rattle.held_release.specs.declared.coded_rows.CodedRow.{CodedRow}
use Rattle.postings.proofs.groups.split_source.Given as goal

-- the rows before `end` have the source
abbrev pub invariant-loop-end : goal.invariant-loop-end
invariant-loop-end l = record {
  within : l.end ≤ length l.rows;
  own : (k : ℕ) (d : CodedRow) → k < l.end → (get_or l.rows k d).source ≡ l.source;
}

-- how many rows are left, which gets less with each turn
abbrev pub decreases-loop-end : goal.decreases-loop-end
decreases-loop-end l = length l.rows - l.end
