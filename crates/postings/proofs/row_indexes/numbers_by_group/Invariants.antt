-- The numbers of the groups of the rows so far.
use Rattle.std.proofs.Common.{◌≡◌, vec_len}
use Rattle.postings.proofs.KeptLemmas.{AreNumbered}
use Rattle.postings.proofs.row_indexes.numbers_by_group.Given as goal

-- there is a group number for each group, and the groups of the rows so far have theirs
abbrev pub invariant-loop-place : goal.invariant-loop-place
invariant-loop-place l = record {
  len : vec_len l.numbers ≡ l.count;
  numbers : AreNumbered l.marks l.rows l.place l.numbers.items;
}
