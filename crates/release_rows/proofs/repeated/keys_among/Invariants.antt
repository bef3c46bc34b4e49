use Rattle.std.proofs.Common.{◌≡◌, take, filter}
use Rattle.number_lists.specs.Members.{has}
use Rattle.release_rows.proofs.repeated.keys_among.Given as goal

-- `others` stays the same, and the list has those of the keys so far that are in `others`
abbrev pub invariant-loop-key : goal.invariant-loop-key
invariant-loop-key l = record {
  others : l.others ≡ l.fn.others;
  among : l.among.items ≡ filter (has l.fn.others) (take l.key-index l.keys);
}
