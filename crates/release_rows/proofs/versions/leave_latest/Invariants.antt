use Rattle.std.proofs.Common.{◌≡◌, length, take}
use Rattle.release_rows.proofs.VersionLemmas.{AreWithout, is_older_of}
use Rattle.release_rows.proofs.versions.leave_latest.Given as goal

-- the marks keep their number, and lack those of the outdated ones among the first `number` versions
abbrev pub invariant-loop-number : goal.invariant-loop-number
invariant-loop-number l =
    (length l.chosen.items ≡ length l.fn.chosen.items)
    × AreWithout l.chosen.items l.fn.chosen.items (is_older_of l.versions (take l.number l.versions))
