use Rattle.std.proofs.Common.{◌≡◌, length, take}
use Rattle.release_rows.proofs.VersionLemmas.{AreLatest}
use Rattle.release_rows.proofs.versions.find_latest.Given as goal

-- `latest` keeps its length, and has the greatest codes of the first `number` versions
abbrev pub invariant-loop-number : goal.invariant-loop-number
invariant-loop-number l =
    (length l.latest.items ≡ length l.fn.latest.items) × AreLatest l.latest.items (take l.number l.versions)
