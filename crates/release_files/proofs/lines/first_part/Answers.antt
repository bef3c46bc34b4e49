-- The first part ends at the first line feed.
use Rattle.std.proofs.Common.{arith, add-one}
use Rattle.release_files.proofs.Parts.{parts_first, parts_last}
use Rattle.release_files.proofs.lines.first_part.Goals as goal

-- the bytes up to the first line feed, with it, are the first part
pub returns-in-Some-clause-parts : goal.returns-in-Some-clause-parts
returns-in-Some-clause-parts c =
    let found = c.in-Some.ensures in
    let cut = parts_first c.args.bytes.now c.in-Some.at found.0.high (λ k below. found.0.before k (omega arith) below)
    found.1 in
    rw (c.split_at.ensures.front, c.split_at.ensures.back, add-one) cut

-- bytes without a line feed are one part
pub returns-in-None-clause-parts : goal.returns-in-None-clause-parts
returns-in-None-clause-parts c =
    parts_last c.args.bytes.now c.requires (λ k below. c.in-None.ensures k (omega arith) below)
