use Rattle.std.proofs.Common.{Err, sym}
use Rattle.number_lists.proofs.IncreasingLemmas.{has-searched}
use Rattle.release_rows.proofs.versions.code_of.Goals as goal

-- a key that binary search does not find is not repeated
pub returns-in-Err : goal.returns-in-Err
returns-in-Err c = λ row key time.
    sym (has-searched c.args.repeated.now c.requires.rising c.args.key (Err c.in-Err.field-0) c.in-Err.ensures.position)
