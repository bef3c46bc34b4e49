use Rattle.std.proofs.lemmas.Bool.{and_parts}
use Rattle.rf2_rows.proofs.Words.{same_identifier}
use Rattle.rf2_rows.proofs.recent.is_same_identifier.Goals as goal

-- two texts of 18 bytes are equal if their three words are
pub returns : goal.returns
returns c = λ same.
    let front = and_parts _ _ (and_parts _ _ same).0 in
    same_identifier c.args.one.now c.args.other.now c.requires.one c.requires.other
    (c.is_same_word-first.ensures front.0) (c.is_same_word-second.ensures front.1)
    (c.is_same_word-last.ensures (and_parts _ _ same).1)
