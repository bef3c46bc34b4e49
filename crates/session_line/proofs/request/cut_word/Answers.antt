use Rattle.session_line.proofs.RequestLemmas.{cut_at, not_cut}
use Rattle.session_line.proofs.request.cut_word.Goals as goal

-- a text with a space is cut at the first space
pub returns-in-Some : goal.returns-in-Some
returns-in-Some c =
    let found = c.in-Some.ensures in
    cut_at c.args.text.now c.in-Some.at found.0.high found.0.before found.1

-- a text without a space is not cut
pub returns-in-None : goal.returns-in-None
returns-in-None c = not_cut c.args.text.now c.in-None.ensures
