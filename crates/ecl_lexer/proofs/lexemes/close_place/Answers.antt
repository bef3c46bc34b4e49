use Rattle.ecl_lexer.proofs.CommentLemmas.{close_place-is}
use Rattle.ecl_lexer.proofs.lexemes.close_place.Goals as goal

-- the search of the code finds the first `*/`, as `close_place` does
pub returns-clause-place : goal.returns-clause-place
returns-clause-place c = close_place-is c.args.text.now c.find.result c.find.ensures
