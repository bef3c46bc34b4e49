use Rattle.std.proofs.Common.{rules, map}
use Rattle.ecl_lexer.specs.Tokens.{IsReadable, placed, spelled}
use Rattle.ecl_lexer.proofs.AnswerLemmas.{answer-FollowOn, only_fault, only_tokens}
use Rattle.ecl_lexer.proofs.lexer.lex.Goals as goal

-- a text with a refusal is answered by that refusal or by `Memory`
pub returns-clause-only : goal.returns-clause-only
returns-clause-only c =
    let readable : IsReadable c.args.text.now = search rules in
    only_fault c.args.text.now (λ tokens. map spelled tokens.items) readable c.cut.result c.cut.ensures.found
    c.cut.ensures.fault

-- a readable text with tokens is answered by tokens or by `Memory`
pub returns-clause-whole : goal.returns-clause-whole
returns-clause-whole c =
    λ tokens readable is. only_tokens c.args.text.now
    (λ tokens. map spelled tokens.items) readable c.cut.result c.cut.ensures.fault tokens is

-- the placed tokens of an answer follow on from the beginning of the text
pub returns-clause-spans : goal.returns-clause-spans
returns-clause-spans c =
    answer-FollowOn c.args.text.now (λ tokens. map placed tokens.items) c.cut.result c.cut.ensures.places
