use Rattle.std.proofs.Common.{rules, arith, List, map, subst, sym}
use Rattle.std.proofs.lemmas.Grind.{common_steps}
use Rattle.ecl_lexer.specs.Tokens.{AreTokensOf, spelled}
use Rattle.std.proofs.Common.{Err}
use Rattle.ecl_lexer.specs.declared.token.Token.{Token}
use Rattle.ecl_parser.proofs.ParseLemmas.{right_of_fault, right_of_tokens, right_only, right_whole}
use Rattle.ecl_parser.proofs.text.parse.Goals as goal

-- if the lexer fails on a text that is a constraint, memory ran out
pub returns-in-Err-clause-whole : goal.returns-in-Err-clause-whole
returns-in-Err-clause-whole c =
    right_whole c.args.text.now (Err c.in-Err.fault)
    (right_of_fault c.args.text.now c.in-Err.fault c.in-Err.ensures.fault)

-- if the lexer fails on a refused text, it fails with the text's refusal, or memory ran out
pub returns-in-Err-clause-only : goal.returns-in-Err-clause-only
returns-in-Err-clause-only c =
    right_only c.args.text.now (Err c.in-Err.fault)
    (right_of_fault c.args.text.now c.in-Err.fault c.in-Err.ensures.fault)

-- `tree` answers a text that is a constraint with that constraint, or memory ran out
pub returns-clause-whole : goal.returns-clause-whole
returns-clause-whole c =
    let are : AreTokensOf c.args.text.now (map spelled c.as_slice.result.now) =
    subst (λ (tokens : List Token). AreTokensOf c.args.text.now (map spelled tokens)) (sym c.as_slice.ensures.value)
    c.in-Ok.ensures.found in
    right_whole c.args.text.now c.tree.result
    (right_of_tokens c.args.text.now (map spelled c.as_slice.result.now) c.tree.result c.in-Ok.ensures.readable are
    c.tree.ensures.shallow c.tree.ensures.found c.tree.ensures.fault)

-- `tree` answers a refused text with its refusal, or memory ran out
pub returns-clause-only : goal.returns-clause-only
returns-clause-only c =
    let are : AreTokensOf c.args.text.now (map spelled c.as_slice.result.now) =
    subst (λ (tokens : List Token). AreTokensOf c.args.text.now (map spelled tokens)) (sym c.as_slice.ensures.value)
    c.in-Ok.ensures.found in
    right_only c.args.text.now c.tree.result
    (right_of_tokens c.args.text.now (map spelled c.as_slice.result.now) c.tree.result c.in-Ok.ensures.readable are
    c.tree.ensures.shallow c.tree.ensures.found c.tree.ensures.fault)

-- if `parse` returns a constraint, the text is that constraint
pub returns-clause-found : goal.returns-clause-found
returns-clause-found c = search rules

-- if `parse` returns a fault, it is the text's refusal, or memory ran out
pub returns-clause-fault : goal.returns-clause-fault
returns-clause-fault c = search rules

-- memory runs out only for a text that begins with a token
pub returns-clause-memory : goal.returns-clause-memory
returns-clause-memory c = grind (arith, common_steps)
