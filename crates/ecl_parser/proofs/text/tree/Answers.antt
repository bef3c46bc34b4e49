use Rattle.std.proofs.Common.{◌≡◌, ◌<◌, ◌≤◌, ◌∙◌, List, [], Some, ap, arith, length, subst}
use Rattle.std.proofs.lemmas.Bool.Decides.{nat_tests}
use Rattle.constraint_tree.specs.Tree.{tree_of}
use Rattle.ecl_lexer.specs.declared.fault.QueryFault.TheVariants.{Syntax}
use Rattle.ecl_lexer.specs.declared.token.Token.{Token}
use Rattle.ecl_parser.specs.inside.Gives.{Fails, symbols_from}
use Rattle.ecl_parser.specs.inside.Reading.{constraint_in, readers}
use Rattle.ecl_parser.proofs.ParseLemmas.{left_over, none_of_none, none_shallow, none_read, nothing_read, tree_found}
use Rattle.ecl_parser.proofs.text.tree.Goals as goal

-- an empty list of tokens is refused for its syntax
pub returns-then-is_empty-clause-fault : goal.returns-then-is_empty-clause-fault
returns-then-is_empty-clause-fault c =
    let zero_long : length c.args.tokens.now ≡ 0 = grind (arith, nat_tests) in
    let none : c.args.tokens.now ≡ [] = none_of_none c.args.tokens.now zero_long in
    none_read Syntax c.args.tokens.now (none_shallow c.args.tokens.now none)
    (ap (λ tokens. constraint_in (readers 64) (symbols_from tokens 0)) none ∙ nothing_read (readers 64))

-- a constraint that cannot be read refuses the tokens with its fault
pub returns-in-Err-constraint-clause-fault : goal.returns-in-Err-constraint-clause-fault
returns-in-Err-constraint-clause-fault c =
    let Failed : List Token → Type 0 = λ tokens.
    Fails c.in-Err-constraint.fault (constraint_in (readers 64) (symbols_from tokens 0)) in
    none_read c.in-Err-constraint.fault c.args.tokens.now c.in-Ok.ensures.shallow
    (subst Failed c.new-tokens.ensures c.in-Err-constraint.ensures)

-- tokens that are left after a constraint refuse the tokens for their syntax
pub returns-then-at-len-clause-fault : goal.returns-then-at-len-clause-fault
returns-then-at-len-clause-fault c =
    let at = c.constraint.new.at in
    let found = tree_of c.in-Ok-constraint.found in
    let Read : List Token → Type 0 = λ tokens.
    constraint_in (readers 64) (symbols_from tokens 0) ≡ Some (found, symbols_from tokens at) in
    let Fewer : List Token → Type 0 = λ tokens. at < length tokens in
    let fewer : at < length c.new-tokens.result = omega (arith, c.len.ensures) in
    left_over c.args.tokens.now at found c.in-Ok.ensures.shallow (subst Fewer c.new-tokens.ensures fewer)
    (subst Read c.new-tokens.ensures c.in-Ok-constraint.ensures)

-- the constraint that is read is the tree of the tokens
pub returns-clause-found : goal.returns-clause-found
returns-clause-found c =
    let at = c.constraint.new.at in
    let found = tree_of c.in-Ok-constraint.found in
    let Read : List Token → Type 0 = λ tokens.
    constraint_in (readers 64) (symbols_from tokens 0) ≡ Some (found, symbols_from tokens at) in
    let Enough : List Token → Type 0 = λ tokens. length tokens ≤ at in
    let enough : length c.new-tokens.result ≤ at = omega (arith, c.len.ensures) in
    tree_found c.args.tokens.now at found (subst Enough c.new-tokens.ensures enough)
    (subst Read c.new-tokens.ensures c.in-Ok-constraint.ensures)
