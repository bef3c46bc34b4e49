use Rattle.std.proofs.Common.{◌≡◌, codes}
use Rattle.std.proofs.lemmas.Result.{IfOk-weaker}
use Rattle.clap.specs.Words.{app_of}
use Rattle.command_line.specs.CommandLine.{HasOwnArguments, lang_rule, no_names_rule, number_rule, query_command}
use Rattle.command_line.proofs.WordLemmas.{own_added, rule_added}
use Rattle.command_line.proofs.words.query_command.Goals as goal

-- the command `query` has the folders and its four options
pub returns-clause-shape : goal.returns-clause-shape
returns-clause-shape c =
    let lang = rule_added _ _ c.in_ok-with_lang.with_lang c.in_ok-with_lang.ensures c.lang_argument.ensures.own
    _ lang_rule c.lang_argument.ensures.rule c.in_ok-with_folder.ensures.shape in
    let limit = rule_added _ _ c.in_ok-with_limit.with_limit c.in_ok-with_limit.ensures c.number_argument.ensures.own
    _ (number_rule (codes "limit")) c.number_argument.ensures.rule lang in
    let first = rule_added _ _ c.in_ok-with_first.with_first c.in_ok-with_first.ensures c.number_argument-2.ensures.own
    _ (number_rule (codes "first")) c.number_argument-2.ensures.rule limit in
    IfOk-weaker c.arg-4.result _ (λ command. app_of command ≡ query_command)
    (λ command adds. rule_added _ _ command adds c.no_names_argument.ensures.own
    _ no_names_rule c.no_names_argument.ensures.rule first) c.arg-4.ensures

-- no argument of `query` is shared with its commands
pub returns-clause-own : goal.returns-clause-own
returns-clause-own c =
    let lang = own_added _ _ c.in_ok-with_lang.with_lang c.in_ok-with_lang.ensures c.lang_argument.ensures.own
    c.in_ok-with_folder.ensures.own in
    let limit = own_added _ _ c.in_ok-with_limit.with_limit c.in_ok-with_limit.ensures
    c.number_argument.ensures.own lang in
    let first = own_added _ _ c.in_ok-with_first.with_first c.in_ok-with_first.ensures
    c.number_argument-2.ensures.own limit in
    IfOk-weaker c.arg-4.result _ HasOwnArguments
    (λ command adds. own_added _ _ command adds c.no_names_argument.ensures.own first) c.arg-4.ensures
