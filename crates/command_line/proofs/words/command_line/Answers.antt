use Rattle.std.proofs.Common.{ap, ◌≡◌, ◌∙◌, codes, Err, Ok, Result}
use Rattle.std.specs.Prelude.{IfOk, IsOkAnd}
use Rattle.std.specs.declared.alloc.AllocError.{AllocError}
use Rattle.std.proofs.lemmas.Result.{IfOk-weaker}
use Rattle.clap.specs.Words.{App, app_of, with_subcommand}
use Rattle.clap.specs.declared.builder.command.Command.{Command}
use Rattle.command_line.specs.CommandLine.{HasOwnArguments, bare_program, check_command, explain_command}
use Rattle.command_line.specs.CommandLine.{language_command, query_command}
use Rattle.command_line.proofs.words.command_line.Goals as goal

-- the program with one more command has this command and those before
one_more : (whole so_far own : App) (command : Result Command AllocError)
    → IsOkAnd command (λ own. HasOwnArguments own → whole ≡ with_subcommand so_far (app_of own).top)
    → IfOk command (λ command. app_of command ≡ own) → IfOk command HasOwnArguments
    → whole ≡ with_subcommand so_far own.top
one_more whole so_far own (Ok command) adds shape owns =
    adds owns ∙ ap (λ (app : App). with_subcommand so_far app.top) shape
one_more whole so_far own (Err refused) adds shape owns = absurd adds

-- the program has its five commands
pub returns : goal.returns
returns c =
    let named = app_of c.in_ok-named.named in
    let with_query = app_of c.in_ok-with_query.with_query in
    let with_explain = app_of c.in_ok-with_explain.with_explain in
    let with_describe = app_of c.in_ok-with_describe.with_describe in
    let with_session = app_of c.in_ok-with_session.with_session in
    let add : App → App → App = λ app own. with_subcommand app own.top in
    let query_is : with_query ≡ add bare_program query_command =
    one_more with_query named query_command c.query_command.result c.in_ok-with_query.ensures
    c.query_command.ensures.shape c.query_command.ensures.own
    ∙ ap (λ (app : App). add app query_command) c.in_ok-named.ensures in
    let explain_is : with_explain ≡ add (add bare_program query_command) explain_command =
    one_more with_explain with_query explain_command c.explain_command.result c.in_ok-with_explain.ensures
    c.explain_command.ensures.shape c.explain_command.ensures.own
    ∙ ap (λ (app : App). add app explain_command) query_is in
    let describe_is = one_more with_describe with_explain (language_command (codes "describe"))
    c.language_command.result
    c.in_ok-with_describe.ensures c.language_command.ensures.shape c.language_command.ensures.own
    ∙ ap (λ (app : App). add app (language_command (codes "describe"))) explain_is in
    let session_is = one_more with_session with_describe (language_command (codes "session"))
    c.language_command-2.result
    c.in_ok-with_session.ensures c.language_command-2.ensures.shape c.language_command-2.ensures.own
    ∙ ap (λ (app : App). add app (language_command (codes "session"))) describe_is in
    IfOk-weaker c.with-5.result _ _
    (λ command adds. one_more (app_of command) with_session check_command c.check_command.result adds
    c.check_command.ensures.shape c.check_command.ensures.own
    ∙ ap (λ (app : App). add app check_command) session_is) c.with-5.ensures
