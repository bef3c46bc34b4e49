use Rattle.std.proofs.Common.{rules, ◌≡◌, ◌≢◌, ◌∙◌, ap, sym, subst, codes, inl, refl, List, Some}
use Rattle.std.proofs.lemmas.Result.{IfErr-weaker, IfOk-weaker}
use Rattle.clap.specs.Words.{Row, Text, found_of, rows_of, subcommand_rows_of}
use Rattle.command_line.specs.CommandLine.{CommandAsks, IsFaultOfFolders, IsNoRequest}
use Rattle.command_line.specs.declared.words.Mode.{Mode}
use Rattle.command_line.proofs.WordLemmas.{asks_folders, asks_in_language, asks_query, command_named, is_no_query}
use Rattle.command_line.proofs.WordLemmas.{is_no_request}
use Rattle.command_line.proofs.WordLemmas.{names_folders, names_no_folder}
use Rattle.command_line.proofs.words.command_request.Goals as goal

-- the command `query` asks for the request of its rows
pub returns-then-eq-clause-asked : goal.returns-then-eq-clause-asked
returns-then-eq-clause-asked c =
    let rows : List Row = rows_of (found_of c.in-Some.arguments.now) in
    let command = subcommand_rows_of c.args.matches.now in
    let name_is : c.in-Some.name.now ≡ codes "query" = search rules in
    let named = command_named c.args.matches.now (codes "query") rows
    (sym c.in-Some.ensures.name ∙ ap (λ (name : Text). Some name) name_is) (sym c.in-Some.ensures.rows) in
    IfOk-weaker c.query_request.result _ _ (λ request asked. asks_query command rows request named asked)
    c.query_request.ensures.asked

-- the command `describe` asks for its folders and its language
pub returns-then-eq-2-clause-asked : goal.returns-then-eq-2-clause-asked
returns-then-eq-2-clause-asked c =
    let rows : List Row = rows_of (found_of c.in-Some.arguments.now) in
    let command = subcommand_rows_of c.args.matches.now in
    let name_is : c.in-Some.name.now ≡ codes "describe" = search rules in
    let named = command_named c.args.matches.now (codes "describe") rows
    (sym c.in-Some.ensures.name ∙ ap (λ (name : Text). Some name) name_is) (sym c.in-Some.ensures.rows) in
    IfOk-weaker c.language_request.result _ _
    (λ request asked. subst (λ (mode : Mode). CommandAsks mode command request) (sym asked.0)
    (asks_in_language command (codes "describe") rows request named asked.1 asked.2))
    c.language_request.ensures.asked

-- the command `session` asks for its folders and its language
pub returns-then-eq-3-clause-asked : goal.returns-then-eq-3-clause-asked
returns-then-eq-3-clause-asked c =
    let rows : List Row = rows_of (found_of c.in-Some.arguments.now) in
    let command = subcommand_rows_of c.args.matches.now in
    let name_is : c.in-Some.name.now ≡ codes "session" = search rules in
    let named = command_named c.args.matches.now (codes "session") rows
    (sym c.in-Some.ensures.name ∙ ap (λ (name : Text). Some name) name_is) (sym c.in-Some.ensures.rows) in
    IfOk-weaker c.language_request-then-eq-3.result _ _
    (λ request asked. subst (λ (mode : Mode). CommandAsks mode command request) (sym asked.0)
    (asks_in_language command (codes "session") rows request named asked.1 asked.2))
    c.language_request-then-eq-3.ensures.asked

-- the command `explain` asks for the plans of queries over its folders' release
pub returns-then-eq-4-clause-asked : goal.returns-then-eq-4-clause-asked
returns-then-eq-4-clause-asked c =
    let rows : List Row = rows_of (found_of c.in-Some.arguments.now) in
    let command = subcommand_rows_of c.args.matches.now in
    let name_is : c.in-Some.name.now ≡ codes "explain" = search rules in
    let named = command_named c.args.matches.now (codes "explain") rows
    (sym c.in-Some.ensures.name ∙ ap (λ (name : Text). Some name) name_is) (sym c.in-Some.ensures.rows) in
    IfOk-weaker c.of_folders.result _ _
    (λ request asked. subst (λ (mode : Mode). CommandAsks mode command request) (sym asked.0)
    (asks_folders command (codes "explain") rows _ request named c.folders_of-folders.ensures asked.1 asked.2 asked.3))
    c.of_folders.ensures.asked

-- the command `check` asks for the report of its folders' release
pub returns-then-eq-5-clause-asked : goal.returns-then-eq-5-clause-asked
returns-then-eq-5-clause-asked c =
    let rows : List Row = rows_of (found_of c.in-Some.arguments.now) in
    let command = subcommand_rows_of c.args.matches.now in
    let name_is : c.in-Some.name.now ≡ codes "check" = search rules in
    let named = command_named c.args.matches.now (codes "check") rows
    (sym c.in-Some.ensures.name ∙ ap (λ (name : Text). Some name) name_is) (sym c.in-Some.ensures.rows) in
    IfOk-weaker c.of_folders-then-eq-5.result _ _
    (λ request asked. subst (λ (mode : Mode). CommandAsks mode command request) (sym asked.0)
    (asks_folders command (codes "check") rows _ request named c.folders_of-folders.ensures asked.1 asked.2 asked.3))
    c.of_folders-then-eq-5.ensures.asked

-- if the rows of `query` are no request, the command is refused
pub returns-then-eq-clause-refused : goal.returns-then-eq-clause-refused
returns-then-eq-clause-refused c =
    let rows : List Row = rows_of (found_of c.in-Some.arguments.now) in
    let command = subcommand_rows_of c.args.matches.now in
    let name_is : c.in-Some.name.now ≡ codes "query" = search rules in
    let named = command_named c.args.matches.now (codes "query") rows
    (sym c.in-Some.ensures.name ∙ ap (λ (name : Text). Some name) name_is) (sym c.in-Some.ensures.rows) in
    IfErr-weaker c.query_request.result _ _ (λ fault none. is_no_query command rows fault named none)
    c.query_request.ensures.refused

-- if `describe` has no folders or too many, the command is refused
pub returns-then-eq-2-clause-refused : goal.returns-then-eq-2-clause-refused
returns-then-eq-2-clause-refused c =
    let rows : List Row = rows_of (found_of c.in-Some.arguments.now) in
    let command = subcommand_rows_of c.args.matches.now in
    let name_is : c.in-Some.name.now ≡ codes "describe" = search rules in
    let named = command_named c.args.matches.now (codes "describe") rows
    (sym c.in-Some.ensures.name ∙ ap (λ (name : Text). Some name) name_is) (sym c.in-Some.ensures.rows) in
    IfErr-weaker c.language_request.result _ (IsNoRequest command)
    (λ fault none. inl (subst (λ (folders : List Text). IsFaultOfFolders folders fault)
    (sym (names_folders command (codes "describe") rows named refl)) none))
    c.language_request.ensures.refused

-- if `session` has no folders or too many, the command is refused
pub returns-then-eq-3-clause-refused : goal.returns-then-eq-3-clause-refused
returns-then-eq-3-clause-refused c =
    let rows : List Row = rows_of (found_of c.in-Some.arguments.now) in
    let command = subcommand_rows_of c.args.matches.now in
    let name_is : c.in-Some.name.now ≡ codes "session" = search rules in
    let named = command_named c.args.matches.now (codes "session") rows
    (sym c.in-Some.ensures.name ∙ ap (λ (name : Text). Some name) name_is) (sym c.in-Some.ensures.rows) in
    IfErr-weaker c.language_request-then-eq-3.result _ (IsNoRequest command)
    (λ fault none. inl (subst (λ (folders : List Text). IsFaultOfFolders folders fault)
    (sym (names_folders command (codes "session") rows named refl)) none))
    c.language_request-then-eq-3.ensures.refused

-- if `explain` has no folders or too many, the command is refused
pub returns-then-eq-4-clause-refused : goal.returns-then-eq-4-clause-refused
returns-then-eq-4-clause-refused c =
    let rows : List Row = rows_of (found_of c.in-Some.arguments.now) in
    let command = subcommand_rows_of c.args.matches.now in
    let name_is : c.in-Some.name.now ≡ codes "explain" = search rules in
    let named = command_named c.args.matches.now (codes "explain") rows
    (sym c.in-Some.ensures.name ∙ ap (λ (name : Text). Some name) name_is) (sym c.in-Some.ensures.rows) in
    IfErr-weaker c.of_folders.result _ (IsNoRequest command)
    (λ fault none. inl (subst (λ (folders : List Text). IsFaultOfFolders folders fault)
    (c.folders_of-folders.ensures ∙ sym (names_folders command (codes "explain") rows named refl)) none))
    c.of_folders.ensures.refused

-- if `check` has no folders or too many, the command is refused
pub returns-then-eq-5-clause-refused : goal.returns-then-eq-5-clause-refused
returns-then-eq-5-clause-refused c =
    let rows : List Row = rows_of (found_of c.in-Some.arguments.now) in
    let command = subcommand_rows_of c.args.matches.now in
    let name_is : c.in-Some.name.now ≡ codes "check" = search rules in
    let named = command_named c.args.matches.now (codes "check") rows
    (sym c.in-Some.ensures.name ∙ ap (λ (name : Text). Some name) name_is) (sym c.in-Some.ensures.rows) in
    IfErr-weaker c.of_folders-then-eq-5.result _ (IsNoRequest command)
    (λ fault none. inl (subst (λ (folders : List Text). IsFaultOfFolders folders fault)
    (c.folders_of-folders.ensures ∙ sym (names_folders command (codes "check") rows named refl)) none))
    c.of_folders-then-eq-5.ensures.refused

-- a command of another name is no request
pub returns-clause-refused : goal.returns-clause-refused
returns-clause-refused c =
    let name = c.in-Some.name.now in
    let rows = rows_of (found_of c.in-Some.arguments.now) in
    let command = subcommand_rows_of c.args.matches.now in
    let named : command ≡ Some (name, rows) =
    command_named c.args.matches.now name rows (sym c.in-Some.ensures.name) (sym c.in-Some.ensures.rows) in
    let is_no_query : name ≢ codes "query" = search rules in
    let is_no_explain : name ≢ codes "explain" = search rules in
    let is_no_describe : name ≢ codes "describe" = search rules in
    let is_no_session : name ≢ codes "session" = search rules in
    let is_no_check : name ≢ codes "check" = search rules in
    is_no_request command c.no_command-2.result c.no_command-2.ensures
    (names_no_folder command name rows named is_no_query is_no_explain is_no_describe is_no_session is_no_check)
