-- Lemmas on the command that clap's matches have, and on requests and refusals.
use Rattle.std.proofs.Common.{ℕ, not, ◌≡◌, ◌≢◌, ◌∙◌, ◌⊎◌, ◌||◌, Bool, true, false, if◌then◌else◌, inl, inr, ap, List}
use Rattle.std.proofs.Common.{[], Option, None, Some, Box, Global, option_map, box_value, Result, Ok, Err, IfOk, IfErr}
use Rattle.std.proofs.Common.{codes, refl, subst, sym}
use Rattle.std.specs.Borrow.{Bor}
use Rattle.std.specs.Prelude.{bytes_eq, string_bytes, unwrap_or}
use Rattle.std.proofs.lemmas.Slice.Eq.{bytes_eq-Decides}
use Rattle.clap.specs.Words.{AddsArg, App, IsAmong, Row, Rule, Text, app_of, fault_of, first_of, found_of, rows_of}
use Rattle.clap.specs.Words.{rule_of}
use Rattle.clap.specs.Words.{subcommand_of}
use Rattle.clap.specs.Words.{subcommand_rows, subcommand_rows_of, with_rule}
use Rattle.clap.specs.declared.builder.arg.Arg.{Arg}
use Rattle.clap.specs.declared.builder.command.Command.{Command}
use Rattle.clap.specs.Matches.{subcommand_name_of}
use Rattle.clap.specs.declared.parser.matches.ArgMatches.{ArgMatches}
use Rattle.clap.specs.declared.parser.matches.SubCommand.{SubCommand}
use Rattle.clap.specs.declared.parser.matches.ArgMatches.TheViews.{out-ArgMatches, out-SubCommand}
use Rattle.clap.specs.declared.error.kind.ErrorKind.{ErrorKind}
use Rattle.clap.specs.declared.error.kind.ErrorKind.TheVariants.{MissingSubcommand, OutOfMemory}
use Rattle.command_line.specs.CommandLine.{AreOneToNine, Asks, AsksFolders, AsksQuery, CommandAsks, HasOwnArguments}
use Rattle.command_line.specs.CommandLine.{IsCall, IsFaultBy, IsFaultOfFolders, IsFaultOfQuery, IsNoRequest, IsQueryOf}
use Rattle.command_line.specs.CommandLine.{IsRefusal, IsRequest, default_language, folders_in, folders_named}
use Rattle.command_line.specs.CommandLine.{AsksInLanguage, HasFoldersOf, is_command}
use Rattle.command_line.specs.CommandLine.{folders_of, program, query_rows}
use Rattle.command_line.specs.QueryWords.{IsFaultOfNumber, IsFaultOfNumbers, IsNoCall, IsNoNumber, is_given, mode_of}
use Rattle.command_line.specs.declared.words.Mode.{Mode}
use Rattle.command_line.specs.declared.words.Mode.TheVariants.{Sample, Query, QueryWith, Explain, Describe, Session}
use Rattle.command_line.specs.declared.words.Mode.TheVariants.{Check}
use Rattle.command_line.specs.declared.words.Request.{Request}
use Rattle.command_line.specs.declared.words.WordFault.{WordFault}
use Rattle.command_line.specs.declared.words.WordFault.TheVariants.{Usage, Help, Memory}

-- if the matches have a command with the name `name` and the rows `rows`, then their command is the pair of both
pub command_named : (matches : ArgMatches) (name : Text) (rows : List Row) → subcommand_name_of matches ≡ Some name
    → option_map (λ (command : Text × List Row). command.1) (subcommand_rows_of matches) ≡ Some rows
    → subcommand_rows_of matches ≡ Some (name, rows)
command_named matches name rows named held = by (out-ArgMatches matches).subcommand named held
  where
    by : (command : Option (Box SubCommand Global))
        → option_map (λ (b : Box SubCommand Global). (out-SubCommand (box_value b)).name.now) command ≡ Some name
        → option_map (λ (found : Text × List Row). found.1) (subcommand_rows command) ≡ Some rows
        → subcommand_rows command ≡ Some (name, rows)
    by None named held = (cc)
    by (Some command) named held =
        let name_is : (out-SubCommand (box_value command)).name.now ≡ name = (cc) in
        let rows_are : rows_of (found_of (out-SubCommand (box_value command)).matches) ≡ rows = (cc) in
        (λ i. Some (name_is i, rows_are i))

-- if the bytes of the optional borrowed text `lent` are `found`, then the bytes of `lent` or `other` are `found` or
-- those of `other`
pub lent_or : (lent : Option (Bor Text)) (other : Bor Text) (found : Option Text)
    → option_map (λ (text : Bor Text). text.now) lent ≡ found
    → (unwrap_or lent other).now ≡ unwrap_or found other.now
lent_or None other None is = refl
lent_or None other (Some text) is = (cc)
lent_or (Some lent) other None is = (cc)
lent_or (Some lent) other (Some text) is = (cc)

-- if the command is `name` with `rows`, and the request has the one to nine folders of `rows` and the default
-- language, then the command asks for the request
pub asks_folders : (command : Option (Text × List Row)) (name : Text) (rows : List Row) (folders : List Text)
    (request : Request)
    → command ≡ Some (name, rows) → folders ≡ folders_of rows → folders_in request ≡ folders → AreOneToNine folders
    → string_bytes request.lang ≡ default_language → AsksFolders name command request
asks_folders command name rows folders request named folders_are in_order few lang =
    (rows, named, (in_order ∙ folders_are, subst AreOneToNine folders_are few), lang)

-- if clap accepts the words, and their command asks for the request, then the words ask for it
words_ask : (mode : Mode) (words : List Text) (request : Request) → fault_of program words ≡ []
    → CommandAsks mode (subcommand_of program words) request → Asks mode words request
words_ask Sample words request clean asked = absurd asked
words_ask Query words request clean asked = (clean, asked)
words_ask (QueryWith options) words request clean asked = (clean, asked)
words_ask Explain words request clean asked = (clean, asked)
words_ask Describe words request clean asked = (clean, asked)
words_ask Session words request clean asked = (clean, asked)
words_ask Check words request clean asked = (clean, asked)

-- if clap accepts the words, and their command asks for the resulting request, then the words ask for it
pub request_is : (words : List Text) (command : Option (Text × List Row)) (result : Result Request WordFault)
    → command ≡ subcommand_of program words
    → fault_of program words ≡ [] → IfOk result (λ (request : Request). CommandAsks request.mode command request)
    → IfOk result (IsRequest words)
request_is words command (Ok request) named clean asked =
    words_ask request.mode words request clean
    (subst (λ (c : Option (Text × List Row)). CommandAsks request.mode c request) named asked)
request_is words command (Err fault) named clean asked = tt

-- the folders that a command names are the folders in its rows, if its name is one of the five
pub names_folders : (command : Option (Text × List Row)) (name : Text) (rows : List Row) → command ≡ Some (name, rows)
    → is_command name ≡ true → folders_named command ≡ folders_of rows
names_folders command name rows is named =
    ap folders_named is ∙ (λ i. if named i then folders_of rows else [])

-- the rows of a command `query` are `query_rows` of it
pub rows_of_query : (command : Option (Text × List Row)) (rows : List Row) → command ≡ Some (codes "query", rows)
    → query_rows command ≡ rows
rows_of_query command rows is = ap query_rows is

-- if the command is `query` with `rows`, and `rows` ask for the request, then the command asks for it
pub asks_query : (command : Option (Text × List Row)) (rows : List Row) (request : Request)
    → command ≡ Some (codes "query", rows) → IsQueryOf rows request → CommandAsks request.mode command request
asks_query command rows request named (folders, lang, mode) =
    subst (λ (own : Mode). CommandAsks own command request) (sym mode.mode_is)
    (by mode.limit mode.first (not (is_given (codes "no-names") rows)) (rows, named, (folders, lang, mode)))
  where
    by : (limit first : Option ℕ) (names : Bool) → AsksQuery command request
        → CommandAsks (mode_of limit first names) command request
    by None None true asked = asked
    by None None false asked = asked
    by None (Some first) names asked = asked
    by (Some limit) first names asked = asked

-- if the command is `query` with `rows`, and `rows` justify a fault, then the command justifies it
pub is_no_query : (command : Option (Text × List Row)) (rows : List Row) (fault : WordFault)
    → command ≡ Some (codes "query", rows) → IsFaultOfQuery rows fault → IsNoRequest command fault
is_no_query command rows fault is (inl none) =
    inl (subst (λ (folders : List Text). IsFaultOfFolders folders fault)
    (sym (names_folders command (codes "query") rows is refl)) none)
is_no_query command rows fault is (inr none) =
    inr (subst (λ (own : List Row). IsFaultOfNumbers own fault) (sym (rows_of_query command rows is)) none)

-- `bytes_eq` is false for two different texts
unlike : (one other : Text) → one ≢ other → bytes_eq one other ≡ false
unlike one other apart = by (bytes_eq one other) refl
  where
    by : (same : Bool) → bytes_eq one other ≡ same → bytes_eq one other ≡ false
    by false is = is
    by true is = absurd (apart ((bytes_eq-Decides one other).0 is))

-- a command whose name is none of the five names no folder
pub names_no_folder : (command : Option (Text × List Row)) (name : Text) (rows : List Row) → command ≡ Some (name, rows)
    → name ≢ codes "query" → name ≢ codes "explain" → name ≢ codes "describe" → name ≢ codes "session"
    → name ≢ codes "check" → folders_named command ≡ []
names_no_folder command name rows is no_query no_explain no_describe no_session no_check =
    let query_not = unlike name (codes "query") no_query in
    let explain_not = unlike name (codes "explain") no_explain in
    let describe_not = unlike name (codes "describe") no_describe in
    let session_not = unlike name (codes "session") no_session in
    let check_not = unlike name (codes "check") no_check in
    ap folders_named is
    ∙ (λ i. if query_not i || (explain_not i || (describe_not i || (session_not i || check_not i)))
    then folders_of rows else [])

-- if the command is `name` with `rows`, and the request has the folders and the language of `rows`, then the command
-- asks for the request in the mode of `name`
pub asks_in_language : (command : Option (Text × List Row)) (name : Text) (rows : List Row) (request : Request)
    → command ≡ Some (name, rows) → HasFoldersOf rows request
    → unwrap_or (first_of (codes "lang") rows) default_language ≡ string_bytes request.lang
    → AsksInLanguage name command request
asks_in_language command name rows request named folders lang = (rows, named, folders, lang)

-- if a command names no folder, it justifies the fault for a missing command
pub is_no_request : (command : Option (Text × List Row)) (fault : WordFault) → IsFaultBy MissingSubcommand fault
    → folders_named command ≡ [] → IsNoRequest command fault
is_no_request command (Usage text) by none = inl (inl none)
is_no_request command (Help text) by none = absurd (no_call by)
  where
    no_call : IsCall MissingSubcommand → ⊥
    no_call (inl help) = (cc)
    no_call (inr version) = (cc)
is_no_request command Memory by none = inl tt

-- if clap accepts the words, and their command justifies the resulting fault, then the words justify it
pub refusal_is : (words : List Text) (command : Option (Text × List Row)) (result : Result Request WordFault)
    → command ≡ subcommand_of program words
    → fault_of program words ≡ [] → IfErr result (IsNoRequest command) → IfErr result (IsRefusal words)
refusal_is words command (Ok request) named clean none = tt
refusal_is words command (Err (Usage text)) named clean none =
    inr (clean, subst (λ (c : Option (Text × List Row)). IsNoRequest c (Usage text)) named none)
refusal_is words command (Err (Help text)) named clean none =
    elim none [ inl folders ↦ absurd folders | inr numbers ↦ absurd numbers ]
refusal_is words command (Err Memory) named clean none = tt

-- clap's error for refused memory asks for neither help nor the version
no_memory : (kind : ErrorKind) → IsCall kind → kind ≡ OutOfMemory → ⊥
no_memory kind (inl help) refused = (cc)
no_memory kind (inr version) refused = (cc)

-- if a fault is the one for clap's error `kind`, and clap finds this error in the words or memory was refused, then
-- the words justify the fault
pub refusal_by : (words : List Text) (kind : ErrorKind) (fault : WordFault) → IsFaultBy kind fault
    → (kind ≡ OutOfMemory) ⊎ IsAmong kind (fault_of program words) → IsRefusal words fault
refusal_by words kind (Usage text) by (inl refused) = absurd (by.1 refused)
refusal_by words kind (Usage text) by (inr among) = inl (kind, among, by.0)
refusal_by words kind (Help text) by (inl refused) = absurd (no_memory kind by refused)
refusal_by words kind (Help text) by (inr among) = (kind, among, by)
refusal_by words kind Memory by found = tt

-- if the text of an option is no number, it justifies each fault that asks for neither help nor the version
pub number_fault : (given : Option Text) (fault : WordFault) → IsNoCall fault → IsNoNumber given
    → IsFaultOfNumber given fault
number_fault given (Usage text) told none = none
number_fault given (Help text) told none = absurd told
number_fault given Memory told none = tt

-- ---- a command with one more argument
module _ (old : Command) (arg : Arg) (new : Command) (adds : AddsArg old arg new) (local : arg.global ≡ false) where
  -- the command with the argument has the argument's rule after the rules that it had
  pub rule_added : (app : App) (rule : Rule) → rule_of arg ≡ rule → app_of old ≡ app → app_of new ≡ with_rule app rule
  rule_added app rule is so_far = adds.shape local ∙ (λ i. with_rule (so_far i) (is i))

  -- the command with the argument still passes no argument on to subcommands, because `arg` is not global
  pub own_added : HasOwnArguments old → HasOwnArguments new
  own_added own = adds.globals ∙ (λ i. own i || local i)
