-- The request that the words of a command line ask for. The first word is the program's name. The
-- crate clap defines how words are read as arguments; its rows are the arguments that it found,
-- each with its values. Here stand the arguments that the program takes, and the request that they
-- ask for.
use Rattle.std.specs.Prelude.{◌≡◌, ◌-◌, ◌^◌, ◌≢◌, ◌⊎◌, ◌<◌, ◌≤◌, ◌||◌, Bool, ℕ, ⊤, false, true, if◌then◌else◌, List, []}
use Rattle.std.specs.Prelude.{bytes_eq, length, map, codes, string_bytes, unwrap_or, Option, None, Some}
use Rattle.clap.specs.Words.{App, IsAmong, Row, Rule, Text, all_of, fault_of, first_of, new_app, new_rule}
use Rattle.clap.specs.Words.{subcommand_of, with_rule, with_subcommand}
use Rattle.clap.specs.declared.builder.action.ArgAction.TheVariants.{Append, SetTrue}
use Rattle.clap.specs.declared.builder.value_parser.ValueParser.TheVariants.{Unsigned}
use Rattle.clap.specs.declared.builder.command.Command.{Command}
use Rattle.clap.specs.declared.builder.command.Command.TheViews.{out-Command}
use Rattle.clap.specs.declared.error.kind.ErrorKind.{ErrorKind}
use Rattle.clap.specs.declared.error.kind.ErrorKind.TheVariants.{DisplayHelp, DisplayVersion, OutOfMemory}
use Rattle.command_line.specs.declared.words.Mode.{Mode}
use Rattle.command_line.specs.declared.words.Mode.TheVariants.{Sample, Query, QueryWith, Explain, Describe, Session}
use Rattle.command_line.specs.declared.words.Mode.TheVariants.{Check}
use Rattle.command_line.specs.declared.words.Request.{Request}
use Rattle.command_line.specs.QueryWords.{IsFaultOfNumbers, IsQueryMode}
use Rattle.command_line.specs.declared.words.WordFault.{WordFault}
use Rattle.command_line.specs.declared.words.WordFault.TheVariants.{Usage, Help, Memory}

-- the argument `FOLDER`, which must be given at least once
abbrev pub folder_rule : Rule
folder_rule = record (new_rule (codes "FOLDER")) { required = true; action = Some Append }

-- the option `--lang`, which takes the code of a language
abbrev pub lang_rule : Rule
lang_rule = record (new_rule (codes "lang")) { long = Some (codes "lang"); value_names = 1 }

-- the options `--limit` and `--first`, each of which takes a number of 64 bits
abbrev pub number_rule : Text → Rule
number_rule name =
    record (new_rule name) {
      long = Some name;
      value_names = 1;
      parser = Some (Unsigned 0 (2 ^ 64 - 1));
    }

-- the option `--no-names`, which takes no value
abbrev pub no_names_rule : Rule
no_names_rule = record (new_rule (codes "no-names")) {
  long = Some (codes "no-names");
  action = Some SetTrue;
}

-- the command `query`, with folders and its four options
abbrev pub query_command : App
query_command =
    with_rule (with_rule (with_rule (with_rule (with_rule (new_app (codes "query")) folder_rule)
    lang_rule)
    (number_rule (codes "limit"))) (number_rule (codes "first"))) no_names_rule

-- the command `explain`, with folders and no option
abbrev pub explain_command : App
explain_command = with_rule (new_app (codes "explain")) folder_rule

-- the command `check`, with folders and no option
abbrev pub check_command : App
check_command = with_rule (new_app (codes "check")) folder_rule

-- the commands `describe` and `session`, with folders and `--lang`
abbrev pub language_command : Text → App
language_command name = with_rule (with_rule (new_app name) folder_rule) lang_rule

-- the command passes no argument of its own on to subcommands (clap calls such arguments global)
abbrev pub HasOwnArguments : Command → Type 0
HasOwnArguments command = (out-Command command).has_globals ≡ false

-- the program with the rule that the words must name a command
abbrev pub requiring_command : App → App
requiring_command app = record app { top = record app.top { subcommand_required = true } }

-- the program with an option that shows its version
abbrev pub having_version : App → App
having_version app = record app { top = record app.top { has_version = true } }

-- the program without its commands
abbrev pub bare_program : App
bare_program = requiring_command (having_version (new_app (codes "hosecrag")))

-- the program with its five commands
abbrev pub program : App
program =
    with_subcommand
    (with_subcommand
    (with_subcommand
    (with_subcommand (with_subcommand bare_program query_command.top) explain_command.top)
    (language_command (codes "describe")).top)
    (language_command (codes "session")).top)
    check_command.top

-- the language whose names are preferred if the words give none
abbrev pub default_language : List ℕ
default_language = codes "en"

-- the greatest number of folders for a release
abbrev pub most_folders : ℕ
most_folders = 9

-- there are one to nine folders
abbrev pub AreOneToNine : List Text → Type 0
AreOneToNine folders = (1 ≤ length folders) × (length folders ≤ most_folders)

-- the names of the folders in a request
abbrev pub folders_in : Request → List Text
folders_in request = map string_bytes request.folders.items

-- the names of the folders in a command's rows, in the order of the words
abbrev pub folders_of : List Row → List Text
folders_of rows = unwrap_or (all_of (codes "FOLDER") rows) []

-- the words are no more than the program's name: they ask for the built-in release, which has no
-- folder
abbrev pub AsksSample : List Text → Request → Type 0
AsksSample words request = (length words ≤ 1) × (folders_in request ≡ [])
    × (string_bytes request.lang ≡ default_language)

-- the request has the folders of a command's rows, and these are one to nine
abbrev pub HasFoldersOf : List Row → Request → Type 0
HasFoldersOf rows request = (folders_in request ≡ folders_of rows) × AreOneToNine (folders_of rows)

-- the rows of the command `query` ask for this request: it has their folders, their language, and
-- the mode of their options
abbrev pub IsQueryOf : List Row → Request → Type 0
IsQueryOf rows request =
    HasFoldersOf rows request
    × (unwrap_or (first_of (codes "lang") rows) default_language ≡ string_bytes request.lang)
    × IsQueryMode rows request.mode

-- the command is `query`, and its rows ask for this request
abbrev pub AsksQuery : Option (Text × List Row) → Request → Type 0
AsksQuery command request = (rows : List Row) × (command ≡ Some (codes "query", rows))
    × IsQueryOf rows request

-- the command has the name `name` and takes folders alone, and the request has its folders and the
-- default language
abbrev pub AsksFolders : Text → Option (Text × List Row) → Request → Type 0
AsksFolders name command request =
    (rows : List Row) × (command ≡ Some (name, rows))
    × HasFoldersOf rows request
    × (string_bytes request.lang ≡ default_language)

-- the command is `explain`, and asks for this request
abbrev pub AsksExplain : Option (Text × List Row) → Request → Type 0
AsksExplain command request = AsksFolders (codes "explain") command request

-- the command is `check`, and asks for this request
abbrev pub AsksCheck : Option (Text × List Row) → Request → Type 0
AsksCheck command request = AsksFolders (codes "check") command request

-- the command has the name `name` (`describe` or `session`), and the request has its folders and
-- its language
abbrev pub AsksInLanguage : Text → Option (Text × List Row) → Request → Type 0
AsksInLanguage name command request =
    (rows : List Row) × (command ≡ Some (name, rows))
    × HasFoldersOf rows request
    × (unwrap_or (first_of (codes "lang") rows) default_language ≡ string_bytes request.lang)

-- the command asks for this request, whose mode is given; no command asks for the built-in release
abbrev pub CommandAsks : Mode → Option (Text × List Row) → Request → Type 0
CommandAsks Sample command request = ⊥
CommandAsks Query command request = AsksQuery command request
CommandAsks (QueryWith options) command request = AsksQuery command request
CommandAsks Explain command request = AsksExplain command request
CommandAsks Describe command request = AsksInLanguage (codes "describe") command request
CommandAsks Session command request = AsksInLanguage (codes "session") command request
CommandAsks Check command request = AsksCheck command request

-- the words ask for this request, whose mode is given: either they are no more than the program's
-- name, or clap accepts them and their command asks for the request
abbrev pub Asks : Mode → List Text → Request → Type 0
Asks Sample words request = AsksSample words request
Asks Query words request =
    (fault_of program words ≡ []) × AsksQuery (subcommand_of program words) request
Asks (QueryWith options) words request =
    (fault_of program words ≡ []) × AsksQuery (subcommand_of program words) request
Asks Explain words request =
    (fault_of program words ≡ []) × AsksExplain (subcommand_of program words) request
Asks Describe words request =
    (fault_of program words ≡ []) × AsksInLanguage (codes "describe") (subcommand_of program words)
    request
Asks Session words request =
    (fault_of program words ≡ []) × AsksInLanguage (codes "session") (subcommand_of program words)
    request
Asks Check words request =
    (fault_of program words ≡ []) × AsksCheck (subcommand_of program words) request

-- the words ask for this request
abbrev pub IsRequest : List Text → Request → Type 0
IsRequest words request = Asks request.mode words request

-- whether a text is the name of a command
abbrev pub is_command : Text → Bool
is_command name =
    bytes_eq name (codes "query")
    || (bytes_eq name (codes "explain")
    || (bytes_eq name (codes "describe")
    || (bytes_eq name (codes "session") || bytes_eq name (codes "check"))))

-- the folders that a command names, in the order of the words
abbrev pub folders_named : Option (Text × List Row) → List Text
folders_named None = []
folders_named (Some command) = if is_command command.0 then folders_of command.1 else []

-- the text for the user if there are too many folders
abbrev pub too_many_text : Text
too_many_text = codes "at most 9 folders\n"

-- the fault is the one for too many folders, or memory was refused
abbrev pub TellsTooMany : WordFault → Type 0
TellsTooMany (Usage text) = string_bytes text ≡ too_many_text
TellsTooMany (Help text) = ⊥
TellsTooMany Memory = ⊤

-- the fault is one that these folders justify: there are none, or there are more than nine and the
-- text says so, or memory was refused
abbrev pub IsFaultOfFolders : List Text → WordFault → Type 0
IsFaultOfFolders folders (Usage text) =
    (folders ≡ []) ⊎ ((most_folders < length folders) × TellsTooMany (Usage text))
IsFaultOfFolders folders (Help text) = ⊥
IsFaultOfFolders folders Memory = ⊤

-- the fault is one that the rows of `query` justify: by their folders, or by an option whose text
-- is no number
abbrev pub IsFaultOfQuery : List Row → WordFault → Type 0
IsFaultOfQuery rows fault = IsFaultOfFolders (folders_of rows) fault ⊎ IsFaultOfNumbers rows fault

-- the rows of the command if it is `query`, otherwise none
abbrev pub query_rows : Option (Text × List Row) → List Row
query_rows None = []
query_rows (Some command) = if bytes_eq command.0 (codes "query") then command.1 else []

-- the fault is one that the command justifies: by the folders that it names, or by an option of
-- `query` whose text is no number
abbrev pub IsNoRequest : Option (Text × List Row) → WordFault → Type 0
IsNoRequest command fault = IsFaultOfFolders (folders_named command) fault
    ⊎ IsFaultOfNumbers (query_rows command) fault

-- an error of clap that asks for help or for the version
abbrev pub IsCall : ErrorKind → Type 0
IsCall kind = (kind ≡ DisplayHelp) ⊎ (kind ≡ DisplayVersion)

-- the fault for an error of clap: `Help` if the words ask for help or the version, otherwise
-- `Usage`, or `Memory` at any error
abbrev pub IsFaultBy : ErrorKind → WordFault → Type 0
IsFaultBy kind (Usage text) = (¬ IsCall kind) × (kind ≢ OutOfMemory)
IsFaultBy kind (Help text) = IsCall kind
IsFaultBy kind Memory = ⊤

-- the fault is one that the words justify. `Usage`: clap finds an error in them that asks for
-- neither help nor the version, or it accepts them and their command is no request. `Help`: they
-- ask for help or the version. `Memory`: memory was refused
abbrev pub IsRefusal : List Text → WordFault → Type 0
IsRefusal words (Usage text) =
    ((kind : ErrorKind) × IsAmong kind (fault_of program words) × (¬ IsCall kind))
    ⊎ ((fault_of program words ≡ []) × IsNoRequest (subcommand_of program words) (Usage text))
IsRefusal words (Help text) = (kind : ErrorKind) × IsAmong kind (fault_of program words)
    × IsCall kind
IsRefusal words Memory = ⊤

-- the number of a fault of the words
abbrev pub word_fault_number : WordFault → ℕ
word_fault_number (Usage text) = 1
word_fault_number (Help text) = 2
word_fault_number Memory = 3
