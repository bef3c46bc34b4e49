use Rattle.std.proofs.Common.{◌≡◌, ◌∙◌, ap, refl, subst, true, []}
use Rattle.text_parts.specs.Parts.{texts_of}
use Rattle.clap.specs.Words.{App, app_of, is_simple, is_simple_and_free, HasKind, fault_of, kind_of, subcommand_of}
use Rattle.clap.specs.Words.{subcommand_rows_of}
use Rattle.clap.proofs.OnLiterals.{clap_on_literals}
use Rattle.command_line.specs.CommandLine.{program}
use Rattle.command_line.proofs.WordLemmas.{refusal_by, refusal_is, request_is}
use Rattle.command_line.proofs.words.read_words.Goals as goal

-- the program's command line is one for which the contract of clap states the matches
program_is_simple : is_simple program ≡ true
unfolding clap_on_literals
program_is_simple = refl

-- the program's command line is one for which the contract of clap states the faults
program_is_free : is_simple_and_free program ≡ true
unfolding clap_on_literals
program_is_free = refl

-- if clap finds no fault, the request is that of the words
pub returns-in-Ok-clause-asked : goal.returns-in-Ok-clause-asked
returns-in-Ok-clause-asked c =
    let is : app_of c.in_ok-command.command ≡ program = c.in_ok-command.ensures in
    let named : subcommand_rows_of c.in-Ok.matches ≡ subcommand_of program (texts_of c.args.words.now) =
    (c.in-Ok.ensures.matches (ap is_simple is ∙ program_is_simple)).1
    ∙ ap (λ (app : App). subcommand_of app (texts_of c.args.words.now)) is in
    let clean : fault_of program (texts_of c.args.words.now) ≡ [] =
    subst (λ (app : App). fault_of app (texts_of c.args.words.now) ≡ []) is
    (c.in-Ok.ensures.kinds (ap is_simple_and_free is ∙ program_is_free)) in
    request_is (texts_of c.args.words.now) (subcommand_rows_of c.in-Ok.matches) c.request_by.result named clean
    c.request_by.ensures.asked

-- if clap finds no fault and the command is no request, the words are refused
pub returns-in-Ok-clause-refused : goal.returns-in-Ok-clause-refused
returns-in-Ok-clause-refused c =
    let is : app_of c.in_ok-command.command ≡ program = c.in_ok-command.ensures in
    let named : subcommand_rows_of c.in-Ok.matches ≡ subcommand_of program (texts_of c.args.words.now) =
    (c.in-Ok.ensures.matches (ap is_simple is ∙ program_is_simple)).1
    ∙ ap (λ (app : App). subcommand_of app (texts_of c.args.words.now)) is in
    let clean : fault_of program (texts_of c.args.words.now) ≡ [] =
    subst (λ (app : App). fault_of app (texts_of c.args.words.now) ≡ []) is
    (c.in-Ok.ensures.kinds (ap is_simple_and_free is ∙ program_is_free)) in
    refusal_is (texts_of c.args.words.now) (subcommand_rows_of c.in-Ok.matches) c.request_by.result named clean
    c.request_by.ensures.refused

-- if clap finds a fault, the words are refused
pub returns-in-Err-clause-refused : goal.returns-in-Err-clause-refused
returns-in-Err-clause-refused c =
    let is : app_of c.in_ok-command.command ≡ program = c.in_ok-command.ensures in
    let words = texts_of c.args.words.now in
    refusal_by words (kind_of c.in-Err.error) c.fault_by.result c.fault_by.ensures
    (subst (λ (app : App). HasKind (fault_of app words) c.in-Err.error) is
    (c.in-Err.ensures.kinds (ap is_simple_and_free is ∙ program_is_free)))
