use Rattle.std.proofs.Common.{◌∙◌, ap, codes, List, [], Option}
use Rattle.std.specs.Prelude.{unwrap_or}
use Rattle.clap.specs.Words.{Text, found_of}
use Rattle.clap.proofs.WalkLemmas.{raw_values-rows}
use Rattle.command_line.proofs.words.folders_of.Goals as goal

-- without folders in the matches, there are none
pub returns-in_default : goal.returns-in_default
returns-in_default c =
    ap (λ (folders : Option (List Text)). unwrap_or folders []) (c.in_default.ensures
    ∙ raw_values-rows (found_of c.args.arguments.now) (codes "FOLDER"))

-- the folders in the matches are those of the rows
pub returns : goal.returns
returns c =
    ap (λ (folders : Option (List Text)). unwrap_or folders []) (c.in-Some.ensures
    ∙ raw_values-rows (found_of c.args.arguments.now) (codes "FOLDER"))
