use Rattle.std.proofs.Common.{◌∙◌, ap, codes, Option, subst, sym}
use Rattle.std.proofs.lemmas.Result.{IfOk-weaker}
use Rattle.std.specs.Borrow.{Bor}
use Rattle.std.specs.Prelude.{unwrap_or}
use Rattle.clap.specs.Words.{Text, first_value, found_of}
use Rattle.clap.proofs.WalkLemmas.{first_value-rows}
use Rattle.command_line.specs.CommandLine.{AreOneToNine, default_language}
use Rattle.command_line.proofs.WordLemmas.{lent_or}
use Rattle.command_line.proofs.words.language_request.Goals as goal

-- the request has the folders and the language of the rows, or the default language
pub returns-clause-asked : goal.returns-clause-asked
returns-clause-asked c =
    let found = found_of c.args.arguments.now in
    IfOk-weaker c.of_folders.result _ _ (λ request asked. (
      asked.0,
      (asked.1 ∙ c.folders_of.ensures, subst AreOneToNine c.folders_of.ensures asked.2),
      ap (λ (lang : Option Text). unwrap_or lang default_language) (sym (first_value-rows found (codes "lang")))
          ∙ sym (lent_or c.get_str.result _ (first_value found (codes "lang")) c.get_str.ensures)
          ∙ ap (λ (lang : Bor Text). lang.now) (sym c.unwrap_or-lang.ensures)
          ∙ sym asked.3,
    )) c.of_folders.ensures.asked
