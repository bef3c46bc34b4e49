use Rattle.std.proofs.Common.{◌∙◌, ap, codes, inl, List, Option, subst, sym}
use Rattle.std.proofs.lemmas.Result.{IfErr-weaker, IfOk-weaker}
use Rattle.std.specs.Borrow.{Bor}
use Rattle.std.specs.Prelude.{unwrap_or}
use Rattle.clap.specs.Words.{Row, Text, first_value, found_of, rows_of}
use Rattle.clap.proofs.WalkLemmas.{first_value-rows}
use Rattle.command_line.specs.CommandLine.{AreOneToNine, IsFaultOfFolders, IsFaultOfQuery, IsQueryOf, default_language}
use Rattle.command_line.specs.QueryWords.{IsQueryMode}
use Rattle.command_line.specs.declared.words.Mode.{Mode}
use Rattle.command_line.proofs.WordLemmas.{lent_or}
use Rattle.command_line.proofs.words.query_request.Goals as goal

-- the request has the folders, the language and the mode of the rows
pub returns-clause-asked : goal.returns-clause-asked
returns-clause-asked c =
    let found = found_of c.args.arguments.now in
    let rows : List Row = rows_of found in
    IfOk-weaker c.of_folders.result _ (IsQueryOf rows) (λ request asked. (
      (asked.1 ∙ c.folders_of.ensures, subst AreOneToNine c.folders_of.ensures asked.2),
      ap (λ (lang : Option Text). unwrap_or lang default_language) (sym (first_value-rows found (codes "lang")))
          ∙ sym (lent_or c.get_str.result _ (first_value found (codes "lang")) c.get_str.ensures)
          ∙ ap (λ (lang : Bor Text). lang.now) (sym c.unwrap_or-lang.ensures)
          ∙ sym asked.3,
      subst (λ (mode : Mode). IsQueryMode rows mode) (sym asked.0) c.in-Ok.ensures.asked,
    )) c.of_folders.ensures.asked

-- if `query` has no folders or too many, its rows are no request
pub returns-clause-refused : goal.returns-clause-refused
returns-clause-refused c =
    let rows : List Row = rows_of (found_of c.args.arguments.now) in
    IfErr-weaker c.of_folders.result _ (IsFaultOfQuery rows)
    (λ fault none. inl (subst (λ (folders : List Text). IsFaultOfFolders folders fault) c.folders_of.ensures none))
    c.of_folders.ensures.refused
