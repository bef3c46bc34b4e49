use Rattle.std.proofs.Common.{◌≡◌, ◌<◌, ◌∙◌, Some, ap, length, rules, slice_index_or, sym}
use Rattle.std.proofs.lemmas.Option.{slice_get-get_or}
use Rattle.streams.proofs.folder.numbered.Goals as goal

-- the number before the first `/` is that of the folder that is answered
pub returns : goal.returns
returns c =
    let index = c.in_ok-index.index in
    let folder = c.in_ok-get.field-0.now in
    let item : folder ≡ slice_index_or c.args.folders.now index folder = search rules in
    let inside : index < length c.args.folders.now = search rules in
    let found = slice_get-get_or c.args.folders.now index folder inside ∙ ap (λ text. Some text) (sym item) in
    (index, (folder, found, c.as_str.ensures.value), search rules, search rules)
