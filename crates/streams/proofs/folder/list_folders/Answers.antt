use Rattle.std.proofs.Common.{◌≡◌, ◌≢◌, ◌∙◌, ap, arith, rules, get_or, length, map, string_bytes}
use Rattle.std.proofs.lemmas.Option.{slice_get-get_or}
use Rattle.std.proofs.lemmas.Result.{IfOk-weaker}
use Rattle.streams.specs.Traversal.{AreFilesBelow, AreFilesOf, AreFilesOfAll}
use Rattle.streams.proofs.folder.list_folders.Goals as goal

-- if there is one folder, the names are the paths of its files
pub returns-in-len1 : goal.returns-in-len1
returns-in-len1 g c tree told =
    let folders = c.args.folders.now in
    let only : length folders ≡ 1 = omega arith in
    IfOk-weaker c.list_files.result (λ names. AreFilesBelow tree c.as_str.result.now (map string_bytes names.items))
    (λ names. AreFilesOf tree folders (map string_bytes names.items))
    (λ names below. (
      λ one. (
        c.as_str.result.now,
        (
          get_or folders 0 c.folder-item.result,
          slice_get-get_or folders 0 c.folder-item.result c.in-len1.len_at_least,
          c.as_str.ensures.value ∙ ap string_bytes c.folder-item.is,
        ),
        below,
      ),
      λ several. absurd (several only),
    ))
    (c.list_files.ensures tree told)

-- if there is not exactly one folder, the names are paths after the numbers of the folders
pub returns : goal.returns
returns g c tree told =
    let folders = c.args.folders.now in
    let several : length folders ≢ 1 = search rules in
    IfOk-weaker c.list_several.result (λ names. AreFilesOfAll tree 1 folders (map string_bytes names.items))
    (λ names. AreFilesOf tree folders (map string_bytes names.items))
    (λ names all. (λ one. absurd (several one), λ other. all))
    (c.list_several.ensures tree told)
