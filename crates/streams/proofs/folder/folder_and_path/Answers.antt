use Rattle.std.proofs.Common.{◌≡◌, arith, rules, get_or, length, refl}
use Rattle.std.proofs.lemmas.Option.{slice_get-get_or}
use Rattle.streams.proofs.folder.folder_and_path.Goals as goal

-- if there is one folder, the name is the path below it
pub returns-in-len1 : goal.returns-in-len1
returns-in-len1 c =
    let only : length c.args.folders.now ≡ 1 = omega arith in (
      λ one. (
        (
          get_or c.args.folders.now 0 c.folder-item.result,
          slice_get-get_or c.args.folders.now 0 c.folder-item.result c.in-len1.len_at_least,
          search rules,
        ),
        refl,
      ),
      λ several. absurd (several only),
    )
