use Rattle.std.proofs.Common.{◌∙◌, ◌+◌, ◌++◌, [], List, ℕ, ap, append-nil, append_assoc, map, string_bytes, subst, sym}
use Rattle.streams.specs.Traversal.{AreFilesOfAll, numbered_name}
use Rattle.streams.proofs.TraversalLemmas.{folder_next, folder_none}
use Rattle.streams.proofs.folder.list_several.Goals as goal

-- the files of one more folder keep the invariant for the next folder
pub loop-index-preserved : goal.loop-index-preserved
loop-index-preserved g c tree others told rest =
    let number = c.loop-index.index + 1 in
    let (own, files, names) = c.in-Ok.ensures tree told in
    subst (AreFilesOfAll tree 1 c.args.folders.now)
    (sym (append_assoc (map string_bytes c.loop-index.names.items) (map (numbered_name number) own) others)
    ∙ ap (λ (before : List (List ℕ)). before ++ others) (sym names))
    (c.loop-index.invariant tree (map (numbered_name number) own ++ others) told
    (folder_next tree c.args.folders.now c.loop-index.index number c.index-folders-index.result c.as_str.result.now own
    others
    c.loop-index-test.true (c.as_str.ensures.value ∙ ap string_bytes c.index-folders-index.is) files rest))

-- after the last folder the names are those of the files of all folders
pub returns : goal.returns
returns g c tree told =
    subst (AreFilesOfAll tree 1 c.args.folders.now) (append-nil (map string_bytes c.loop-index.names.items))
    (c.loop-index.invariant tree [] told (folder_none tree c.args.folders.now c.loop-index.index
    (c.loop-index.index + 1) c.loop-index-test.false))
