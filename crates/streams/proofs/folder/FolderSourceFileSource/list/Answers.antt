use Rattle.std.proofs.Common.{map, string_bytes}
use Rattle.streams.specs.Traversal.{AreFilesOf}
use Rattle.streams.proofs.TraversalLemmas.{given_ok}
use Rattle.streams.proofs.folder.FolderSourceFileSource.list.Goals as goal

-- the names that the source answers are those of the files of the folders
pub returns-clause-listed : goal.returns-clause-listed
returns-clause-listed g c tree told =
    given_ok (λ names. AreFilesOf tree c.args.self.now.folders.now (map string_bytes names.items)) c.counted.result
    c.list_seeded-names.result c.counted.ensures.value (c.list_seeded-names.ensures tree told)
