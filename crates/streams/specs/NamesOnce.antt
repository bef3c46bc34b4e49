-- The premise that no folder lists a name twice.
use Rattle.std.specs.Prelude.{◌≡◌, ◌≢◌, List, Ok, bytes_eq, ℕ}
use Rattle.std.specs.List.{All, IsDistinct}
use Rattle.streams.specs.Traversal.{FolderTree}

-- each folder of the tree lists no name twice, and no name with a `/` in it
abbrev pub ListsNamesOnce : FolderTree → Type 0
ListsNamesOnce tree =
    (path : List ℕ) (names : List (List ℕ)) → tree.names path ≡ Ok names
    → IsDistinct bytes_eq names × All (λ name. All (λ byte. byte ≢ 47) name) names
