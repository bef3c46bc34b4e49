-- Kinds of files by their numbers, and how many rows of each kind there are.
use Rattle.std.proofs.lemmas.Bool.Decides.{nat_tests}
use Rattle.std.proofs.lemmas.Grind.{common_steps}
use Rattle.std.proofs.Common.{◌≡◌, ◌+◌, true, List, [], ◌∷◌, ◌++◌, length, arith, cond, refl}
use Rattle.std.proofs.lemmas.List.Sums.{sum_by-append, sum_by-cons}
use Rattle.rf2_rows.specs.declared.kind.FileKind.{FileKind}
use Rattle.rf2_rows.specs.declared.kind.FileKind.TheVariants.{Concept, Concrete, Description, Member, Relationship}
use Rattle.release_rows.specs.Chosen.{same_kind}
use Rattle.release_rows.specs.Faults.{count_of_kind}
use Rattle.release_rows.specs.Files.{RowAt}

-- two kinds with one number are one kind
pub kind_same : (one other : FileKind) → same_kind one other ≡ true → one ≡ other
kind_same one other told = grind (arith, nat_tests)

-- one more row adds 1 to the count of its own kind and 0 to the others
pub count_of_kind-push : (kind : FileKind) (rows : List RowAt) (row : RowAt)
    → count_of_kind kind (rows ++ row ∷ []) ≡ count_of_kind kind rows + cond (same_kind row.kind kind) 1 0
count_of_kind-push kind rows row =
    omega (arith, sum_by-append (λ (other : RowAt). cond (same_kind other.kind kind) 1 0) rows (row ∷ []))

-- the number of rows is the sum of the numbers of rows of the five kinds
pub length-kinds : (rows : List RowAt)
    → length rows ≡ count_of_kind Concept rows + count_of_kind Description rows + count_of_kind Relationship rows
    + count_of_kind Concrete rows + count_of_kind Member rows
length-kinds [] = refl
length-kinds (row ∷ rows) = grind (arith, common_steps, nat_tests, sum_by-cons, (length-kinds rows))
