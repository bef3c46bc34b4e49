use Rattle.std.proofs.Common.{arith}
use Rattle.std.proofs.lemmas.Bool.Decides.{nat_tests}
use Rattle.std.proofs.lemmas.Grind.{common_steps}
use Rattle.release_rows.proofs.PiecesLemmas.{in_byte_order, in_order}
use Rattle.release_rows.proofs.TakingLemmas.{at_told, if_told}
use Rattle.release_rows.proofs.file_names.list_names.Goals as goal

-- the sorted names are those of the files that the source tells, in byte order
pub returns-clause-listed : goal.returns-clause-listed
returns-clause-listed g c = (
  if_told _ (g.S.FileSource.files c.args.source.now) (λ known told.
      in_order known c.in-Ok.listed.items c.sort_unstable.new.self.items (at_told _ _ known told c.in-Ok.ensures.names)
      c.sort_unstable.ensures.permutation c.sort_unstable.ensures.sorted),
  c.in-Ok.ensures.failures,
)

-- the names that are left are in byte order
pub returns-clause-rising : goal.returns-clause-rising
returns-clause-rising g c = grind (arith, common_steps, nat_tests, in_byte_order)
