use Rattle.std.proofs.Common.{subst}
use Rattle.std.specs.List.Sorted.{IsSorted}
use Rattle.std.specs.Ordering.{int_cmp}
use Rattle.std.proofs.lemmas.Cmp.{int_cmp_total}
use Rattle.postings.specs.Indexed.{Indexed}
use Rattle.held_release.proofs.TableLemmas.{rising_is_sorted}
use Rattle.postings.proofs.index.Indexes.decimals.Goals as goal

-- the decimals are sorted, since they rise strictly
pub returns-clause-rising : goal.returns-clause-rising
returns-clause-rising c =
    subst (λ (indexed : Indexed). IsSorted int_cmp indexed.decimals) c.self.view_is
    (rising_is_sorted int_cmp_total c.self.inside.rows.values.decimals.items
    c.self.invariant.rows.coded.tables.rising.decimals_rise)
