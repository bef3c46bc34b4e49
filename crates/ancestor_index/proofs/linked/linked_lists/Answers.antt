use Rattle.std.proofs.Common.{ℕ, ◌≡◌, ◌∙◌, List, length, map, ap, subst, arith}
use Rattle.std.specs.Prelude.{IfOk}
use Rattle.number_lists.specs.Rising.{listed_numbers}
use Rattle.number_lists.proofs.KeyedLemmas.{length-lists_by}
use Rattle.hierarchy.proofs.WayLemmas.{parents_below}
use Rattle.ancestor_index.specs.HierarchyLists.{is_child, lists_where}
use Rattle.ancestor_index.proofs.BuildLemmas.{parents_listed}
use Rattle.ancestor_index.proofs.linked.linked_lists.Goals as goal

-- the parents listed by the rows are below `count`
pub rising_lists-requires-clause-items : goal.rising_lists-requires-clause-items
rising_lists-requires-clause-items c =
    parents_below c.args.count c.args.rows.now c.in_ok-by_row.by_row c.requires.within c.in_ok-by_row.ensures

-- there are fewer than 2^32 lists by the rows
pub rising_lists-requires-clause-few : goal.rising_lists-requires-clause-few
rising_lists-requires-clause-few c =
    omega (
      arith,
      ap (λ (all : List (List ℕ)). length all) c.in_ok-by_row.ensures,
      length-lists_by c.args.count
          c.args.rows.now,
    )

-- the lists by the rows, sorted without repeats, have for each concept what a row leads to
pub returns : goal.returns
returns c =
    let linked : map (listed_numbers c.args.count) c.in_ok-by_row.by_row
    ≡ lists_where c.args.count (is_child c.args.rows.now) =
    ap (map (listed_numbers c.args.count)) c.in_ok-by_row.ensures ∙ parents_listed c.args.count c.args.rows.now in
    subst (λ (found : List (List ℕ)). IfOk c.rising_lists.result (λ lists. lists ≡ found)) linked c.rising_lists.ensures
