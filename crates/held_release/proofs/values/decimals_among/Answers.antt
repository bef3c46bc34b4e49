use Rattle.std.proofs.Common.{ℤ, ◌≡◌, ◌∙◌, List, map, refl, sym, ap, subst}
use Rattle.std.specs.Prelude.{Contains}
use Rattle.std.specs.List.{dedup}
use Rattle.std.specs.List.Sorted.{IsStrictlySortedBy}
use Rattle.std.specs.Ordering.{int_cmp, int_eq}
use Rattle.std.proofs.lemmas.Bool.Decides.{Decides-int_eq}
use Rattle.std.proofs.lemmas.Cmp.{int_cmp_total, int_eq_equiv}
use Rattle.std.proofs.lemmas.List.{take_all}
use Rattle.std.proofs.lemmas.List.Filters.{dedup_is}
use Rattle.std.proofs.lemmas.List.Kept.{Contains-dedup, Contains-from_dedup, IsStrictlySortedBy-dedup}
use Rattle.std.proofs.lemmas.List.Sorted.{Contains-permutation, IsPermutation-sym}
use Rattle.held_release.specs.RowValues.{decimals_of}
use Rattle.held_release.specs.declared.numbered_attributes.NumberedRow.{NumberedRow}
use Rattle.held_release.specs.inside.NumberedInside.{row_numbered}
use Rattle.held_release.proofs.values.decimals_among.Goals as goal
use Rattle.held_release.proofs.values.decimals_among.Goals.{After-dedup}

-- the decimals of all rows are gathered
gathered : (c : After-dedup)
    → c.loop-row.decimals.items ≡ decimals_of (map (row_numbered c.args.concrete.now) c.args.rows.now)
gathered c =
    c.loop-row.invariant
    ∙ ap (λ (rows : List NumberedRow). decimals_of (map (row_numbered c.args.concrete.now) rows))
    (take_all c.loop-row.row-index c.args.rows.now c.loop-row-test.false)

-- the decimals that are left have no repeats
left : (c : After-dedup) → c.dedup.new.self.items ≡ dedup int_eq c.sort_unstable.new.self.items
left c = dedup_is int_eq c.sort_unstable.new.self.items c.dedup.new.self.items c.dedup.ensures.filtered

-- the decimals rise strictly
pub returns-clause-rising : goal.returns-clause-rising
returns-clause-rising c =
    subst (IsStrictlySortedBy int_cmp) (sym (left (goal.at.returns-clause-rising c).After-dedup))
    (IsStrictlySortedBy-dedup int_cmp_total (λ one other. refl) c.sort_unstable.new.self.items
    c.sort_unstable.ensures.sorted)

-- the decimals are those among the values of the rows
pub returns-clause-members : goal.returns-clause-members
returns-clause-members c = λ decimal.
    let at = (goal.at.returns-clause-members c).After-dedup in
    let sorted = c.sort_unstable.new.self.items in
    let moved = c.sort_unstable.ensures.permutation in (
      λ there. subst (λ (all : List ℤ). Contains all decimal) (gathered at)
          (Contains-permutation sorted c.loop-row.decimals.items decimal
          (IsPermutation-sym c.loop-row.decimals.items sorted moved)
          (Contains-from_dedup int_eq sorted decimal (subst (λ (all : List ℤ). Contains all decimal) (left at) there))),
      λ there. subst (λ (all : List ℤ). Contains all decimal) (sym (left at))
          (Contains-dedup int_eq_equiv (λ x y. (Decides-int_eq x y).0) sorted decimal
          (Contains-permutation c.loop-row.decimals.items sorted decimal moved
          (subst (λ (all : List ℤ). Contains all decimal) (sym (gathered at)) there))),
    )
