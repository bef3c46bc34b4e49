use Rattle.std.proofs.Common.{ℕ, ◌+◌, ◌≡◌, ◌∙◌, get_or, set, sym, ap, subst, arith}
use Rattle.postings.specs.Columns.{Flagged}
use Rattle.held_release.specs.declared.coded_rows.CodedRow.{CodedRow}
use Rattle.postings.proofs.KeptLemmas.{AreNumbered, numbered_more}
use Rattle.postings.proofs.row_indexes.numbers_by_group.Goals as goal

-- before the first row there is a group number, 0, for each group
pub loop-place-init : goal.loop-place-init
loop-place-init c = record {
  len = c.in_ok-numbers.ensures.len;
  numbers = λ n mark row below. absurd (omega (arith, below));
}

-- the number of each row's group is below the number of groups
pub index_mut-requires : goal.index_mut-requires
index_mut-requires c =
    let at = c.loop-place.place in
    let some : Flagged = c.index-marks-place.result in
    omega (
      arith,
      c.number.ensures.number,
      ap (λ (mark : Flagged). mark.number) c.index-marks-place.is,
      c.requires.within at some (omega (arith, c.requires.long, c.loop-place-test.true)),
      c.loop-place.invariant.len,
    )

-- one row more sets the group number of its group
pub loop-place-preserved : goal.loop-place-preserved
loop-place-preserved c =
    let marks = c.args.marks.now in
    let rows = c.args.rows.now in
    let at = c.loop-place.place in
    let some : Flagged = c.index-marks-place.result in
    let none : CodedRow = record { source = 0; type_place = 0; group = 0; value = 0 } in
    let unit : (get_or marks at some).number ≡ c.number.result =
    sym (c.number.ensures.number ∙ ap (λ (mark : Flagged). mark.number) c.index-marks-place.is) in
    record {
      len = c.loop-place.invariant.len;
      numbers = subst (λ (unit : ℕ). AreNumbered marks rows (at + 1)
          (set c.loop-place.numbers.items unit (get_or rows at none).group)) unit
          (numbered_more marks rows c.loop-place.numbers.items at some none c.loop-place-test.true c.requires.long
          c.requires.one
          (omega (
            arith,
            c.requires.within at some (omega (arith, c.requires.long, c.loop-place-test.true)),
            c.loop-place.invariant.len,
          )) c.loop-place.invariant.numbers);
    }
