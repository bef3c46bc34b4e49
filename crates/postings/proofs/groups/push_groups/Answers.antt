use Rattle.std.proofs.Common.{ℕ, ◌+◌, ◌≡◌, ◌≤◌, ◌++◌, ◌∷◌, [], ◌∙◌, List, ap, append_assoc, arith, drop, nat_eq}
use Rattle.std.proofs.Common.{get_or, length, length-take, not, subst, sym, take}
use Rattle.std.specs.List.{list_any}
use Rattle.std.proofs.lemmas.Cmp.{nat_eq_equiv}
use Rattle.std.proofs.lemmas.List.{take_all, take_more}
use Rattle.std.proofs.lemmas.List.Elements.{All-more}
use Rattle.key_interner.specs.KeyInterner.{keys_after}
use Rattle.number_lists.proofs.ListLemmas.{split_at}
use Rattle.postings.specs.inside.Coded.{group_codes, has_same_in_group, marks_after, numbers_of_groups, pair_code}
use Rattle.postings.specs.inside.Coded.{place_in_source}
use Rattle.postings.specs.inside.PairKeys.{IsShort, grouped_key, ungrouped_keys}
use Rattle.held_release.specs.declared.coded_rows.CodedRow.{CodedRow}
use Rattle.held_release.proofs.DistinctPlaceLemmas.{distinct-map_more}
use Rattle.postings.proofs.GroupLemmas.{length-group_codes, length-group_codes-le, place_in_source-le}
use Rattle.postings.proofs.MarkLemmas.{marks_more}
use Rattle.postings.proofs.PairKeyLemmas.{HaveShort, any-key, length-ungrouped_keys, same_in_group}
use Rattle.postings.proofs.groups.push_groups.Goals as goal
use Rattle.postings.proofs.groups.push_groups.Goals.{After-len-2, In_ok-place}

-- a row for reading lists past their end
none : CodedRow
none = record { source = 0; type_place = 0; group = 0; value = 0 }

-- the place that was found is that of the row's group
placed : (c : In_ok-place)
    → c.in_ok-place.place ≡ place_in_source c.args.rows.now (get_or c.args.rows.now c.loop-row.row-index none)
unfolding none
placed c =
    let rows : List CodedRow = c.args.rows.now in
    let at : ℕ = c.loop-row.row-index in
    let row : CodedRow = get_or rows at none in
    let split : rows ≡ take at rows ++ row ∷ drop (at + 1) rows = split_at rows at none c.loop-row-test.true in
    c.in_ok-place.ensures.place (take at rows) (drop (at + 1) rows) c.loop-row.invariant.short
    (c.as_slice.ensures.value ∙ c.loop-row.invariant.numbers ∙ ap numbers_of_groups split)
    c.loop-row.invariant.ungrouped
    ∙ ap (λ (rows : List CodedRow). place_in_source rows row) (sym split)

-- the place of a row's group is at most the number of rows
near : (c : In_ok-place) → c.in_ok-place.place ≤ length c.args.rows.now
near c =
    let rows = c.args.rows.now in
    omega (arith, placed c, place_in_source-le rows (get_or rows c.loop-row.row-index none), length-group_codes-le rows)

-- there are less than 2^32 pairs without a group number so far
pub group_place-requires-clause-few : goal.group_place-requires-clause-few
group_place-requires-clause-few c =
    let before : List CodedRow = take c.loop-row.row-index c.args.rows.now in
    omega (
      arith,
      c.requires,
      ap (λ (keys : List ℕ). length keys) c.loop-row.invariant.ungrouped,
      length-ungrouped_keys before c.loop-row.invariant.short,
      length-group_codes before,
      length-group_codes-le before,
      length-take c.loop-row.row-index c.args.rows.now,
    )

-- 32 bits hold the place of a row's group
pub overflow_cast-place : goal.overflow_cast-place
overflow_cast-place c = omega (arith, c.requires, near (goal.at.overflow_cast-place c).In_ok-place)

-- 32 bits hold the number of a row's group
pub overflow_add-ahead : goal.overflow_add-ahead
overflow_add-ahead c = omega (arith, c.requires, near (goal.at.overflow_add-ahead c).In_ok-place)

-- the number of a row's group is below 2^31
pub new-requires : goal.new-requires
new-requires c = omega (arith, c.requires, near (goal.at.new-requires c).In_ok-place)

-- one row more adds its mark, its key and its pair
pub loop-row-preserved : goal.loop-row-preserved
unfolding none
loop-row-preserved c =
    let rows : List CodedRow = c.args.rows.now in
    let at : ℕ = c.loop-row.row-index in
    let row : CodedRow = get_or rows at none in
    let within = c.loop-row-test.true in
    let number : CodedRow → ℕ = λ row. c.args.ahead + place_in_source rows row in
    record {
      numbers = c.loop-row.invariant.numbers;
      rising = c.loop-row.invariant.rising;
      short = All-more (λ (row : CodedRow). IsShort (pair_code row)) rows at none within c.loop-row.invariant.short
          c.grouped_key.ensures.short;
      ungrouped = c.in_ok-place.ensures.ungrouped (take at rows) c.loop-row.invariant.ungrouped
          ∙ ap ungrouped_keys (sym (take_more rows at none within));
      seen = c.in_ok-is_first.ensures.keys
          ∙ (λ i. keys_after (c.loop-row.invariant.seen i) (c.grouped_key.ensures.key i))
          ∙ sym (distinct-map_more nat_eq nat_eq_equiv grouped_key rows at none within);
      marks = c.in_ok-push.ensures.items
          ∙ (λ i. c.loop-row.invariant.marks i ++ c.new.result ∷ [])
          ∙ append_assoc c.args.groups.now.items (marks_after has_same_in_group number [] (take at rows))
          (c.new.result ∷ [])
          ∙ ap (λ marks. c.args.groups.now.items ++ marks)
          (marks_more has_same_in_group number rows at none c.new.result within
          (c.new.ensures.number ∙ ap (λ (place : ℕ). c.args.ahead + place)
          (placed (goal.at.loop-row-preserved c).In_ok-place))
          (c.new.ensures.first ∙ c.in_ok-is_first.ensures.new
          ∙ (λ i. not (list_any (nat_eq (c.grouped_key.ensures.key i)) (c.loop-row.invariant.seen i)))
          ∙ ap not (any-key has_same_in_group grouped_key same_in_group (take at rows) row c.loop-row.invariant.short
          c.grouped_key.ensures.short)));
    }

-- the group numbers and the pairs without one are together as many as the groups of the rows
counted : (c : After-len-2) → c.len.result + c.len-2.result ≡ length (group_codes c.args.rows.now)
counted c =
    let rows : List CodedRow = c.args.rows.now in
    let all : take c.loop-row.row-index rows ≡ rows = take_all c.loop-row.row-index rows c.loop-row-test.false in
    omega (
      arith,
      c.len.ensures,
      c.len-2.ensures,
      ap (λ (numbers : List ℕ). length numbers) c.loop-row.invariant.numbers,
      ap (λ (keys : List ℕ). length keys) (c.loop-row.invariant.ungrouped ∙ ap ungrouped_keys all),
      length-ungrouped_keys rows (subst HaveShort all c.loop-row.invariant.short),
      length-group_codes rows,
    )

-- the sum of the group numbers and the pairs without one fits in a `usize`
pub overflow_add-result : goal.overflow_add-result
overflow_add-result c =
    record {
      fits = omega (
        arith,
        c.requires,
        counted (goal.at.overflow_add-result c).After-len-2,
        length-group_codes-le c.args.rows.now,
      );
    }

-- 32 bits hold the number of groups of the rows
pub overflow_cast-result : goal.overflow_cast-result
overflow_cast-result c = omega (arith, c.requires, counted c, length-group_codes-le c.args.rows.now)

-- after the last row `groups` has got the marks of all rows with their groups
pub returns-clause-groups : goal.returns-clause-groups
returns-clause-groups c =
    let rows : List CodedRow = c.args.rows.now in
    let number : CodedRow → ℕ = λ row. c.args.ahead + place_in_source rows row in
    c.loop-row.invariant.marks
    ∙ ap (λ (own : List CodedRow). c.args.groups.now.items ++ marks_after has_same_in_group number [] own)
    (take_all c.loop-row.row-index rows c.loop-row-test.false)

-- `push_groups` returns how many groups the rows have
pub returns-clause-count : goal.returns-clause-count
returns-clause-count c = counted (goal.at.returns-clause-count c).After-len-2

-- the rows have no more groups than there are rows
pub returns-clause-few : goal.returns-clause-few
returns-clause-few c = omega
    (arith, counted (goal.at.returns-clause-few c).After-len-2, length-group_codes-le c.args.rows.now)
