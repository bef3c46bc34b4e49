use Rattle.std.proofs.Common.{ℕ, ◌+◌, ◌==◌, ◌≡◌, ◌<◌, ◌^◌, ◌∙◌, ◌++◌, ◌∷◌, [], List, ap}
use Rattle.std.proofs.Common.{append-nil, arith, get_or, length, map, not, subst, sym, take, refl}
use Rattle.std.specs.List.{filter}
use Rattle.std.proofs.lemmas.Bool.{ne_eqb}
use Rattle.std.proofs.lemmas.List.{map-append, take_all, take_more}
use Rattle.std.specs.Prelude.{All}
use Rattle.std.proofs.lemmas.List.Elements.{All-push, filter-append}
use Rattle.number_lists.specs.Rising.{IsRising}
use Rattle.number_lists.specs.RisingOrder.{rising}
use Rattle.held_release.specs.declared.coded_rows.CodedRow.{CodedRow}
use Rattle.postings.specs.inside.Coded.{numbers_of_groups}
use Rattle.postings.proofs.RisingLemmas.{listed_is_rising, rising-rises}
use Rattle.postings.proofs.groups.put_group_numbers.Goals as goal
use Rattle.postings.proofs.groups.put_group_numbers.Goals.{then-row-ne0+in_ok-push, else-row-ne0}

-- the group numbers of rows, row by row, without 0
abbrev numbered : List CodedRow → List ℕ
numbered rows = filter (λ group. not (group == 0)) (map (λ (row : CodedRow). row.group) rows)

-- one row more adds its group number, if it has one
numbered_more : (rows : List CodedRow) (i : ℕ) (none : CodedRow) → i < length rows
    → numbered (take (i + 1) rows) ≡ numbered (take i rows) ++ numbered (get_or rows i none ∷ [])
numbered_more rows i none within =
    let group = λ (row : CodedRow). row.group in
    let test = λ (group : ℕ). not (group == 0) in
    ap numbered (take_more rows i none within)
    ∙ ap (filter test) (map-append group (take i rows) (get_or rows i none ∷ []))
    ∙ filter-append test (map group (take i rows)) (group (get_or rows i none) ∷ [])

-- after one row more `numbers` has the group numbers up to that row, and 32 bits hold each
pub loop-row-preserved : goal.loop-row-preserved
loop-row-preserved c =
    let none : CodedRow = record { source = 0; type_place = 0; group = 0; value = 0 } in
    let row = get_or c.args.rows.now c.loop-row.row-index none in
    let more = numbered_more c.args.rows.now c.loop-row.row-index none c.loop-row-test.true in
    let so_far = c.loop-row.invariant.numbers in
    let small : All (λ number. number < 2 ^ 32) (c.loop-row.numbers.items ++ row.group ∷ []) =
    All-push (λ number. number < 2 ^ 32) c.loop-row.numbers.items row.group c.loop-row.invariant.small (omega arith) in
    elim c.if-row-ne0.branch [
      | then-row-ne0+in_ok-push w ↦ record {
        numbers = rw (w.numbers-is, w.in_ok-push.ensures.items, more, so_far, ne_eqb row.group 0 w.if-row-ne0.true)
            refl;
        small = rw (w.numbers-is, w.in_ok-push.ensures.items) small;
      }
      | else-row-ne0 w ↦ record {
        numbers = rw (w.numbers-is, more, so_far, w.if-row-ne0.false)
            (sym (append-nil (numbered (take c.loop-row.row-index c.args.rows.now))));
        small = rw w.numbers-is c.loop-row.invariant.small;
      }
    ]

-- after `keep_rising` the numbers are those of the groups, rising and each once
pub returns : goal.returns
returns c =
    let kept = listed_is_rising c.loop-row.numbers.items c.keep_rising.new.numbers.items c.keep_rising.ensures in
    record {
      numbers = kept
          ∙ ap rising c.loop-row.invariant.numbers
          ∙ ap numbers_of_groups (take_all c.loop-row.row-index c.args.rows.now c.loop-row-test.false);
      rising = subst (λ (numbers : List ℕ). IsRising numbers) (sym kept)
          (rising-rises (2 ^ 32) c.loop-row.numbers.items c.loop-row.invariant.small);
    }
