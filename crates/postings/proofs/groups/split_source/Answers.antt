use Rattle.std.proofs.Common.{ℕ, ◌+◌, ◌≡◌, ◌<◌, ◌≤◌, ◌++◌, ◌∙◌, List, ap, arith, drop, get_or, length, refl, sym, take}
use Rattle.std.proofs.Common.{add-zero, inl, inr, length-append}
use Rattle.std.proofs.lemmas.Bool.{cases_lt}
use Rattle.std.proofs.lemmas.List.{get_or-append-add, get_or_append_left, take_at, drop_at}
use Rattle.held_release.specs.declared.coded_rows.CodedRow.{CodedRow}
use Rattle.postings.proofs.groups.split_source.Goals as goal
use Rattle.postings.proofs.groups.split_source.Goals.{then-loop-end-test+else-rows-end, else-loop-end-test}

-- the loop ends at the first row of another source
pub returns : goal.returns
returns c = λ own others split same apart.
    let rows = c.args.rows.now in
    let end = c.loop-end.end in
    let none : CodedRow = record { source = 0; type_place = 0; group = 0; value = 0 } in
    let all : length rows ≡ length own + length others = ap length split ∙ length-append own others in
    let reaches : length own ≤ end =
    elim (cases_lt end (length own)) [
      | inl before ↦
          let here : (get_or rows end none).source ≡ c.args.source =
          ap (λ (rows : List CodedRow). (get_or rows end none).source) split
          ∙ ap (λ (row : CodedRow). row.source) (get_or_append_left own others none end before)
          ∙ same end none before in
          elim c.loop-end-test.branch [
            | then-loop-end-test+else-rows-end w ↦ absurd (omega (arith, here, w.if-rows-end.false))
            | else-loop-end-test w ↦ absurd (omega (arith, before, all, w.loop-end-test.false))
          ]
      | inr past ↦ past
    ] in
    let stops : end ≤ length own =
    elim (cases_lt (length own) end) [
      | inl after ↦
          let other : c.args.source < (get_or others 0 none).source =
          apart 0 none (omega (arith, after, all, c.loop-end.invariant.within)) in
          let here : (get_or rows (length own) none).source ≡ (get_or others 0 none).source =
          ap (λ (rows : List CodedRow). (get_or rows (length own) none).source) split
          ∙ ap (λ (k : ℕ). (get_or (own ++ others) k none).source) (sym (add-zero (length own)))
          ∙ ap (λ (row : CodedRow). row.source) (get_or-append-add own others 0 none) in
          absurd (omega (arith, other, here, c.loop-end.invariant.own (length own) none after))
      | inr fits ↦ fits
    ] in
    let is : end ≡ length own = omega (arith, reaches, stops) in (
      c.split_at.ensures.front ∙ (λ i. take (is i) (split i)) ∙ take_at own others (length own) refl,
      c.split_at.ensures.back ∙ (λ i. drop (is i) (split i)) ∙ drop_at own others (length own) refl,
    )
