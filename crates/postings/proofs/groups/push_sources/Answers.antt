use Rattle.std.proofs.Common.{ℕ, ◌≡◌, ◌++◌, ◌∷◌, [], ◌∙◌, List, ap, append_assoc, get_or, nat_eq, not, sym, take}
use Rattle.std.specs.List.{list_any}
use Rattle.std.proofs.lemmas.Cmp.{nat_eq_equiv}
use Rattle.std.proofs.lemmas.List.{take_all}
use Rattle.std.proofs.lemmas.List.Elements.{All-more}
use Rattle.key_interner.specs.KeyInterner.{keys_after}
use Rattle.postings.specs.inside.Coded.{has_same_pair, pair_code, source_marks}
use Rattle.postings.specs.Columns.{Flagged}
use Rattle.postings.specs.inside.PairKeys.{IsShort, pair_key}
use Rattle.held_release.specs.declared.coded_rows.CodedRow.{CodedRow}
use Rattle.held_release.proofs.DistinctPlaceLemmas.{distinct-map_more}
use Rattle.postings.proofs.MarkLemmas.{marks_more}
use Rattle.postings.proofs.PairKeyLemmas.{any-key, same_pair}
use Rattle.postings.proofs.groups.push_sources.Goals as goal

-- one row more adds its mark with the source, and its key
pub loop-row-preserved : goal.loop-row-preserved
loop-row-preserved c =
    let rows : List CodedRow = c.args.rows.now in
    let at : ℕ = c.loop-row.row-index in
    let within = c.loop-row-test.true in
    let none : CodedRow = record { source = 0; type_place = 0; group = 0; value = 0 } in
    let row : CodedRow = get_or rows at none in
    let before : List Flagged = c.args.sources.now.items in
    let mark : Flagged = c.new.result in
    let pushed : c.push.new.self.items ≡ c.loop-row.sources.items ++ mark ∷ [] = c.in_ok-push.ensures.items in
    record {
      short = All-more (λ (row : CodedRow). IsShort (pair_code row)) rows at none within c.loop-row.invariant.short
          c.pair_key.ensures.short;
      seen = c.in_ok-is_first.ensures.keys
          ∙ (λ i. keys_after (c.loop-row.invariant.seen i) (c.pair_key.ensures.key i))
          ∙ sym (distinct-map_more nat_eq nat_eq_equiv pair_key rows at none within);
      marks = pushed
          ∙ (λ i. c.loop-row.invariant.marks i ++ mark ∷ [])
          ∙ append_assoc before (source_marks (take at rows)) (mark ∷ [])
          ∙ ap (λ marks. before ++ marks)
          (marks_more has_same_pair (λ row. row.source) rows at none mark within c.new.ensures.number
          (c.new.ensures.first ∙ c.in_ok-is_first.ensures.new
          ∙ (λ i. not (list_any (nat_eq (c.pair_key.ensures.key i)) (c.loop-row.invariant.seen i)))
          ∙ ap not (any-key has_same_pair pair_key same_pair (take at rows) row c.loop-row.invariant.short
          c.pair_key.ensures.short)));
    }

-- after the last row `sources` has got the marks of all rows with their source
pub returns : goal.returns
returns c =
    c.loop-row.invariant.marks
    ∙ ap (λ (rows : List CodedRow). c.args.sources.now.items ++ source_marks rows)
    (take_all c.loop-row.row-index c.args.rows.now c.loop-row-test.false)
