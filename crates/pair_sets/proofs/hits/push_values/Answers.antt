use Rattle.std.proofs.Common.{ℕ, Vec, Bool, ◌≡◌, ◌<◌, ◌∙◌, ◌∷◌, ◌==◌, ◌&&◌, ◌+◌, [], List, All, ltb, true, false}
use Rattle.std.proofs.Common.{get_or, length, refl, sym, ap, subst, arith}
use Rattle.std.specs.Prelude.{count_by}
use Rattle.std.proofs.lemmas.Bool.{and_parts, ltb-true}
use Rattle.std.proofs.lemmas.List.{take_all}
use Rattle.std.proofs.lemmas.List.Elements.{All-append}
use Rattle.number_lists.specs.Members.{times}
use Rattle.pair_sets.specs.inside.Hits.{is_type_in}
use Rattle.candidates.specs.Numbers.{is_one_of}
use Rattle.pair_sets.proofs.BackLemmas.{cells_tell, counts_at, none_pushed, pushed_more}
use Rattle.pair_sets.proofs.TimesLemmas.{one_below}
use Rattle.pair_sets.proofs.TypeLemmas.{type_tells}
use Rattle.pair_sets.proofs.hits.push_values.Goals as goal
use Rattle.pair_sets.proofs.hits.push_values.Goals.{then-counts+in_ok-push, else-counts}

-- the value of the row at hand is pushed exactly if the row counts for it
pub loop-n-preserved : goal.loop-n-preserved
loop-n-preserved g c =
    let indexed = c.args.reader.indexes.now in
    let rows = c.args.rows.now in
    let k = c.loop-n.n-index in
    let cells = c.cells-row.result in
    let bound : ℕ = length indexed.concepts in
    let rising = c.concept_count.ensures.numbers_rise in
    let items : List ℕ = g.S.ConceptSet.items_of c.args.types.now in
    let one : ℕ → Bool = is_one_of indexed.concepts items in
    let told : ℕ → Bool = is_type_in indexed items in
    let tells = type_tells indexed items in
    let kept : Bool = ltb cells.value bound && (cells.is_first && told cells.type_place) in
    elim c.if-counts.branch [
      | then-counts+in_ok-push w ↦
          let keeps : kept ≡ true = sym c.counts.ensures ∙ w.if-counts.true in
          let below : cells.value < bound = ltb-true cells.value bound (and_parts (ltb cells.value bound) _ keeps).0 in
          record {
            within = λ before.
                subst (All (λ number. number < length indexed.concepts))
                (sym (ap (λ (hits : Vec ℕ _). hits.items) w.hits-is ∙ w.in_ok-push.ensures.items))
                (All-append (λ number. number < length indexed.concepts) c.loop-n.hits.items (cells.value ∷ [])
                (c.loop-n.invariant.within before)
                (one_below (length indexed.concepts) cells.value below));
            times = λ number inside.
                ap (λ (hits : Vec ℕ _). times number hits.items) w.hits-is
                ∙ ap (times number) w.in_ok-push.ensures.items
                ∙ pushed_more (counts_at indexed rising one told tells bound refl number) rows k c.loop-n-test.true
                cells.value number
                (times number c.args.hits.now.items) c.loop-n.hits.items (c.loop-n.invariant.times number inside)
                (cells_tell indexed rising one told tells bound refl cells (get_or rows k 0) number
                (c.requires.rows k 0 c.loop-n-test.true)
                inside c.cells-row.ensures
                ∙ (λ i. keeps i && (cells.value == number)));
          }
      | else-counts w ↦
          let leaves : kept ≡ false = sym c.counts.ensures ∙ w.if-counts.false in
          record {
            within = λ before.
                subst (All (λ number. number < length indexed.concepts))
                (sym (ap (λ (hits : Vec ℕ _). hits.items) w.hits-is))
                (c.loop-n.invariant.within before);
            times = λ number inside.
                ap (λ (hits : Vec ℕ _). times number hits.items) w.hits-is
                ∙ none_pushed (counts_at indexed rising one told tells bound refl number) rows k c.loop-n-test.true
                cells.value number
                (times number c.args.hits.now.items) c.loop-n.hits.items (c.loop-n.invariant.times number inside)
                (cells_tell indexed rising one told tells bound refl cells (get_or rows k 0) number
                (c.requires.rows k 0 c.loop-n-test.true)
                inside c.cells-row.ensures
                ∙ (λ i. leaves i && (cells.value == number)));
          }
    ]

-- after the last row, each number is pushed as often as rows count for it
pub returns-clause-times : goal.returns-clause-times
returns-clause-times g c = λ number inside.
    let indexed = c.args.reader.indexes.now in
    let items : List ℕ = g.S.ConceptSet.items_of c.args.types.now in
    c.loop-n.invariant.times number inside
    ∙ ap (λ (rows : List ℕ). times number c.args.hits.now.items
    + count_by (counts_at indexed c.concept_count.ensures.numbers_rise (is_one_of indexed.concepts items)
    (is_type_in indexed items) (type_tells indexed items)
    (length indexed.concepts) refl number) rows)
    (take_all c.loop-n.n-index c.args.rows.now (omega arith))
