use Rattle.std.proofs.Common.{ℕ, ◌≡◌, ◌<◌, ◌∙◌, ◌&&◌, length, ltb, not, sym, ap, subst}
use Rattle.std.specs.Prelude.{All}
use Rattle.std.proofs.lemmas.Bool.{le-ltb, lt-ltb}
use Rattle.pair_sets.specs.declared.tested.Tested.{Tested}
use Rattle.number_lists.specs.Members.{has}
use Rattle.pair_sets.specs.inside.Hits.{value_of}
use Rattle.pair_sets.specs.Tested.{IsTestBelow, passes_of}
use Rattle.number_lists.proofs.RisingLemmas.{all_below}
use Rattle.pair_sets.proofs.PassingLemmas.{outside_told, within_told}
use Rattle.pair_sets.proofs.passing.passes.Goals as goal

-- a value is one of the concepts of a set exactly if the set has its number
pub returns-in-Within : goal.returns-in-Within
returns-in-Within g c =
    let indexed = c.args.reader.indexes.now in
    let set = c.in-Within.set in
    let items = g.S.ConceptSet.items_of set in
    let same : g.S.ConceptSet.bound_of set ≡ length indexed.concepts =
    subst (λ (tested : Tested _). IsTestBelow g.S.ConceptSet.bound_of (length indexed.concepts) tested) c.in-Within.is
    c.requires in
    let below = subst (λ (count : ℕ). All (λ item. item < count) items) same
    (all_below (g.S.ConceptSet.bound_of set) items (g.met.S.ConceptSet.rising set)) in
    c.has.ensures
    ∙ within_told indexed c.concept_count-concepts.ensures.numbers_rise items below c.args.value
    ∙ ap (λ (tested : Tested _). passes_of g.S.ConceptSet.items_of indexed.concepts tested
    (value_of indexed c.args.value)) (sym c.in-Within.is)

-- a concept is outside a set exactly if the set does not have its number
pub returns-then-value-concepts : goal.returns-then-value-concepts
returns-then-value-concepts g c =
    let indexed = c.args.reader.indexes.now in
    let set = c.in-Outside.set in
    let items = g.S.ConceptSet.items_of set in
    let same : g.S.ConceptSet.bound_of set ≡ length indexed.concepts =
    subst (λ (tested : Tested _). IsTestBelow g.S.ConceptSet.bound_of (length indexed.concepts) tested) c.in-Outside.is
    c.requires in
    let below = subst (λ (count : ℕ). All (λ item. item < count) items) same
    (all_below (g.S.ConceptSet.bound_of set) items (g.met.S.ConceptSet.rising set)) in
    let within = subst (λ (count : ℕ). c.args.value < count) c.concept_count-concepts.ensures.numbers
    c.if-value-concepts.true in
    ap not c.has-then-value-concepts.ensures
    ∙ sym (λ i. lt-ltb c.args.value (length indexed.concepts) within i && not (has items c.args.value))
    ∙ outside_told indexed c.concept_count-concepts.ensures.numbers_rise items below c.args.value
    ∙ ap (λ (tested : Tested _). passes_of g.S.ConceptSet.items_of indexed.concepts tested
    (value_of indexed c.args.value)) (sym c.in-Outside.is)

-- a value that is no concept does not pass a test `Outside` a set
pub returns-else-value-concepts : goal.returns-else-value-concepts
returns-else-value-concepts g c =
    let indexed = c.args.reader.indexes.now in
    let set = c.in-Outside.set in
    let items = g.S.ConceptSet.items_of set in
    let same : g.S.ConceptSet.bound_of set ≡ length indexed.concepts =
    subst (λ (tested : Tested _). IsTestBelow g.S.ConceptSet.bound_of (length indexed.concepts) tested) c.in-Outside.is
    c.requires in
    let below = subst (λ (count : ℕ). All (λ item. item < count) items) same
    (all_below (g.S.ConceptSet.bound_of set) items (g.met.S.ConceptSet.rising set)) in
    let is = c.concept_count-concepts.ensures.numbers in
    let past : ltb c.args.value (length indexed.concepts) ≡ ltb c.args.value c.concept_count-concepts.result =
    ap (ltb c.args.value) (sym is) in
    let none = le-ltb c.args.value c.concept_count-concepts.result c.if-value-concepts.false in
    none
    ∙ sym (λ i. (past ∙ none) i && not (has items c.args.value))
    ∙ outside_told indexed c.concept_count-concepts.ensures.numbers_rise items below c.args.value
    ∙ ap (λ (tested : Tested _). passes_of g.S.ConceptSet.items_of indexed.concepts tested
    (value_of indexed c.args.value)) (sym c.in-Outside.is)
