use Rattle.std.proofs.Common.{ℕ, ◌≡◌, ◌<◌, ◌+◌, ◌-◌, ◌∙◌, get_or, length, pos, refl, ap, subst, arith}
use Rattle.constraint_tree.specs.Passing.{is_number_that}
use Rattle.pair_sets.specs.inside.Hits.{value_of}
use Rattle.pair_sets.specs.Tested.{meets}
use Rattle.pair_sets.proofs.PassingLemmas.{concept_fails, decimal_told, past_decimals}
use Rattle.pair_sets.proofs.passing.is_number.Goals as goal

-- a value that is a concept is no number
pub returns-then-value-concepts : goal.returns-then-value-concepts
returns-then-value-concepts c =
    concept_fails c.args.compare c.args.number.0 c.args.reader.indexes.now c.args.value
    (subst (λ (count : ℕ). c.args.value < count) c.concept_count-concepts.ensures.numbers c.if-value-concepts.true)

-- a value after the decimals is no number
pub returns-then-place-decimal_count : goal.returns-then-place-decimal_count
returns-then-place-decimal_count c =
    let indexed = c.args.reader.indexes.now in
    let k : ℕ = c.args.value - c.concept_count-concepts.result in
    let whole : length indexed.concepts + k ≡ c.args.value =
    omega (arith, c.concept_count-concepts.ensures.numbers, c.if-value-concepts.false) in
    past_decimals c.args.compare c.args.number.0 indexed k
    (omega (arith, c.if-place-decimal_count.true, c.decimal_count.ensures))
    ∙ ap (λ (n : ℕ). is_number_that c.args.compare c.args.number.0 (value_of indexed n)) whole

-- a decimal is a number that compares as is asked exactly if its order to `number` meets the comparison
pub returns : goal.returns
returns c =
    let indexed = c.args.reader.indexes.now in
    let k : ℕ = c.args.value - c.concept_count-concepts.result in
    let whole : length indexed.concepts + k ≡ c.args.value =
    omega (arith, c.concept_count-concepts.ensures.numbers, c.if-value-concepts.false) in
    c.meets.ensures
    ∙ ap (meets c.args.compare) c.compare_decimal.ensures
    ∙ decimal_told c.args.compare c.args.number.0 indexed k
    (omega (arith, c.if-place-decimal_count.false, c.decimal_count.ensures))
    (get_or indexed.decimals k (pos 0)) refl
    ∙ ap (λ (n : ℕ). is_number_that c.args.compare c.args.number.0 (value_of indexed n)) whole
