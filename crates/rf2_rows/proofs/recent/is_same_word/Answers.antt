use Rattle.std.proofs.Common.{◌≡◌, ◌∙◌, ◌-◌, List, ℕ, w64, length, length-drop, take, take_all, drop, ap, arith, sym}
use Rattle.std.specs.Int.{from_le_bytes}
use Rattle.std.proofs.lemmas.Bool.{eqb-true}
use Rattle.rf2_rows.proofs.Words.{same_word_at}
use Rattle.rf2_rows.proofs.recent.is_same_word.Goals as goal

-- two words are equal if the numbers that their bytes make are equal
pub returns-in-Some-Some : goal.returns-in-Some-Some
returns-in-Some-Some c = λ same.
    let one : List ℕ = c.args.one.now in
    let other : List ℕ = c.args.other.now in
    let to_end = λ (text : List ℕ). take_all (length text - c.args.place) (drop c.args.place text)
    (omega (arith, length-drop c.args.place text)) in
    let one_is : c.in-Some-Some.one.now ≡ take 8 (drop c.args.place one) =
    c.in-Some-Some.ensures.cases.same ∙ ap (take 8) (to_end one) in
    let other_is : c.in-Some-Some.other.now ≡ take 8 (drop c.args.place other) =
    c.in-Some-Some.ensures'.cases.same ∙ ap (take 8) (to_end other) in
    same_word_at one other c.args.place c.requires.one c.requires.other
    (λ i. omega (arith, c.type_inv.one i)) (λ i. omega (arith, c.type_inv.other i))
    (ap (from_le_bytes w64) (sym one_is) ∙ sym c.from_le_bytes.ensures ∙ eqb-true _ _ same
    ∙ c.from_le_bytes-in-Some-Some.ensures ∙ ap (from_le_bytes w64) other_is)
