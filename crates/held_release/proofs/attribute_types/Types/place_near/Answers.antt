use Rattle.std.proofs.Common.{ℕ, ◌≡◌, ◌∙◌, ◌++◌, ◌∷◌, [], Bool, List, Some, true, ap, cond, nat_eq, refl, subst, sym}
use Rattle.std.specs.Bool.{OnTrue}
use Rattle.std.specs.List.{list_any, slice_get}
use Rattle.std.proofs.lemmas.Bool.{eq-eqb}
use Rattle.std.proofs.lemmas.List.Folds.{list_any_at}
use Rattle.std.proofs.lemmas.Option.{get_or_from_slice_get, slice_get_within}
use Rattle.held_release.proofs.attribute_types.Types.place_near.Goals as goal

-- if the type stands at the guessed place, it is among the types, and `keys_after` adds none
pub returns-then-is_at-clause-numbers : goal.returns-then-is_at-clause-numbers
returns-then-is_at-clause-numbers c =
    let numbers = c.args.self.now.numbers in
    let id = c.args.id in
    let guess = c.unwrap_or-guess.result in
    let here : slice_get numbers guess ≡ Some id =
    ap (λ (ids : List ℕ). slice_get ids guess) (sym c.requires.ids ∙ sym c.as_slice.ensures.value)
    ∙ subst (λ (is : Bool). OnTrue is (slice_get c.as_slice.result.now guess ≡ Some id)) c.if-is_at.true
    c.is_at.ensures in
    let told : list_any (nat_eq id) numbers ≡ true =
    list_any_at (nat_eq id) numbers guess 0 (slice_get_within numbers guess id here)
    (ap (nat_eq id) (get_or_from_slice_get numbers guess id 0 here) ∙ eq-eqb id id refl) in
    ap (λ (has : Bool). cond has numbers (numbers ++ id ∷ [])) (sym told)
