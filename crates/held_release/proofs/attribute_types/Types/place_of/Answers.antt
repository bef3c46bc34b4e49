use Rattle.std.proofs.Common.{ℕ, ◌≡◌, ◌∙◌, Some, ap, arith}
use Rattle.std.specs.List.{slice_get}
use Rattle.held_release.specs.declared.attribute_types.Types.{Types}
use Rattle.held_release.proofs.TypeLemmas.{place_near, placed_type}
use Rattle.held_release.proofs.attribute_types.Types.place_of.Goals as goal
use Rattle.held_release.proofs.attribute_types.Types.place_of.Goals.{then-is_new+in_ok-push, else-is_new}

-- the place of the type fits into 32 bits
pub overflow_cast-result : goal.overflow_cast-result
overflow_cast-result c =
    record {
      fits = omega (
        arith,
        c.in_ok-place.ensures.place,
        place_near c.args.self.now.numbers c.number.result,
        c.requires.few,
      );
    }

-- the type stands at the place that is answered
pub returns-clause-place : goal.returns-clause-place
returns-clause-place c =
    let place = c.in_ok-place.place in
    let met : slice_get c.intern.new.self place ≡ Some c.args.id =
    (λ i. slice_get (c.in_ok-place.ensures.keys i) (c.in_ok-place.ensures.place i))
    ∙ placed_type c.args.self.now.numbers c.number.result
    ∙ ap (λ (id : ℕ). Some id) c.number.ensures.number in
    elim c.if-is_new.branch [
      | then-is_new+in_ok-push w ↦ ap (λ (types : Types). slice_get types.numbers place) w.self-is ∙ met
      | else-is_new w ↦ ap (λ (types : Types). slice_get types.numbers place) w.self-is ∙ met
    ]
